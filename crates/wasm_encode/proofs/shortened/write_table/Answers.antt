use Rattle.std.proofs.Common.{◌++◌, ◌∷◌, [], ap, subst, ◌∙◌}
use Rattle.wasm_below.specs.Number.{EncodesUnsigned}
use Rattle.wasm_encode_numbers.specs.Appended.{Appends}
use Rattle.wasm_encode.proofs.Targets.{table_shortened}
use Rattle.wasm_encode.proofs.shortened.write_table.Goals as goal

pub returns-in-Ok-clause-written : goal.returns-in-Ok-clause-written
returns-in-Ok-clause-written c = λ f.
    let t = c.args.table.now in
    let code = c.push_reserved.ensures.items ∙ ap (λ z. z ++ 0x0e ∷ []) c.reserve.ensures.items in
    let count = subst (λ n. Appends (EncodesUnsigned 32) n c.push_reserved.new.self.items c.write_u32.new.out.items) c.len.ensures c.write_u32.ensures.written in
    let last = subst (λ n. Appends (EncodesUnsigned 32) n c.write_targets.new.out.items c.write_u32-in-Ok.new.out.items) c.default.ensures c.write_u32-in-Ok.ensures.written in
    table_shortened f t _ _ _ _ _ c.target_bytes.ensures.targets c.target_bytes.ensures.limit code count c.write_targets.ensures.written last
