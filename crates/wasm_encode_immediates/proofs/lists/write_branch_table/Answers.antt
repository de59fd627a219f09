use Rattle.std.proofs.Common.{◌++◌, subst, ap, ◌∙◌, arith}
use Rattle.wasm_below.specs.Number.{EncodesUnsigned}
use Rattle.wasm_encode_numbers.specs.Appended.{Appends}
use Rattle.wasm_encode_immediates.proofs.ListTexts.{table_appended, table_not_grown}
use Rattle.wasm_encode_immediates.proofs.lists.write_branch_table.Goals as goal

pub returns-in-Ok : goal.returns-in-Ok
returns-in-Ok c =
    let t = c.args.table.now in
    let g = c.reserve.ensures.capacity in
    let k = c.write_u32.ensures.capacity in
    let l = c.write_bytes.ensures.capacity in
    let m = c.write_u32-in-Ok.ensures.capacity in
    let first = subst (λ n. Appends (EncodesUnsigned 32) n c.args.out.now.items c.write_u32.new.out.items) c.len.ensures (subst (λ z. Appends (EncodesUnsigned 32) c.len.result z c.write_u32.new.out.items) c.reserve.ensures.items c.write_u32.ensures.written) in
    let last = subst (λ n. Appends (EncodesUnsigned 32) n c.write_bytes.new.out.items c.write_u32-in-Ok.new.out.items) c.default.ensures c.write_u32-in-Ok.ensures.written in (
      table_appended c.args._features t _ _ _ _ c.target_bytes-targets.ensures.limit c.target_bytes-targets.ensures.targets first
          (c.write_bytes.ensures.bytes ∙ ap (λ z. c.write_u32.new.out.items ++ z) c.target_bytes-targets.ensures.bytes) last,
      omega (arith, g, k, l, m),
    )

pub returns-in-Err : goal.returns-in-Err
returns-in-Err c = (table_not_grown c.args._features c.args.table.now _ _ c.reserve.ensures.items, c.reserve.ensures.capacity)
