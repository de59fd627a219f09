use Rattle.std.proofs.Common.{[], ◌≡◌, ◌∷◌, None, refl, subst, arith}
use Rattle.wasm_instr.specs.declared.operator.Operator.TheVariants as operator
use Rattle.wasm_imm.specs.Immediate.{try_clauses}
use Rattle.wasm_decode_opcodes.specs.Decoding.{VisitsRow}
use Rattle.wasm_decode_groups.proofs.Codes.{try_table_codes}
use Rattle.wasm_decode_groups.proofs.one_byte_arms.OwnAtListTryTable.at_list.Goals as goal

pub returns : goal.returns
returns g c =
    let h = try_table_codes c.args._code c.requires in
    let same : 0x1f ≡ c.args._code = first_of (omega (arith, h), grind (arith, h)) in
    subst (λ k. VisitsRow g.V.Visitor.visits None k (try_clauses c.args.it ∷ []) c.args.v.now c.visit_try_table.result c.visit_try_table.new.self) same (operator.TryTable c.args.it, refl, refl, refl, c.visit_try_table.ensures)
