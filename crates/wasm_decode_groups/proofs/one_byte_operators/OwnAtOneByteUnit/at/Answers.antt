-- Written by tools/lists.py from tools/operators.tsv.
use Rattle.std.proofs.Common.{[], None, refl, subst, arith, ◌≡◌, ◌≤◌}
use Rattle.wasm_instr.specs.declared.operator.Operator.TheVariants as operator
use Rattle.wasm_decode_opcodes.specs.Decoding.{VisitsRow}
use Rattle.wasm_decode_groups.proofs.Codes.{one_byte_without_immediates_codes}
use Rattle.wasm_decode_groups.proofs.one_byte_operators.OwnAtOneByteUnit.at.Goals as goal

pub returns-in_default : goal.returns-in_default
returns-in_default g c =
    let h = one_byte_without_immediates_codes c.args.code c.requires.kinds in
    let bound : 0x45 ≤ c.args.code → c.args.code ≤ 0xc4 → ⊥ = c.requires.group in
    let same : 0xd4 ≡ c.args.code = first_of (omega (arith, h), grind (arith, h, bound)) in
    subst (λ k. VisitsRow g.V.Visitor.visits None k ([]) c.args.v.now c.visit_ref_as_non_null.result c.visit_ref_as_non_null.new.self) same (operator.RefAsNonNull, refl, refl, refl, c.visit_ref_as_non_null.ensures)
