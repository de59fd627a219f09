-- Written by tools/lists.py from tools/operators.tsv.
use Rattle.std.proofs.Common.{[], None, refl, subst, arith, ◌≡◌, ◌∷◌}
use Rattle.wasm_instr.specs.declared.operator.Operator.TheVariants as operator
use Rattle.wasm_imm.specs.Immediate.{block_type}
use Rattle.wasm_decode_opcodes.specs.Decoding.{VisitsRow}
use Rattle.wasm_decode_groups.proofs.Codes.{one_byte_block_type_codes}
use Rattle.wasm_decode_groups.proofs.one_byte_operators.OwnAtOneByteBlockType.at.Goals as goal

pub returns-in_default : goal.returns-in_default
returns-in_default g c =
    let h = one_byte_block_type_codes c.args.code c.requires.kinds in
    let same : 0x06 ≡ c.args.code = first_of (omega (arith, h), grind (arith, h)) in
    subst (λ k. VisitsRow g.V.Visitor.visits None k (block_type c.args.it ∷ []) c.args.v.now c.visit_try.result c.visit_try.new.self) same (operator.Try (c.args.it), refl, refl, refl, c.visit_try.ensures)
