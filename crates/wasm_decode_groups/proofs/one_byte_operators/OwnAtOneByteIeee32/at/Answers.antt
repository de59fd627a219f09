-- Written by tools/lists.py from tools/operators.tsv.
use Rattle.std.proofs.Common.{[], None, refl, subst, arith, ◌≡◌, ◌∷◌}
use Rattle.wasm_instr.specs.declared.operator.Operator.TheVariants as operator
use Rattle.wasm_imm.specs.Immediate.{float_32}
use Rattle.wasm_decode_opcodes.specs.Decoding.{VisitsRow}
use Rattle.wasm_decode_groups.proofs.Codes.{one_byte_float_32_codes}
use Rattle.wasm_decode_groups.proofs.one_byte_operators.OwnAtOneByteIeee32.at.Goals as goal

pub returns : goal.returns
returns g c =
    let h = one_byte_float_32_codes c.args._code c.requires.kinds in
    let same : 0x43 ≡ c.args._code = first_of (omega (arith, h), grind (arith, h)) in
    subst (λ k. VisitsRow g.V.Visitor.visits None k (float_32 c.args.it ∷ []) c.args.v.now c.visit_f32_const.result c.visit_f32_const.new.self) same (operator.F32Const (c.args.it), refl, refl, refl, c.visit_f32_const.ensures)
