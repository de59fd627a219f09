-- Written by tools/lists.py from tools/operators.tsv.
use Rattle.std.proofs.Common.{[], None, refl, subst, ap, arith, ◌≡◌, ◌∷◌, rules, w64, to_z, of_z}
use Rattle.std.proofs.lemmas.Int.{to_z-of_z}
use mir.Val.{SFits}
use Rattle.wasm_instr.specs.declared.operator.Operator.TheVariants as operator
use Rattle.wasm_imm.specs.Immediate.{signed_64}
use Rattle.wasm_decode_groups.specs.Arms.{IsRow}
use Rattle.wasm_decode_groups.proofs.Codes.{one_byte_signed_64_codes}
use Rattle.wasm_decode_groups.proofs.one_byte_operators.MakerMakesOneByteI64.make.Goals as goal

pub returns : goal.returns
returns c =
    let h = one_byte_signed_64_codes c.args._code c.requires.kinds in
    let same : 0x42 ≡ c.args._code = first_of (omega (arith, h), grind (arith, h)) in
    let fits : SFits w64 c.args.it = search rules in
    subst (λ k. IsRow None k (signed_64 c.args.it ∷ []) (operator.I64Const (to_z w64 (of_z w64 c.args.it)))) same (refl, refl, ap (λ z. signed_64 z ∷ []) (to_z-of_z w64 c.args.it fits))
