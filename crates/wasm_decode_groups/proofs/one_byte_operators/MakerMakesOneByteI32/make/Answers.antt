-- Written by tools/lists.py from tools/operators.tsv.
use Rattle.std.proofs.Common.{[], None, refl, subst, ap, arith, ◌≡◌, ◌∷◌, rules, w32, to_z, of_z}
use Rattle.std.proofs.lemmas.Int.{to_z-of_z}
use mir.Val.{SFits}
use Rattle.wasm_instr.specs.declared.operator.Operator.TheVariants as operator
use Rattle.wasm_imm.specs.Immediate.{signed_32}
use Rattle.wasm_decode_groups.specs.Arms.{IsRow}
use Rattle.wasm_decode_groups.proofs.Codes.{one_byte_signed_32_codes}
use Rattle.wasm_decode_groups.proofs.one_byte_operators.MakerMakesOneByteI32.make.Goals as goal

pub returns : goal.returns
returns c =
    let h = one_byte_signed_32_codes c.args._code c.requires.kinds in
    let same : 0x41 ≡ c.args._code = first_of (omega (arith, h), grind (arith, h)) in
    let fits : SFits w32 c.args.it = search rules in
    subst (λ k. IsRow None k (signed_32 c.args.it ∷ []) (operator.I32Const (to_z w32 (of_z w32 c.args.it)))) same (refl, refl, ap (λ z. signed_32 z ∷ []) (to_z-of_z w32 c.args.it fits))
