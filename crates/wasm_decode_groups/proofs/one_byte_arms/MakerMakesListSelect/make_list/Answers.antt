use Rattle.std.proofs.Common.{[], ◌≡◌, ◌∷◌, None, refl, sym, ap, subst, arith}
use Rattle.wasm_instr.specs.declared.operator.Operator.TheVariants as operator
use Rattle.wasm_imm.specs.Immediate.{select_types}
use Rattle.wasm_decode_groups.specs.Arms.{IsRow}
use Rattle.wasm_decode_groups.proofs.Codes.{select_codes}
use Rattle.wasm_decode_groups.proofs.one_byte_arms.MakerMakesListSelect.make_list.Goals as goal

pub returns-in-One : goal.returns-in-One
returns-in-One c =
    let h = select_codes c.args._code c.requires in
    let same : 0x1c ≡ c.args._code = first_of (omega (arith, h), grind (arith, h)) in
    subst (λ k. IsRow None k (select_types c.args.it ∷ []) (operator.TypedSelect c.in-One.ty)) same (refl, refl, ap (λ z. select_types z ∷ []) (sym c.in-One.is))

pub returns-in-Multi : goal.returns-in-Multi
returns-in-Multi c =
    let h = select_codes c.args._code c.requires in
    let same : 0x1c ≡ c.args._code = first_of (omega (arith, h), grind (arith, h)) in
    subst (λ k. IsRow None k (select_types c.args.it ∷ []) (operator.TypedSelectMulti c.in-Multi.tys)) same (refl, refl, ap (λ z. select_types z ∷ []) (sym c.in-Multi.is))
