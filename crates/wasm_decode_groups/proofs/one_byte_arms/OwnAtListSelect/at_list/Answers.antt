use Rattle.std.proofs.Common.{[], ◌≡◌, ◌∷◌, None, refl, sym, ap, subst, arith}
use Rattle.wasm_instr.specs.declared.operator.Operator.TheVariants as operator
use Rattle.wasm_imm.specs.Immediate.{select_types}
use Rattle.wasm_decode_opcodes.specs.Decoding.{VisitsRow}
use Rattle.wasm_decode_groups.proofs.Codes.{select_codes}
use Rattle.wasm_decode_groups.proofs.one_byte_arms.OwnAtListSelect.at_list.Goals as goal

pub returns-in-One : goal.returns-in-One
returns-in-One g c =
    let h = select_codes c.args._code c.requires in
    let same : 0x1c ≡ c.args._code = first_of (omega (arith, h), grind (arith, h)) in
    subst (λ k. VisitsRow g.V.Visitor.visits None k (select_types c.args.it ∷ []) c.args.v.now c.visit_typed_select.result c.visit_typed_select.new.self) same (operator.TypedSelect c.in-One.ty, refl, refl, ap (λ z. select_types z ∷ []) (sym c.in-One.is), c.visit_typed_select.ensures)

pub returns-in-Multi : goal.returns-in-Multi
returns-in-Multi g c =
    let h = select_codes c.args._code c.requires in
    let same : 0x1c ≡ c.args._code = first_of (omega (arith, h), grind (arith, h)) in
    subst (λ k. VisitsRow g.V.Visitor.visits None k (select_types c.args.it ∷ []) c.args.v.now c.visit_typed_select_multi.result c.visit_typed_select_multi.new.self) same (operator.TypedSelectMulti c.in-Multi.tys, refl, refl, ap (λ z. select_types z ∷ []) (sym c.in-Multi.is), c.visit_typed_select_multi.ensures)
