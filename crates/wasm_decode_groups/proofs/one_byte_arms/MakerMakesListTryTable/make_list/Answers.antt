use Rattle.std.proofs.Common.{[], ◌≡◌, ◌∷◌, None, refl, subst, arith}
use Rattle.wasm_instr.specs.declared.operator.Operator.TheVariants as operator
use Rattle.wasm_imm.specs.Immediate.{try_clauses}
use Rattle.wasm_decode_groups.specs.Arms.{IsRow}
use Rattle.wasm_decode_groups.proofs.Codes.{try_table_codes}
use Rattle.wasm_decode_groups.proofs.one_byte_arms.MakerMakesListTryTable.make_list.Goals as goal

pub returns : goal.returns
returns c =
    let h = try_table_codes c.args._code c.requires in
    let same : 0x1f ≡ c.args._code = first_of (omega (arith, h), grind (arith, h)) in
    subst (λ k. IsRow None k (try_clauses c.args.it ∷ []) (operator.TryTable c.args.it)) same (refl, refl, refl)
