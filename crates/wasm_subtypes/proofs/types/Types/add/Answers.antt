use Rattle.std.proofs.Common.{sym, subst}
use Rattle.std.proofs.lemmas.Bool.{false≢true}
use Rattle.wasm_types.specs.Types.{types_of}
use Rattle.wasm_subtypes.specs.Composites.{AreValid}
use Rattle.wasm_subtypes.proofs.Adding.{blames_any, blames_valid}
use Rattle.wasm_subtypes.proofs.types.Types.add.Goals as goal

pub returns-in-Err-clause-blames : goal.returns-in-Err-clause-blames
returns-in-Err-clause-blames c = λ start first. blames_any c.in-Err.e _ _ (c.in-Err.ensures.blames start first)

pub returns-then-not-are_valid-clause-blames : goal.returns-then-not-are_valid-clause-blames
returns-then-not-are_valid-clause-blames c = λ start first valid.
    blames_valid c.args.self c.in-Ok.types (types_of c.args.group) c.in-Ok.ensures.added
    (λ v. false≢true (c.if-not-are_valid.ensures.1 (subst (λ l. AreValid l c.len-first.result) (sym c.list.ensures) (subst (AreValid c.in-Ok.types) (sym c.len-first.ensures) v)))) start first valid
