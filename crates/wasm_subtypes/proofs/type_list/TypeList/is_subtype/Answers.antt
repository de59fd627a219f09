use Rattle.std.proofs.Common.{◌≡◌, true, false, Some, None, sym, subst, ◌∙◌, arith}
use Rattle.wasm_subtypes.specs.Descent.{equal, declared, descends}
use Rattle.wasm_subtypes.specs.Types.{identity, supertype, AreOrdered}
use Rattle.wasm_subtypes.proofs.Ascent.{ends_here, goes_up, found_true, found_false}
use Rattle.wasm_subtypes.proofs.type_list.TypeList.is_subtype.Goals as goal

pub up-preserved : goal.up-preserved
up-preserved c =
    let types = c.as_slice-types.result.now in
    let is : supertype types c.up.current ≡ Some c.in-Some.above = sym c.in-Some.ensures in (
      (λ d. c.up.invariant.0 (declared is d)),
      (λ d. goes_up (identity types) (supertype types) c.up.current c.args.of (λ e. grind (arith, e, c.identity.ensures, c.identity-wanted.ensures, c.up-test.true))
          c.in-Some.above is (c.up.invariant.1 d)),
    )

pub returns-in-None : goal.returns-in-None
returns-in-None c =
    let types = c.as_slice-types.result.now in
    let none : supertype types c.up.current ≡ None = sym c.in-None.ensures in
    subst (λ l. false ≡ descends (identity l) (supertype l) c.args.index c.args.of) (c.as_slice-types.ensures.value ∙ c.self.view_is)
    (found_false types (subst AreOrdered (sym c.as_slice-types.ensures.value) c.self.invariant) c.args.index c.args.of
    (λ d. ends_here (identity types) (supertype types) c.up.current c.args.of (λ e. grind (arith, e, c.identity.ensures, c.identity-wanted.ensures, c.up-test.true)) none (c.up.invariant.1 d)))

pub returns : goal.returns
returns c =
    let types = c.as_slice-types.result.now in
    let same : identity types c.up.current ≡ identity types c.args.of = grind (arith, c.identity.ensures, c.identity-wanted.ensures, c.up-test.false) in
    subst (λ l. true ≡ descends (identity l) (supertype l) c.args.index c.args.of) (c.as_slice-types.ensures.value ∙ c.self.view_is)
    (found_true types (subst AreOrdered (sym c.as_slice-types.ensures.value) c.self.invariant) c.args.index c.args.of (c.up.invariant.0 (equal same)))
