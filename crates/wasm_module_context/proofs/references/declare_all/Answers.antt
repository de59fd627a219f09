use Rattle.std.proofs.Common.{◌≡◌, suc, ◌+◌, ◌∷◌, drop, inl, inr, sym, ap, subst, ◌∙◌, add-one, drop-cons}
use Rattle.wasm_module_context.specs.References.{Declares, FailsToDeclare}
use Rattle.wasm_module_context.proofs.references.declare_all.Goals as goal

pub loop-operator-preserved : goal.loop-operator-preserved
loop-operator-preserved c =
    let xs = c.args.operators.now in
    let i = c.loop-operator.operator-index in
    let p = c.loop-operator-item.result in
    let rest : drop i xs ≡ p ∷ drop (i + 1) xs =
    drop-cons xs i p c.loop-operator-test.true ∙ ap (λ h. h ∷ drop (suc i) xs) (sym c.loop-operator-item.is) ∙ ap (λ n. p ∷ drop n xs) (sym (add-one i)) in
    record {
      declares = λ d more. c.loop-operator.invariant.declares d
          (subst (λ l. Declares l c.loop-operator.context d) (sym rest) (c.declare_one.new.context, c.in_default.ensures.declared, more));
      fails = λ e more. c.loop-operator.invariant.fails e
          (subst (λ l. FailsToDeclare l c.loop-operator.context e) (sym rest) (inr (c.declare_one.new.context, c.in_default.ensures.declared, more)));
    }

pub returns-in-Err-clause-refused : goal.returns-in-Err-clause-refused
returns-in-Err-clause-refused c =
    let xs = c.args.operators.now in
    let i = c.loop-operator.operator-index in
    let p = c.loop-operator-item.result in
    let rest : drop i xs ≡ p ∷ drop (i + 1) xs =
    drop-cons xs i p c.loop-operator-test.true ∙ ap (λ h. h ∷ drop (suc i) xs) (sym c.loop-operator-item.is) ∙ ap (λ n. p ∷ drop n xs) (sym (add-one i)) in
    c.loop-operator.invariant.fails c.in-Err.e (subst (λ l. FailsToDeclare l c.loop-operator.context c.in-Err.e) (sym rest) (inl c.in-Err.ensures.refused))
