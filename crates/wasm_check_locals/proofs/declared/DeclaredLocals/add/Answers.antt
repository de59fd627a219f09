use Rattle.std.proofs.Common.{◌≡◌, ◌+◌, length, replicate, ◌++◌, ap, sym, subst, ◌∙◌}
use Rattle.wasm_check_locals.specs.Runs.{types_from, AreRuns}
use Rattle.wasm_check_locals.proofs.RunLemmas.{run_added, still_runs, still_counted}
use Rattle.wasm_check_locals.proofs.declared.DeclaredLocals.add.Goals as goal

pub invariant_of-self-2 : goal.invariant_of-self-2
invariant_of-self-2 c =
    let runs = c.self.inside.runs.items in
    let count = c.self.inside.count in
    let h = c.self.invariant in
    subst (λ items. AreRuns 0 items × (count + c.args.count ≡ length (types_from 0 items))) (sym c.in_ok-push.ensures.items)
    (still_runs runs count c.args.count c.args.ty h.0 h.1, still_counted runs count c.args.count c.args.ty h.0 h.1)

pub returns-clause-added : goal.returns-clause-added
returns-clause-added c =
    ap (types_from 0) c.in_ok-push.ensures.items ∙ run_added c.self.inside.runs.items c.self.inside.count c.args.count c.args.ty c.self.invariant.0 c.self.invariant.1 ∙
    ap (λ types. types ++ replicate c.args.count c.args.ty) c.self.view_is
