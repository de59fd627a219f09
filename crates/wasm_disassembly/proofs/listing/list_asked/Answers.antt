use Rattle.std.proofs.Common.{[], ◌∷◌, refl, sym, subst, ap, ◌∙◌}
use Rattle.std.proofs.lemmas.Result.{err_from_is_err_and}
use Rattle.wasm_module.specs.ModuleFunctions.{index_of}
use Rattle.wasm_disassembly.specs.Listing.{is_asked, refusals_of, IsHalt, ListsFunction}
use Rattle.wasm_disassembly.proofs.Asked.{asked_for, not_asked_for}
use Rattle.wasm_disassembly.proofs.Bodies.{appends_none, keeps_both}
use Rattle.wasm_disassembly.proofs.listing.list_asked.Goals as goal

pub returns-then-not-is_asked-clause-lists : goal.returns-then-not-is_asked-clause-lists
returns-then-not-is_asked-clause-lists g c = (
  [],
  [],
  appends_none (g.W.Write.contents c.args.writer.now),
  not_asked_for _ _ c.is_asked.result _ (c.is_asked.ensures ∙ ap (is_asked c.args.only) c.index-index.ensures) c.if-not-is_asked.true (refl, refl),
  refl,
  refl,
)

pub returns-in-Ok-clause-lists : goal.returns-in-Ok-clause-lists
returns-in-Ok-clause-lists g c =
    let l = c.in_ok-outcome.ensures.lists in
    let lists : ListsFunction c.args.names.now c.args.functions.now c.args.place c.args.body.now [] l.0 =
    (c.in_ok-outcome.outcome, l.2, ap (refusals_of (index_of c.args.functions.now c.args.place)) (sym c.in-Ok.is)) in (
      [],
      l.0,
      l.1,
      asked_for _ _ c.is_asked.result _ (c.is_asked.ensures ∙ ap (is_asked c.args.only) c.index-index.ensures) c.if-not-is_asked.false lists,
      refl,
      refl,
    )

pub returns-in_ok-complain-in-Err-clause-lists : goal.returns-in_ok-complain-in-Err-clause-lists
returns-in_ok-complain-in-Err-clause-lists g c =
    let l = c.in_ok-outcome.ensures.lists in
    let e = c.in-Err.e in
    let reported = (c.index-index.result, e) ∷ [] in
    let lists : ListsFunction c.args.names.now c.args.functions.now c.args.place c.args.body.now reported l.0 = (
      c.in_ok-outcome.outcome,
      l.2,
      ap (λ i. (i, e) ∷ []) c.index-index.ensures ∙ ap (refusals_of (index_of c.args.functions.now c.args.place)) (sym c.in-Err.is),
    ) in (
      reported,
      l.0,
      keeps_both (g.W.Write.contents c.args.writer.now) (g.W.Write.contents c.list_function.new.writer) (g.W.Write.contents c.complain.new.writer) l.0 l.1
          c.in_ok-complain-in-Err.ensures.keeps,
      asked_for _ _ c.is_asked.result _ (c.is_asked.ensures ∙ ap (is_asked c.args.only) c.index-index.ensures) c.if-not-is_asked.false lists,
      (c.complain.new.complaints, c.in_ok-complain-in-Err.ensures.reports, refl),
      refl,
    )

pub returns-in_err-outcome-clause-halts : goal.returns-in_err-outcome-clause-halts
returns-in_err-outcome-clause-halts g c = let p = err_from_is_err_and c.from_residual.result c.from_residual.ensures.1 in rw (p.1, p.2) c.in_err-outcome.ensures.halts

pub returns-in_err-complain-in-Err-clause-halts : goal.returns-in_err-complain-in-Err-clause-halts
returns-in_err-complain-in-Err-clause-halts g c = let p = err_from_is_err_and c.from_residual-in_err-complain-in-Err.result c.from_residual-in_err-complain-in-Err.ensures.1 in rw (p.1, p.2) (subst IsHalt (sym c.in_err-complain-in-Err.ensures.err) tt)
