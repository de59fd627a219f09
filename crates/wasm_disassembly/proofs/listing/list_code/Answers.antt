use Rattle.std.proofs.Common.{Err, [], ◌∷◌, ◌++◌, ◌<◌, refl, sym, subst, ap, ◌∙◌, arith, inl, inr}
use Rattle.std.proofs.lemmas.Result.{err_from_is_err_and}
use Rattle.wasm_operators.specs.Section.{SectionItems}
use Rattle.wasm_disassembly.proofs.Asked.{item_read, halts_later}
use Rattle.wasm_disassembly.proofs.Bodies.{body_more, none_both}
use Rattle.wasm_disassembly.proofs.Ended.{all_read, stopped_after}
use Rattle.wasm_disassembly.proofs.Found.{asked_split, both_true}
use Rattle.wasm_disassembly.specs.Listing.{ListsCode, AreAsked, IsFunction, IsOutside}
use Rattle.wasm_disassembly.proofs.Counted.{fits_32, place_more, fewer_left}
use Rattle.wasm_disassembly.proofs.ListingWritten.{writes_none, writes_more}
use Rattle.wasm_disassembly.proofs.Shown.{at_halt}
use Rattle.wasm_disassembly.proofs.listing.list_code.Goals as goal

pub bodies-init : goal.bodies-init
bodies-init g c = (
  [],
  refl,
  omega arith,
  ap (λ (s : SectionItems). s.refused) c.into_iter-items.ensures.into_iter_gives,
  refl,
  [],
  writes_none g.C.Complaints.reports c.args.names.now c.args.functions.now c.args.only c.args.complaints.now (g.W.Write.contents c.args.writer.now),
  refl,
  λ all. refl,
)

pub bodies-preserved : goal.bodies-preserved
bodies-preserved g c =
    let (bodies, occur, sum, none, place, reported, writes, whole, all) = c.bodies.invariant in
    let body = c.in-Ok-item.body in
    let (refused, still, one, reads, placed) = item_read c.in-Some.item body c.bodies.items c.next.new.self c.in-Ok-item.is c.in-Some.ensures.steps in
    let (new_reported, text, appends, written, reports, is_whole) = c.in_ok-whole.ensures.lists in
    let first = c.in-Ok.ensures.count in
    let fits = subst (λ n. n < 4294967296) (sym (ap (λ (s : SectionItems). s.remaining) c.into_iter-items.ensures.into_iter_gives)) (fits_32 first.0 c.in-Ok.section.count first.1) in (
      bodies ++ body ∷ [],
      body_more c.into_iter-items.result.reader bodies c.bodies.items.reader c.next.new.self.reader body occur reads placed,
      fewer_left bodies body c.bodies.items.remaining c.next.new.self.remaining c.into_iter-items.result.remaining sum one,
      still,
      place_more bodies body c.bodies.place c.saturating_add-place.result c.bodies.items.remaining c.next.new.self.remaining
          c.into_iter-items.result.remaining place sum one fits c.saturating_add-place.ensures,
      reported ++ new_reported,
      writes_more g.C.Complaints.reports c.args.names.now c.args.functions.now c.args.only bodies body reported new_reported text c.bodies.place c.args.complaints.now
          c.bodies.complaints c.list_asked.new.complaints (g.W.Write.contents c.args.writer.now) (g.W.Write.contents c.bodies.writer)
          (g.W.Write.contents c.list_asked.new.writer) place writes written reports appends,
      cc (whole, is_whole) ∙ none_both reported new_reported,
      λ asked.
          let split = asked_split IsFunction c.args.functions.now c.args.only 0 bodies body c.bodies.place (place ∙ sym (omega arith)) asked in
          both_true c.bodies.whole c.in_ok-whole.field-0 (all split.0) (c.in_ok-whole.ensures.whole split.1),
    )

pub returns-in-Err-clause-lists : goal.returns-in-Err-clause-lists
returns-in-Err-clause-lists g c = (
  [],
  inl (refl, (c.in-Err.ensures.refused, c.in-Err.ensures.fault)),
  [],
  writes_none g.C.Complaints.reports c.args.names.now c.args.functions.now c.args.only c.args.complaints.now (g.W.Write.contents c.args.writer.now),
)

pub returns-in-Err-clause-whole : goal.returns-in-Err-clause-whole
returns-in-Err-clause-whole g c =
    λ all code asked. c.no_refusal.ensures c.args.code all [] c.in-Err.e code (inl (refl, (c.in-Err.ensures.refused, c.in-Err.ensures.fault)))

pub returns-in-Err-item-clause-whole : goal.returns-in-Err-item-clause-whole
returns-in-Err-item-clause-whole g c =
    let (bodies, occur, sum, none, place, reported, writes, whole, each) = c.bodies.invariant in
    let stops = stopped_after c.args.code c.in-Ok.section c.into_iter-items.result c.bodies.items c.next.new.self bodies c.in-Err-item.e c.in-Some.item
    c.in-Ok.ensures.count c.into_iter-items.ensures.into_iter_gives occur sum c.in-Err-item.is c.in-Some.ensures.steps in
    λ all code asked. c.no_refusal.ensures c.args.code all bodies c.in-Err-item.e code (inr stops)

pub returns-clause-whole : goal.returns-clause-whole
returns-clause-whole g c =
    let (bodies, occur, sum, none, place, reported, writes, whole, each) = c.bodies.invariant in
    let read = all_read c.args.code c.in-Ok.section c.into_iter-items.result c.bodies.items bodies c.in-Ok.ensures.count
    c.into_iter-items.ensures.into_iter_gives occur sum none c.in_default.ensures.steps.1 in
    λ all code asked. each (subst (λ bs. AreAsked IsFunction c.args.functions.now c.args.only 0 bs) (c.one_list.ensures c.args.code all bodies code read) asked)

pub returns-in_err-whole-clause-lists : goal.returns-in_err-whole-clause-lists
returns-in_err-whole-clause-lists g c =
    let p = err_from_is_err_and c.from_residual.result c.from_residual.ensures.1 in
    rw (p.1, p.2) (at_halt (λ f. ListsCode g.C.Complaints.reports c.args.names.now c.args.functions.now c.args.only c.args.code (Err f) c.args.complaints.now c.list_asked.new.complaints
    (g.W.Write.contents c.args.writer.now) (g.W.Write.contents c.list_asked.new.writer)) c.in_err-whole.field-0.0 c.in_err-whole.ensures.halts tt tt)

pub returns-in_err-whole-clause-whole : goal.returns-in_err-whole-clause-whole
returns-in_err-whole-clause-whole g c =
    λ all code asked.
    let p = err_from_is_err_and c.from_residual.result c.from_residual.ensures.1 in
    rw (p.1, p.2) (at_halt (λ f. IsOutside f) c.in_err-whole.field-0.0 c.in_err-whole.ensures.halts tt tt)

pub returns-in_err-whole-clause-later : goal.returns-in_err-whole-clause-later
returns-in_err-whole-clause-later g c =
    let p = err_from_is_err_and c.from_residual.result c.from_residual.ensures.1 in
    rw (p.1, p.2) (halts_later c.in_err-whole.field-0.0 c.in_err-whole.ensures.halts)
