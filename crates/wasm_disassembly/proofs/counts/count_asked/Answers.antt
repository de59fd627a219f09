use Rattle.std.proofs.Common.{List, ℕ, [], ◌∷◌, Err, Ok, refl, sym, ap, subst, ◌∙◌, inl, inr}
use Rattle.wasm_module.specs.ModuleFunctions.{index_of}
use Rattle.wasm_listing.specs.Dump.{input_of, IsBody, IsNotRefused}
use Rattle.wasm_listing.specs.Census.{Counts}
use Rattle.wasm_listing.specs.declared.fault.DumpFault.{DumpFault}
use Rattle.wasm_listing.specs.declared.fault.DumpFault.TheVariants as dump
use Rattle.wasm_disassembly.specs.Listing.{is_asked}
use Rattle.wasm_disassembly.specs.ModuleCensus.{AddsBody, IsCounted}
use Rattle.wasm_disassembly.proofs.Asked.{asked_for, asked_only}
use Rattle.wasm_disassembly.proofs.counts.count_asked.Goals as goal

pub returns-in-Ok-complain-clause-adds : goal.returns-in-Ok-complain-clause-adds
returns-in-Ok-complain-clause-adds g c =
    let e = c.in-Err-Refused.e in
    let index = index_of c.args.functions.now c.args.place in
    let reported = (c.index-index.result, c.moved.result) ∷ [] in
    let counts = subst (λ (bytes : List ℕ). Counts (input_of c.args.features bytes) (Err (dump.Refused e))) c.as_bytes.ensures
    (subst (λ (f : DumpFault). Counts (input_of c.args.features c.as_bytes.result.now) (Err f)) c.in-Err-Refused.field-0-is c.in-Err-Refused.ensures.counts) in
    let adds : AddsBody c.args.features index c.args.body.now reported c.args.counts.now c.args.counts.now =
    inr (e, counts, refl, ap (λ i. (i, c.moved.result) ∷ []) c.index-index.ensures ∙ ap (λ m. (index, m) ∷ []) c.moved.ensures) in (
      reported,
      asked_for _ _ c.is_asked.result _ (c.is_asked.ensures ∙ ap (is_asked c.args.only) c.index-index.ensures) c.if-not-is_asked.false adds,
      (c.complain.new.self, c.in-Ok-complain.ensures, refl),
      refl,
    )

pub returns-in-Ok-clause-adds : goal.returns-in-Ok-clause-adds
returns-in-Ok-clause-adds g c =
    let index = index_of c.args.functions.now c.args.place in
    let counts = subst (λ (bytes : List ℕ). Counts (input_of c.args.features bytes) (Ok c.in-Ok.more)) c.as_bytes.ensures c.in-Ok.ensures.counts in
    let adds : AddsBody c.args.features index c.args.body.now [] c.args.counts.now c.add.new.counts = inl (c.in-Ok.more, counts, c.add.ensures, refl) in
    ([], asked_for _ _ c.is_asked.result _ (c.is_asked.ensures ∙ ap (is_asked c.args.only) c.index-index.ensures) c.if-not-is_asked.false adds, refl, refl)

pub returns-in-Ok-complain-clause-whole : goal.returns-in-Ok-complain-clause-whole
returns-in-Ok-complain-clause-whole g c =
    λ requested.
    let counted : IsCounted c.args.features c.args.body.now =
    asked_only _ _ c.is_asked.result _ (c.is_asked.ensures ∙ ap (is_asked c.args.only) c.index-index.ensures) c.if-not-is_asked.false requested in
    let (declarations, placed, body) = counted in
    let here = subst (λ (bytes : List ℕ). IsBody (input_of c.args.features bytes) declarations placed) (sym c.as_bytes.ensures) body in
    let kept = c.in-Err-Refused.ensures.whole declarations placed here in
    absurd (subst (λ (f : DumpFault). IsNotRefused {X = List ℕ} (Err f)) c.in-Err-Refused.field-0-is kept)
