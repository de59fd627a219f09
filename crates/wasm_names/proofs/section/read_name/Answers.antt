use Rattle.std.proofs.Common.{inl, inr, subst}
use Rattle.wasm_below.specs.Source.{offset_of}
use Rattle.wasm_grammars.specs.Grammar.{HasReadBy}
use Rattle.wasm_grammars.specs.Reading.{Fails}
use Rattle.wasm_sections.specs.Section.{section}
use Rattle.wasm_names.specs.Subsections.{IsName, FailsName}
use Rattle.wasm_names.proofs.Refused.{subsection_refused}
use Rattle.wasm_names.proofs.section.read_name.Goals as goal

pub returns-in_err-subsection : goal.returns-in_err-subsection
returns-in_err-subsection c =
    let error = subst (λ r. Fails (section r.features) (offset_of r) c.in_err-subsection.field-0.0 r) c.clone-ahead.ensures c.in_err-subsection.ensures.reads.1 in
    subsection_refused _ c.from_residual.ensures.1 (inl error)

pub returns-in_err-name : goal.returns-in_err-name
returns-in_err-name c =
    let s = c.in_ok-subsection.subsection in
    let end = c.read_section.new.reader in
    let e = c.in_err-name.field-0.0 in
    let read = subst (λ r. HasReadBy (section r.features) s r end) c.clone-ahead.ensures c.in_ok-subsection.ensures.reads in
    let with_id = subst (λ i. FailsName i e c.contents.result) c.id.ensures c.in_err-name.ensures in
    let name = subst (λ r. FailsName s.id e r) c.contents.ensures with_id in
    subsection_refused _ c.from_residual-in_err-name.ensures.1 (inr (s, end, read, name))

pub returns : goal.returns
returns c =
    let s = c.in_ok-subsection.subsection in
    let n = c.in_ok-name.name in
    let read = subst (λ r. HasReadBy (section r.features) s r c.read_section.new.reader) c.clone-ahead.ensures c.in_ok-subsection.ensures.reads in
    let with_id = subst (λ i. IsName i n c.contents.result) c.id.ensures c.in_ok-name.ensures in
    (s, read, subst (λ r. IsName s.id n r) c.contents.ensures with_id)
