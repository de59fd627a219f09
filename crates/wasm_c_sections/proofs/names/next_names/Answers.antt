use Rattle.std.proofs.Common.{◌≡◌, ◌≢◌, [], inl, inr, refl, rules, subst, Ok}
use Rattle.wasm_below.specs.Source.{rest}
use Rattle.wasm_names.specs.Subsections.{ReadsSubsection, FailsSubsection}
use Rattle.wasm_c_sections.proofs.names.next_names.Goals as goal

pub returns-in-Ok : goal.returns-in-Ok
returns-in-Ok c =
    let is = c.in-Some.ensures.some in
    let read = subst (λ r. ReadsSubsection (Ok c.in-Ok.found) r c.read_name.new.reader) is.1 c.in-Ok.ensures in
    inl (c.none.ensures, (is.0, (c.in-Ok.found, c.read_name.new.reader, read, c.names_of.ensures, c.at.ensures)))

pub returns-in-Err : goal.returns-in-Err
returns-in-Err c =
    let is = c.in-Some.ensures.some in
    let some : rest c.in-Some.reader ≢ [] = search rules in
    let left = subst (λ r. rest r ≢ []) is.1 some in
    let fails = subst (λ r. FailsSubsection c.in-Err.e r) is.1 c.in-Err.ensures.1 in
    inr (refl, refl, inl (is.0, left, (c.in-Err.e, c.of.ensures, fails)))
