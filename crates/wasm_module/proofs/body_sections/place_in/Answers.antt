use Rattle.std.proofs.Common.{Some, sym, subst, arith}
use Rattle.wasm_below.specs.Source.{reader_of}
use Rattle.wasm_module.specs.Sections.{IsModule, IsSection}
use Rattle.wasm_module.specs.Bodies.{module_of}
use Rattle.wasm_module.proofs.Places.{not_beyond}
use Rattle.wasm_module.proofs.body_sections.place_in.Goals as goal

pub returns-in-Ok-None-clause-none : goal.returns-in-Ok-None-clause-none
returns-in-Ok-None-clause-none c = λ there a.
    let b = c.args.bytes.now in
    let is = subst (λ f. IsSection (reader_of f 0 b) c.args.id c.in-Ok-None.field-0) c.all.ensures c.in-Ok-None.ensures.ok in
    let same = c.sections.ensures (module_of b) c.args.id (Some a.contents) c.in-Ok-None.field-0 a.is_section is in
    absurd (cc (same, c.in-Ok-None.field-0-is))

pub returns-in-Err-clause-none : goal.returns-in-Err-clause-none
returns-in-Err-clause-none c = λ there a.
    let sections = a.is_section.0 in
    c.in-Err.ensures.refused sections (subst (λ f. IsModule (reader_of f 0 c.args.bytes.now) sections) (sym c.all.ensures) a.is_section.1)

pub returns-then-read-bytes_remaining-clause-none : goal.returns-then-read-bytes_remaining-clause-none
returns-then-read-bytes_remaining-clause-none c = λ there a.
    let b = c.args.bytes.now in
    let ok = subst (λ f. IsSection (reader_of f 0 b) c.args.id c.in-Ok-Some.field-0) c.all.ensures c.in-Ok-Some.ensures.ok in
    let is = subst (IsSection (module_of b) c.args.id) c.in-Ok-Some.field-0-is ok in
    not_beyond c.sections.ensures b c.args.id c.args.read c.in-Ok-Some.contents there is
    (λ within. absurd (omega (arith, within, c.if-read-bytes_remaining.true, c.bytes_remaining.ensures))) a
