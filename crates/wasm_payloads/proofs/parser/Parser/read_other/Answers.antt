use Rattle.std.proofs.Common.{◌≡◌, Some, inl, inr, sym, subst, ◌∙◌}
use Rattle.wasm_sections.specs.Order.{data_fault}
use Rattle.wasm_payloads.specs.Parsing.{data_fault_at}
use Rattle.wasm_payloads.proofs.parser.Parser.read_other.Goals as goal

pub returns-in-Err-read_payload-clause-err : goal.returns-in-Err-read_payload-clause-err
returns-in-Err-read_payload-clause-err c =
    rw (← c.self.view_is) (c.requires, inr (c.in-Ok.contents, c.read_contents.new.reader, c.in-Ok.ensures, inl c.in-Err-read_payload.ensures.reads))

pub returns-in-Some-clause-err : goal.returns-in-Some-clause-err
returns-in-Some-clause-err c =
    let counts = c.read_payload.new.counts in
    let plain : data_fault counts.data_count counts.«data» ≡ Some c.in-Some.what = sym c.data_fault.ensures ∙ c.in-Some.is in
    let here = subst (λ i. data_fault_at i counts ≡ Some c.in-Some.what) (sym c.if-header-eq-DATA.true) plain in
    let fault = subst (λ k. data_fault_at c.args.header.id k ≡ Some c.in-Some.what) c.in-Ok-read_payload.ensures.counts here in
    let placed = c.malformed.ensures.1 ∙ c.original_position-offset.ensures in
    rw (← c.self.view_is) (
      c.requires,
      inr (
        c.in-Ok.contents,
        c.read_contents.new.reader,
        c.in-Ok.ensures,
        inr (c.in-Ok-read_payload.payload, c.in-Some.what, c.in-Ok-read_payload.ensures.reads, fault, (c.malformed.ensures.0, placed)),
      ),
    )
