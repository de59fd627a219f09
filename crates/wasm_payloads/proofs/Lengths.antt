-- A payload consumes bytes, or is the last.
use Rattle.std.proofs.Common.{◌≡◌, ℕ, ◌+◌, ◌<◌, ◌≤◌, inl, inr, List, length, sym, subst, ap, ◌∙◌, length-append, arith}
use Rattle.wasm_below.specs.declared.features.WasmFeatures.{WasmFeatures}
use Rattle.wasm_below.specs.Source.{Reader, rest, Takes}
use Rattle.wasm_below.proofs.Steps.{unsigned_some}
use Rattle.wasm_grammars.specs.Blocks.{contents, sized_contents}
use Rattle.wasm_grammars.specs.Grammar.{Grammar, HasReadBy}
use Rattle.wasm_grammars.specs.Parts.{u32}
use Rattle.wasm_sections.specs.declared.section.SectionHeader.{SectionHeader}
use Rattle.wasm_sections.specs.Delimited.{delimited}
use Rattle.wasm_sections.specs.Section.{header}
use Rattle.wasm_payloads.specs.declared.parser.ParserState.{ParserState}
use Rattle.wasm_payloads.specs.declared.parser.ParserState.TheVariants as phase
use Rattle.wasm_payloads.specs.declared.payload.Payload.{Payload}
use Rattle.wasm_payloads.specs.declared.payload.Payload.TheVariants as payload
use Rattle.wasm_payloads.specs.Parsing.{Parsing, GivesCode, GivesContents, GivesSection, GivesBody, most_left}

left_of : {old new : Reader} {text : List ℕ} → Takes old new text → length (rest old) ≡ length text + length (rest new)
left_of {old} {new} {text} t = ap length t.parts ∙ length-append text (rest new)

pub no_longer : {X : Type 0} (g : Grammar X) (x : X) (old new : Reader) → HasReadBy g x old new → length (rest new) ≤ length (rest old)
no_longer g x old new (text, p, t) = let left = left_of t in omega (arith, left)

pub body_shorter : (size : ℕ) (features : WasmFeatures) (body : Reader × ℕ) (old new : Reader) → HasReadBy (delimited size (sized_contents features)) body old new →
    length (rest new) < length (rest old)
body_shorter size features body old new (text, (a, b, start, whole, placed, (c, d, read, parts, (e, f, n, cut, number, more), last)), t) =
    let some = unsigned_some 32 e n number in
    let first = ap length whole ∙ length-append a b in
    let second = ap length parts ∙ length-append c d in
    let third = ap length cut ∙ length-append e f in
    let left = left_of t in
    omega (arith, some, first, second, third, left)

pub header_shorter : (h : SectionHeader) (old new : Reader) → HasReadBy header h old new → length (rest new) < length (rest old)
header_shorter h old new (text, (a, b, id, whole, byte, more), t) =
    let one = ap length byte.0 in
    let first = ap length whole ∙ length-append a b in
    let left = left_of t in
    omega (arith, one, first, left)

most_left_within : (s : ParserState) (n : ℕ) → most_left s n ≤ n + 1
most_left_within phase.Ended n = omega arith
most_left_within s n = omega arith

shorter : (s : ParserState) {n m : ℕ} → n < m → most_left s n < m + 1
shorter s {n} few = let within = most_left_within s n in omega (arith, few, within)

ended : {s : ParserState} (n m : ℕ) → s ≡ phase.Ended → most_left s n < m + 1
ended n m is = subst (λ z. most_left z n < m + 1) (sym is) (omega arith)

code_reads : (h : SectionHeader) (p : Payload) (mid new : Parsing) → GivesCode h p mid new → length (rest new.reader) ≤ length (rest mid.reader)
code_reads h (payload.CodeSectionStart count start whole size) mid new (is, at, all, read, equal, moved) =
    no_longer (delimited h.size u32) (count, size) mid.reader new.reader read
code_reads h p mid new gives = absurd gives

contents_reads : (h : SectionHeader) (p : Payload) (mid new : Parsing) → GivesContents h p mid new → length (rest new.reader) ≤ length (rest mid.reader)
contents_reads h p mid new (is, (c, read, value), equal, moved) =
    no_longer (contents mid.reader.features h.size) c mid.reader new.reader read

pub section_goes : (p : Payload) (old new : Parsing) → GivesSection p old new → most_left new.state (length (rest new.reader)) < length (rest old.reader) + 1
section_goes p old new (inl (none, ends, is)) = ended _ _ (ap (λ (q : Parsing). q.state) is)
section_goes p old new (inr (h, mid, (some, free, read, may, moved), inl code)) =
    let head = header_shorter h old.reader mid.reader read in
    let body = code_reads h p mid new code in
    shorter new.state (omega (arith, head, body))
section_goes p old new (inr (h, mid, (some, free, read, may, moved), inr other)) =
    let head = header_shorter h old.reader mid.reader read in
    let body = contents_reads h p mid new other in
    shorter new.state (omega (arith, head, body))

pub body_goes : (n size : ℕ) (p : Payload) (old new : Parsing) → GivesBody n size p old new → most_left new.state (length (rest new.reader)) < length (rest old.reader) + 1
body_goes n size p old new (inl (none, empty, section)) = section_goes p old new section
body_goes n size p old new (inr (some, body, left, read, is, moved)) =
    shorter new.state (body_shorter size old.reader.features (body, left) old.reader new.reader read)
