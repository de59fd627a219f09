-- The payloads of a module, one after the other. Specification: Binary Format, Modules.
use Rattle.std.specs.Prelude.{◌≡◌, ◌≢◌, ℕ, ◌+◌, ◌-◌, ◌<◌, ◌⊎◌, [], length, ◌==◌, if◌then◌else◌, Option, Some, None, Result, Ok, Err}
use Rattle.std.specs.Iterator.{Count, at_most}
use Rattle.wasm_below.specs.declared.error.Error.{Error}
use Rattle.wasm_below.specs.declared.malformed.Malformed.{Malformed}
use Rattle.wasm_below.specs.declared.malformed.Malformed.TheVariants as malformed
use Rattle.wasm_below.specs.declared.message.Message.TheVariants as message
use Rattle.wasm_below.specs.Source.{Reader, rest, offset_of}
use Rattle.wasm_grammars.specs.Blocks.{contents, sized_contents}
use Rattle.wasm_grammars.specs.Grammar.{HasReadBy}
use Rattle.wasm_grammars.specs.Parts.{u32}
use Rattle.wasm_grammars.specs.Reading.{Fails}
use Rattle.wasm_sections.specs.declared.order.SectionCounts.{SectionCounts}
use Rattle.wasm_sections.specs.declared.order.SectionOrder.{SectionOrder}
use Rattle.wasm_sections.specs.declared.section.SectionHeader.{SectionHeader}
use Rattle.wasm_sections.specs.Delimited.{delimited}
use Rattle.wasm_sections.specs.Module.{BeginsModule}
use Rattle.wasm_sections.specs.Order.{MayComeAfter, place_after, functions_fault, data_fault}
use Rattle.wasm_sections.specs.Preamble.{preamble}
use Rattle.wasm_sections.specs.Section.{header}
use Rattle.wasm_payloads.specs.declared.parser.ParserState.{ParserState}
use Rattle.wasm_payloads.specs.declared.parser.ParserState.TheVariants as phase
use Rattle.wasm_payloads.specs.declared.payload.Encoding.TheVariants as encoding
use Rattle.wasm_payloads.specs.declared.payload.Payload.{Payload}
use Rattle.wasm_payloads.specs.declared.payload.Payload.TheVariants as payload
use Rattle.wasm_payloads.specs.Contents.{IsPayload, FailsPayload}

-- The next byte, what it begins, and what was read before.
pub record Parsing : Type 0 where
  pub reader : Reader
  pub state : ParserState
  pub order : SectionOrder
  pub counts : SectionCounts

abbrev pub moved_to : Parsing → Reader → ParserState → Parsing
moved_to old r s = record { reader = r; state = s; order = old.order; counts = old.counts }

abbrev pub IsMalformed : Malformed → Error → ℕ → Type 0
IsMalformed what e offset = (e.message ≡ message.Malformed what) × (e.offset ≡ offset)

abbrev pub or_else : Option Malformed → Option Malformed → Option Malformed
or_else (Some what) other = Some what
or_else None other = other

-- What is wrong with the counts at the end of a module.
abbrev pub counts_fault : SectionCounts → Option Malformed
counts_fault counts = or_else (functions_fault counts.functions counts.bodies) (data_fault counts.data_count counts.«data»)

-- The counts after a section.
abbrev pub counts_after : SectionCounts → Payload → SectionCounts
counts_after c (payload.FunctionSection s) = record { functions = Some s.count; bodies = c.bodies; «data» = c.«data»; data_count = c.data_count }
counts_after c (payload.DataSection s) = record { functions = c.functions; bodies = c.bodies; «data» = Some s.count; data_count = c.data_count }
counts_after c (payload.DataCountSection n range) = record { functions = c.functions; bodies = c.bodies; «data» = c.«data»; data_count = Some n }
counts_after c _ = c

-- The counts of data segments differ after the data section.
abbrev pub data_fault_at : ℕ → SectionCounts → Option Malformed
data_fault_at id counts = if id == 11 then data_fault counts.data_count counts.«data» else None

-- A parser of a module that starts at the reader.
abbrev pub starts : Reader → Parsing
starts r = record { reader = r; state = phase.Header; order = record { last = 0 }; counts = record { functions = None; bodies = None; «data» = None; data_count = None } }

-- What is returned at the end of the data.
abbrev pub EndsModule : Result Payload Error → Parsing → Type 0
EndsModule (Ok p) old = (counts_fault old.counts ≡ None) × (p ≡ payload.End (offset_of old.reader))
EndsModule (Err e) old = (what : Malformed) × (counts_fault old.counts ≡ Some what) × IsMalformed what e (offset_of old.reader)

-- A preamble was read.
abbrev pub GivesVersion : Payload → Parsing → Parsing → Type 0
GivesVersion (payload.Version num encoding.Module range) old new = (num ≡ 1) × ((v : ℕ) × HasReadBy preamble v old.reader new.reader) ×
    (range.start ≡ offset_of old.reader) × (range.end ≡ offset_of new.reader) × (new ≡ moved_to old new.reader phase.Section)
GivesVersion _ old new = ⊥

-- No data is left, and the counts are equal.
abbrev pub GivesEnd : Payload → Parsing → Parsing → Type 0
GivesEnd p old new = (rest old.reader ≡ []) × EndsModule (Ok p) old × (new ≡ moved_to old old.reader phase.Ended)

-- A section starts here that may come next. Its header was read.
abbrev pub Opens : Parsing → SectionHeader → Parsing → Type 0
Opens old h mid = (rest old.reader ≢ []) × (BeginsModule (rest old.reader) → ⊥) × HasReadBy header h old.reader mid.reader × MayComeAfter old.order.last h.id ×
    (mid ≡ record { reader = mid.reader; state = old.state; order = record { last = place_after old.order.last h.id }; counts = old.counts })

-- The number of bodies was read. `size` bytes of the section follow.
abbrev pub GivesCode : SectionHeader → Payload → Parsing → Parsing → Type 0
GivesCode h (payload.CodeSectionStart count start whole size) mid new = (h.id ≡ 10) × (start ≡ h.start) × (whole ≡ h.size) ×
    HasReadBy (delimited h.size u32) (count, size) mid.reader new.reader × (functions_fault mid.counts.functions (Some count) ≡ None) ×
    (new ≡ record { reader = new.reader; state = phase.Bodies count size; order = mid.order; counts = record { functions = mid.counts.functions; bodies = Some count; «data» = mid.counts.«data»; data_count = mid.counts.data_count } })
GivesCode h _ mid new = ⊥

-- Another section was read.
abbrev pub GivesContents : SectionHeader → Payload → Parsing → Parsing → Type 0
GivesContents h p mid new = (h.id ≢ 10) × ((c : Reader) × HasReadBy (contents mid.reader.features h.size) c mid.reader new.reader × IsPayload h.id c p) ×
    (data_fault_at h.id new.counts ≡ None) × (new ≡ record { reader = new.reader; state = phase.Section; order = mid.order; counts = counts_after mid.counts p })

abbrev pub GivesSection : Payload → Parsing → Parsing → Type 0
GivesSection p old new = GivesEnd p old new ⊎ ((h : SectionHeader) × (mid : Parsing) × Opens old h mid × (GivesCode h p mid new ⊎ GivesContents h p mid new))

-- A body was read, or all were.
abbrev pub GivesBody : ℕ → ℕ → Payload → Parsing → Parsing → Type 0
GivesBody n size p old new = ((n ≡ 0) × (size ≡ 0) × GivesSection p old new) ⊎ ((0 < n) × (body : Reader) × (left : ℕ) ×
    HasReadBy (delimited size (sized_contents old.reader.features)) (body, left) old.reader new.reader × (p ≡ payload.CodeSectionEntry body) ×
    (new ≡ moved_to old new.reader (phase.Bodies (n - 1) left)))

-- The next payload was read: the preamble, a section, a body or the end.
abbrev pub Gives : ParserState → Payload → Parsing → Parsing → Type 0
Gives phase.Header p old new = GivesVersion p old new
Gives phase.Section p old new = GivesSection p old new
Gives (phase.Bodies n size) p old new = GivesBody n size p old new
Gives phase.Ended p old new = ⊥

-- The counts differ at the end of the data.
abbrev pub FailsAtEnd : Error → Parsing → Type 0
FailsAtEnd e old = (rest old.reader ≡ []) × EndsModule (Err e) old

-- No section starts here, or it may not come next.
abbrev pub FailsToOpen : Error → Parsing → Type 0
FailsToOpen e old = (rest old.reader ≢ []) × ((BeginsModule (rest old.reader) × IsMalformed malformed.SecondModule e (offset_of old.reader)) ⊎
    ((BeginsModule (rest old.reader) → ⊥) × (Fails header (offset_of old.reader) e old.reader ⊎
    ((h : SectionHeader) × (mid : Reader) × HasReadBy header h old.reader mid × (MayComeAfter old.order.last h.id → ⊥) × IsMalformed malformed.SectionOrder e h.start))))

-- The number of bodies is in error, or differs from the number of functions.
abbrev pub FailsCode : SectionHeader → Error → Parsing → Type 0
FailsCode h e mid = (h.id ≡ 10) × (Fails (delimited h.size u32) (offset_of mid.reader) e mid.reader ⊎
    ((count size : ℕ) × (after : Reader) × HasReadBy (delimited h.size u32) (count, size) mid.reader after × (what : Malformed) ×
    (functions_fault mid.counts.functions (Some count) ≡ Some what) × IsMalformed what e h.start))

-- Bytes are missing, the contents are in error, or the number of data segments is another than the
-- data count.
abbrev pub FailsContents : SectionHeader → Error → Parsing → Type 0
FailsContents h e mid = (h.id ≢ 10) × (Fails (contents mid.reader.features h.size) (offset_of mid.reader) e mid.reader ⊎
    ((c : Reader) × (after : Reader) × HasReadBy (contents mid.reader.features h.size) c mid.reader after × (FailsPayload h.id e c ⊎
    ((p : Payload) × (what : Malformed) × IsPayload h.id c p × (data_fault_at h.id (counts_after mid.counts p) ≡ Some what) × IsMalformed what e (offset_of after)))))

abbrev pub FailsAtSection : Error → Parsing → Type 0
FailsAtSection e old = FailsAtEnd e old ⊎ (FailsToOpen e old ⊎ ((h : SectionHeader) × (mid : Parsing) × Opens old h mid × (FailsCode h e mid ⊎ FailsContents h e mid)))

abbrev pub FailsAtBody : ℕ → ℕ → Error → Parsing → Type 0
FailsAtBody n size e old = ((n ≡ 0) × (size ≡ 0) × FailsAtSection e old) ⊎ (((n ≡ 0) × (0 < size) × IsMalformed malformed.CodeContent e (offset_of old.reader)) ⊎
    ((0 < n) × Fails (delimited size (sized_contents old.reader.features)) (offset_of old.reader) e old.reader))

-- The error of the next payload.
abbrev pub FailsAt : ParserState → Error → Parsing → Type 0
FailsAt phase.Header e old = Fails preamble (offset_of old.reader) e old.reader
FailsAt phase.Section e old = FailsAtSection e old
FailsAt (phase.Bodies n size) e old = FailsAtBody n size e old
FailsAt phase.Ended e old = ⊥

-- A step: the next payload was read; or an error was returned, which is the last item; or none follows.
abbrev pub StepsParser : Parsing → Option (Result Payload Error) → Parsing → Type 0
StepsParser old None new = (old.state ≡ phase.Ended) × (new ≡ old)
StepsParser old (Some (Ok p)) new = Gives old.state p old new
StepsParser old (Some (Err e)) new = FailsAt old.state e old × (new.state ≡ phase.Ended)

abbrev pub most_left : ParserState → ℕ → ℕ
most_left phase.Ended n = 0
most_left _ n = n + 1

-- At most one payload more than bytes are left, and none after the last.
abbrev pub payloads_to_come : Parsing → Count
payloads_to_come p = at_most (most_left p.state (length (rest p.reader)))
