-- The payloads of a module as C structs, one after another. Specification: Binary Format, Modules.
use Rattle.std.specs.Prelude.{◌≡◌, ℕ, zero, suc, ◌+◌, ◌-◌, ◌<◌, ◌≤◌, ◌⊎◌, Bool, true, false, List, length, Option, Some, None}
use Rattle.wasm_below.specs.declared.error.Error.{Error}
use Rattle.wasm_below.specs.Features.{features_of}
use Rattle.wasm_below.specs.Source.{Reader, reader_of, at_position, rest, offset_of, end_of}
use Rattle.wasm_c.specs.declared.refusal.WasmRefusal.{WasmRefusal}
use Rattle.wasm_c.specs.Refused.{no_refusal, refusal_of, misuse}
use Rattle.wasm_c_sections.specs.declared.parser.WasmParser.{WasmParser}
use Rattle.wasm_c_sections.specs.declared.payload.WasmPayload.{WasmPayload}
use Rattle.wasm_c_sections.specs.declared.range.WasmRange.{WasmRange}
use Rattle.wasm_c_sections.specs.Items.{no_items, items_of_section}
use Rattle.wasm_c_sections.specs.Ranges.{range_of, no_range}
use Rattle.wasm_payloads.specs.Custom.{Custom}
use Rattle.wasm_payloads.specs.declared.parser.ParserState.{ParserState}
use Rattle.wasm_payloads.specs.declared.parser.ParserState.TheVariants as phase
use Rattle.wasm_payloads.specs.declared.payload.Payload.{Payload}
use Rattle.wasm_payloads.specs.declared.payload.Payload.TheVariants as payload
use Rattle.wasm_payloads.specs.Parsing.{Parsing, Gives, FailsAt}
use Rattle.wasm_sections.specs.Items.{Counted}
use Rattle.wasm_sections.specs.Order.{or_zero}
use Rattle.wasm_externals.specs.Flags.{has_flag}

-- A payload with a number, and without a name and items.
abbrev pub bare : ℕ → ℕ → WasmRange → WasmPayload
bare kind number range = record { range = range; name = no_range; items = no_items; kind = kind; number = number }

-- A section of items, of which the number of items was read.
abbrev pub section_of : ℕ → ℕ → Counted → WasmPayload
section_of kind features s = record {
  range = range_of s.reader.start (end_of s.reader);
  name = no_range;
  items = items_of_section s features;
  kind = kind;
  number = 0;
}

-- A custom section: its name is before its data, which are the items.
abbrev pub custom_of : ℕ → Custom → WasmPayload
custom_of features c = record {
  range = range_of c.reader.start (end_of c.reader);
  name = record { offset = offset_of c.reader - length c.name; length = length c.name };
  items = record { offset = offset_of c.reader; length = length (rest c.reader); count = 0; features = features };
  kind = 0;
  number = 0;
}

-- The C struct of a payload; its items are read with these features.
abbrev pub payload_of : ℕ → Payload → WasmPayload
payload_of features (payload.Version num encoding range) = bare 256 num (range_of range.start range.end)
payload_of features (payload.TypeSection s) = section_of 1 features s
payload_of features (payload.ImportSection s) = section_of 2 features s
payload_of features (payload.FunctionSection s) = section_of 3 features s
payload_of features (payload.TableSection s) = section_of 4 features s
payload_of features (payload.MemorySection s) = section_of 5 features s
payload_of features (payload.TagSection s) = section_of 13 features s
payload_of features (payload.GlobalSection s) = section_of 6 features s
payload_of features (payload.ExportSection s) = section_of 7 features s
payload_of features (payload.StartSection func range) = bare 8 func (range_of range.start range.end)
payload_of features (payload.ElementSection s) = section_of 9 features s
payload_of features (payload.DataCountSection count range) = bare 12 count (range_of range.start range.end)
payload_of features (payload.DataSection s) = section_of 11 features s
payload_of features (payload.CodeSectionStart count start whole size) = bare 10 count (record { offset = start; length = whole })
payload_of features (payload.CodeSectionEntry body) = bare 257 0 (range_of (offset_of body) (end_of body))
payload_of features (payload.CustomSection c) = custom_of features c
payload_of features (payload.UnknownSection id contents) = bare id 0 (range_of (offset_of contents) (end_of contents))
payload_of features (payload.End offset) = bare 258 0 (record { offset = offset; length = 0 })

-- What is read next, by its number: with this many bodies left, in this many bytes.
abbrev pub state_numbered : ℕ → ℕ → ℕ → ParserState
state_numbered zero bodies size = phase.Header
state_numbered (suc zero) bodies size = phase.Section
state_numbered (suc (suc zero)) bodies size = phase.Bodies bodies size
state_numbered _ bodies size = phase.Ended

abbrev pub state_number : ParserState → ℕ
state_number phase.Header = 0
state_number phase.Section = 1
state_number (phase.Bodies bodies size) = 2
state_number phase.Ended = 3

-- The bodies that are left, and their bytes.
abbrev pub bodies_left : ParserState → ℕ × ℕ
bodies_left (phase.Bodies bodies size) = (bodies, size)
bodies_left _ = (0, 0)

-- A count that was read if the flag is set.
abbrev pub counted : Bool → ℕ → Option ℕ
counted true n = Some n
counted false n = None

abbrev pub flag_if : {X : Type 0} → Option X → ℕ → ℕ
flag_if None weight = 0
flag_if (Some x) weight = weight

-- The features are known, and the position is in these bytes.
pub record IsParser (bytes : List ℕ) (p : WasmParser) : Type 0 where
  pub features : p.features < 64
  pub position : p.position ≤ length bytes

-- The parser that the C struct is, of a module with these bytes.
abbrev pub parsing_at : List ℕ → WasmParser → Parsing
parsing_at bytes p = record {
  reader = at_position (reader_of (features_of p.features) 0 bytes) p.position;
  state = state_numbered p.state p.bodies p.size;
  order = record { last = p.last };
  counts = record {
    functions = counted (has_flag p.counted 1) p.function_count;
    bodies = counted (has_flag p.counted 2) p.body_count;
    «data» = counted (has_flag p.counted 4) p.segment_count;
    data_count = counted (has_flag p.counted 8) p.data_count;
  };
}

-- The C struct of a parser.
abbrev pub parser_of : ℕ → Parsing → WasmParser
parser_of features s = record {
  position = s.reader.position;
  features = features;
  bodies = (bodies_left s.state).0;
  size = (bodies_left s.state).1;
  function_count = or_zero s.counts.functions;
  body_count = or_zero s.counts.bodies;
  segment_count = or_zero s.counts.«data»;
  data_count = or_zero s.counts.data_count;
  state = state_number s.state;
  last = s.order.last;
  counted = flag_if s.counts.functions 1 + flag_if s.counts.bodies 2 + flag_if s.counts.«data» 4 + flag_if s.counts.data_count 8;
  reserved = 0;
}

-- The next payload is given, as its C struct.
abbrev pub TakesPayload : WasmPayload → List ℕ → WasmParser → WasmParser → Type 0
TakesPayload view bytes old new = IsParser bytes old × ((p : Payload) × (after : Parsing) × Gives (parsing_at bytes old).state p (parsing_at bytes old) after ×
    (view ≡ payload_of old.features p) × (new ≡ parser_of old.features after))

-- Why no payload is given: its error; or the last one was given; or this is no parser of the bytes.
abbrev pub StopsPayload : WasmRefusal → List ℕ → WasmParser → Type 0
StopsPayload r bytes p =
    (IsParser bytes p × ((e : Error) × (r ≡ refusal_of e) × FailsAt (parsing_at bytes p).state e (parsing_at bytes p)))
    ⊎ ((IsParser bytes p × ((parsing_at bytes p).state ≡ phase.Ended) × (r ≡ misuse 114 p.position))
    ⊎ ((IsParser bytes p → ⊥) × (r ≡ misuse 103 p.position)))

-- `wasm_next_payload` returns the next payload; or none, and nothing changes.
abbrev pub ReturnsPayload : WasmRefusal → List ℕ → WasmParser → WasmParser → WasmPayload → WasmPayload → Type 0
ReturnsPayload r bytes old new view_old view_new =
    ((r ≡ no_refusal new.position) × TakesPayload view_new bytes old new) ⊎ ((new ≡ old) × (view_new ≡ view_old) × StopsPayload r bytes old)
