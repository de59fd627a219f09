-- A module as the list of its payloads. Specification: Binary Format, Modules.
use Rattle.std.specs.Prelude.{◌≡◌, List, [], ◌∷◌}
use Rattle.wasm_below.specs.Source.{Reader}
use Rattle.wasm_payloads.specs.declared.parser.ParserState.TheVariants as phase
use Rattle.wasm_payloads.specs.declared.payload.Payload.{Payload}
use Rattle.wasm_payloads.specs.Parsing.{Parsing, Gives, starts}

-- Between two parsers, the bytes are these payloads.
abbrev pub PayloadsOccur : List Payload → Parsing → Parsing → Type 0
PayloadsOccur [] s t = t ≡ s
PayloadsOccur (p ∷ ps) s t = (u : Parsing) × Gives s.state p s u × PayloadsOccur ps u t

-- The rest of the reader is a module, and these are its payloads: the preamble, the parts of the
-- sections in the order of the standard, and the end.
abbrev pub IsModuleOf : List Payload → Reader → Type 0
IsModuleOf ps r = (end : Parsing) × PayloadsOccur ps (starts r) end × (end.state ≡ phase.Ended)
