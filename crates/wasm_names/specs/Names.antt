-- Specification: Custom Sections, Name Section, Name Maps.
use Rattle.std.specs.Prelude.{ℕ, ◌-◌, zero, suc, leb, List}
use Rattle.wasm_below.specs.declared.features.WasmFeatures.{WasmFeatures}
use Rattle.wasm_below.specs.declared.malformed.Malformed.TheVariants as malformed
use Rattle.wasm_below.specs.declared.message.Message.TheVariants as message
use Rattle.wasm_below.specs.Source.{reader_of, at_position}
use Rattle.wasm_externals.specs.Texts.{max_text_size, text}
use Rattle.wasm_grammars.specs.Blocks.{block}
use Rattle.wasm_grammars.specs.Grammar.{Grammar, done, here, bind, spanned, thing}
use Rattle.wasm_grammars.specs.Parts.{◌>>=◌, u32, u32_where}
use Rattle.wasm_names.specs.declared.indirect.IndirectNaming.{IndirectNaming}
use Rattle.wasm_names.specs.declared.naming.Naming.{Naming}
use Rattle.wasm_sections.specs.Items.{Counted}

--   nameassoc ::= idx:u32 n:name
abbrev pub naming : Grammar Naming
naming = do
  index ← u32
  name ← thing text
  done (record { index = index; name = name })

-- An association of which the text is not read; its size.
abbrev pub skipped_name : Grammar ℕ
skipped_name = do
  index ← u32
  size ← thing (u32_where (λ n. leb n max_text_size) (message.Malformed malformed.StringSize))
  bytes ← block size
  done size

-- `n` associations that are not read, and the value.
abbrev pub skipped : {X : Type 0} → ℕ → X → Grammar X
skipped zero x = done x
skipped (suc n) x = bind (thing skipped_name) (λ size. skipped n x)

-- A map of names that are not read; their number, and the offset of the first.
abbrev pub skipped_names : Grammar (ℕ × ℕ)
skipped_names = do
  n ← u32
  first ← here
  skipped n (n, first)

-- A reader of the names in a map, whose first byte has the offset `start`.
abbrev pub opened : WasmFeatures → ℕ → List ℕ × (ℕ × ℕ) → Counted
opened features start (bytes, (n, first)) = record { count = n; reader = at_position (reader_of features start bytes) (first - start) }

-- A map of names that are not read.
--   namemap ::= list(nameassoc)
abbrev pub unread_names : WasmFeatures → Grammar Counted
unread_names features = do
  start ← here
  map ← spanned (thing skipped_names)
  done (opened features start map)

--   indirectnameassoc ::= idx:u32 n:namemap
abbrev pub indirect_naming : WasmFeatures → Grammar IndirectNaming
indirect_naming features = do
  index ← u32
  names ← thing (unread_names features)
  done (record { index = index; names = names })
