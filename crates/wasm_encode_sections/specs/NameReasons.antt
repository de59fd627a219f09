-- Names as lists, and why they have no encoding. Specification: Custom Sections, Name Section, Name Maps.
use Rattle.wasm_below.specs.declared.message.Message.{Message}
use Rattle.wasm_grammars.specs.Grammar.{Grammar, done}
use Rattle.wasm_grammars.specs.Parts.{◌>>=◌, u32}
use Rattle.wasm_names.specs.declared.naming.Naming.{Naming}
use Rattle.wasm_names.specs.Names.{naming}
use Rattle.wasm_sections.specs.Items.{items}
use Rattle.wasm_encode_sections.specs.declared.names.ListedNaming.{ListedNaming}
use Rattle.wasm_encode_sections.specs.ExternalReasons.{TextReason}
use Rattle.wasm_encode_sections.specs.ItemReasons.{ItemsReason}

-- The form of `indirect_naming` of wasm_names. The value has the names, and no offset.
--   indirectnameassoc ::= idx:u32 n:list(nameassoc)
abbrev pub listed_naming : Grammar ListedNaming
listed_naming = do
  index ← u32
  names ← items naming
  done (record { index = index; names = names })

abbrev pub NamingReason : Naming → Message → Type 0
NamingReason n m = TextReason n.name m

-- There are too many names, or a name has a reason.
abbrev pub ListedNamingReason : ListedNaming → Message → Type 0
ListedNamingReason n m = ItemsReason NamingReason n.names m
