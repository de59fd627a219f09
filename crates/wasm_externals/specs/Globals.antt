-- Specification: Binary Format, Global Types, Tag Types.
use Rattle.wasm_below.specs.declared.malformed.Malformed.TheVariants as malformed
use Rattle.wasm_grammars.specs.Grammar.{Grammar, done, thing}
use Rattle.wasm_grammars.specs.Parts.{◌>>=◌, u32, val_type}
use Rattle.wasm_externals.specs.declared.global_type.GlobalType.{GlobalType}
use Rattle.wasm_externals.specs.declared.tag_type.TagKind.TheVariants as kind
use Rattle.wasm_externals.specs.declared.tag_type.TagType.{TagType}
use Rattle.wasm_externals.specs.Flags.{flags, has_flag}

-- Flag 2 belongs to the proposal shared-everything threads.
--   globaltype ::= t:valtype m:mut ⇒ m t    mut ::= 0x00 ⇒ ε | 0x01 ⇒ mut
abbrev pub global_type : Grammar GlobalType
global_type = do
  content ← val_type
  byte ← thing (flags 3 malformed.GlobalFlags)
  done (record { content_type = content; mutable = has_flag byte 1; shared = has_flag byte 2 })

-- tagtype ::= 0x00 x:typeidx ⇒ x
abbrev pub tag_type : Grammar TagType
tag_type = do
  attribute ← thing (flags 0 malformed.TagAttributes)
  index ← u32
  done (record { kind = kind.Exception; func_type_idx = index })
