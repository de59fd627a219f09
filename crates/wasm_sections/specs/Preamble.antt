-- Specification: Binary Format, Modules.
use Rattle.std.proofs.Common.{sym, ◌∙◌}
use Rattle.std.specs.Prelude.{ℕ, ◌==◌}
use Rattle.std.specs.Int.{w32}
use Rattle.wasm_below.specs.declared.message.Message.TheVariants as message
use Rattle.wasm_below.specs.Number.{EncodesFixed}
use Rattle.wasm_below.specs.Source.{EndsWithin}
use Rattle.wasm_below.proofs.PrefixCode.{fixed_prefix_code_32}
use Rattle.wasm_grammars.specs.Grammar.{Grammar, part, done, thing}
use Rattle.wasm_grammars.specs.Parts.{◌>>=◌, ◌>>◌, require, never}

-- A little-endian number of 32 bits.
abbrev pub fixed : Grammar ℕ
fixed = part (EncodesFixed w32) (EndsWithin 4) never (record { code = fixed_prefix_code_32; determines = λ m k r a b h q. (h.0 ∙ sym q.0, h.1 ∙ sym q.1) })

-- The version of a module, which is 1.
--   version ::= 0x01 0x00 0x00 0x00
abbrev pub version : Grammar ℕ
version = do
  v ← fixed
  require (v == 1) (message.UnknownVersion v)
  done v

-- The magic number, and the version.
--   magic ::= 0x00 0x61 0x73 0x6d
abbrev pub preamble : Grammar ℕ
preamble = do
  magic ← fixed
  require (magic == 0x6d736100) (message.BadMagic magic)
  thing version
