-- Specification: Binary Format, Data Section.
use Rattle.std.specs.Prelude.{ℕ, ◌==◌, leb, Bool}
use Rattle.wasm_below.specs.declared.malformed.Malformed.TheVariants as malformed
use Rattle.wasm_below.specs.declared.message.Message.TheVariants as message
use Rattle.wasm_grammars.specs.Blocks.{sized}
use Rattle.wasm_grammars.specs.Grammar.{Grammar, done, choose, thing}
use Rattle.wasm_grammars.specs.Parts.{◌>>=◌, ◌>>◌, require, u32}
use Rattle.wasm_segments.specs.declared.data.Data.{Data}
use Rattle.wasm_segments.specs.declared.data.DataKind.{DataKind}
use Rattle.wasm_segments.specs.declared.data.DataKind.TheVariants as kind

-- The memory's index, which is 0 unless it is written.
abbrev pub memory_index : Bool → Grammar ℕ
memory_index written = choose written u32 (done 0)

abbrev pub active_data : {C : Type 0} → Grammar C → ℕ → Grammar (DataKind C)
active_data constant flags = do
  index ← thing (memory_index (flags == 2))
  offset ← thing constant
  done (kind.Active index offset)

abbrev pub data_kind : {C : Type 0} → Grammar C → ℕ → Grammar (DataKind C)
data_kind constant flags = choose (flags == 1) (done kind.Passive) (active_data constant flags)

--   data ::= 0:u32 e:expr b*:list(byte)
--          | 1:u32 b*:list(byte)
--          | 2:u32 x:memidx e:expr b*:list(byte)
abbrev pub data_segment : {C : Type 0} → Grammar C → Grammar (Data C)
data_segment constant = do
  flags ← u32
  require (leb flags 2) (message.Malformed malformed.DataFlags)
  kind ← thing (data_kind constant flags)
  bytes ← thing sized
  done (record { kind = kind; «data» = bytes })
