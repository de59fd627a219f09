-- Specification: Binary Format, Global Section, Table Section.
use Rattle.std.specs.Prelude.{ℕ, ◌==◌}
use Rattle.wasm_below.specs.declared.features.WasmFeatures.{WasmFeatures}
use Rattle.wasm_below.specs.declared.malformed.Malformed.TheVariants as malformed
use Rattle.wasm_below.specs.declared.message.Message.TheVariants as message
use Rattle.wasm_externals.specs.Globals.{global_type}
use Rattle.wasm_externals.specs.Limits.{table_type}
use Rattle.wasm_grammars.specs.Grammar.{Grammar, done, peek, thing}
use Rattle.wasm_grammars.specs.Parts.{◌>>=◌, ◌>>◌, require, byte}
use Rattle.wasm_segments.specs.declared.global.Global.{Global}
use Rattle.wasm_segments.specs.declared.table.Table.{Table}
use Rattle.wasm_segments.specs.declared.table.TableInit.TheVariants as init

--   global ::= gt:globaltype e:expr
abbrev pub global : {C : Type 0} → WasmFeatures → Grammar C → Grammar (Global C)
global features constant = do
  ty ← thing global_type
  value ← thing constant
  done (record { ty = ty; init_expr = value })

abbrev pub zero_byte : Grammar ℕ
zero_byte = do
  b ← byte
  require (b == 0) (message.Malformed malformed.TableEncoding)
  done b

abbrev pub initialized_table : {C : Type 0} → WasmFeatures → Grammar C → Grammar (Table C)
initialized_table features constant = do
  first ← byte
  second ← thing zero_byte
  ty ← thing (table_type features)
  value ← thing constant
  done (record { ty = ty; init = init.Expr value })

abbrev pub null_table : {C : Type 0} → WasmFeatures → Grammar (Table C)
null_table features = do
  ty ← thing (table_type features)
  done (record { ty = ty; init = init.RefNull })

--   table ::= tt:tabletype | 0x40 0x00 tt:tabletype e:expr
abbrev pub table : {C : Type 0} → WasmFeatures → Grammar C → Grammar (Table C)
table features constant = peek (λ b. b == 0x40) (initialized_table features constant) (null_table features)
