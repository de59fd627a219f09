-- Why globals, tables, element segments and data segments have no encoding. `Why` says it of a constant
-- expression.
use Rattle.std.specs.Prelude.{◌⊎◌}
use Rattle.wasm_below.specs.declared.features.WasmFeatures.{WasmFeatures}
use Rattle.wasm_below.specs.declared.message.Message.{Message}
use Rattle.wasm_segments.specs.declared.data.Data.{Data}
use Rattle.wasm_segments.specs.declared.data.DataKind.{DataKind}
use Rattle.wasm_segments.specs.declared.data.DataKind.TheVariants as kind
use Rattle.wasm_segments.specs.declared.global.Global.{Global}
use Rattle.wasm_segments.specs.declared.table.Table.{Table}
use Rattle.wasm_segments.specs.declared.table.TableInit.{TableInit}
use Rattle.wasm_segments.specs.declared.table.TableInit.TheVariants as init
use Rattle.wasm_write_grammars.specs.Writing.{SizedReason}
use Rattle.wasm_encode_sections.specs.ExternalReasons.{TableReason}

abbrev pub GlobalReason : {C : Type 0} → (C → Message → Type 0) → Global C → Message → Type 0
GlobalReason Why g m = Why g.init_expr m

abbrev pub InitReason : {C : Type 0} → (C → Message → Type 0) → TableInit C → Message → Type 0
InitReason Why init.RefNull m = ⊥
InitReason Why (init.Expr value) m = Why value m

-- The type or the initial value has a reason.
abbrev pub InitializedReason : {C : Type 0} → WasmFeatures → (C → Message → Type 0) → Table C → Message → Type 0
InitializedReason features Why t m = TableReason features t.ty m ⊎ InitReason Why t.init m

abbrev pub PlaceReason : {C : Type 0} → (C → Message → Type 0) → DataKind C → Message → Type 0
PlaceReason Why kind.Passive m = ⊥
PlaceReason Why (kind.Active index offset) m = Why offset m

-- The offset has a reason, or there are too many bytes.
abbrev pub DataReason : {C : Type 0} → (C → Message → Type 0) → Data C → Message → Type 0
DataReason Why d m = PlaceReason Why d.kind m ⊎ SizedReason d.«data» m
