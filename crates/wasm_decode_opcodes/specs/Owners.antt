use Rattle.std.specs.Prelude.{ℕ, List, [], ◌∷◌}
use Rattle.wasm_below.specs.declared.features.WasmFeatures.{WasmFeatures}
use Rattle.wasm_imm.specs.declared.select.Select.TheVariants as select
use Rattle.wasm_imm.specs.Immediate.{Immediate, Kind, select_types, try_clauses, resume_clauses}
use Rattle.wasm_decode_opcodes.specs.Kinds.{EncodesKinds}

-- One of the immediates owns a list.
abbrev pub OwnList : List Immediate → Type 0
OwnList [] = ⊥
OwnList (select_types (select.Multi _) ∷ is) = Unit {0}
OwnList (try_clauses _ ∷ is) = Unit {0}
OwnList (resume_clauses _ ∷ is) = Unit {0}
OwnList (_ ∷ is) = OwnList is

-- The text encodes immediates of these kinds that own no list.
abbrev pub EncodesWithoutList : WasmFeatures → List Kind → List ℕ → List Immediate → Type 0
EncodesWithoutList f ks text is = EncodesKinds f ks text is × ¬ OwnList is
