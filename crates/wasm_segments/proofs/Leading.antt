-- A table has a first byte.
use Rattle.std.proofs.Common.{◌≡◌, ◌<◌, ◌+◌, ℕ, suc, List, [], ◌∷◌, ◌++◌, length, ap, ◌∙◌, length-append, arith}
use Rattle.wasm_below.specs.declared.features.WasmFeatures.{WasmFeatures}
use Rattle.wasm_below.proofs.TypeEncodings.{ref_empty}
use Rattle.wasm_grammars.specs.Grammar.{Grammar, Encodes}
use Rattle.wasm_segments.specs.declared.table.Table.{Table}
use Rattle.wasm_segments.specs.Globals.{initialized_table, null_table}

-- A part of the bytes is not empty.
longer : {text a : List ℕ} (b : List ℕ) {first : ℕ} {after : List ℕ} → text ≡ a ++ b → a ≡ first ∷ after → 0 < length text
longer {text} {a} b {first} {after} e f =
    let whole : length text ≡ length a + length b = ap length e ∙ length-append a b in
    let some : length a ≡ suc (length after) = ap length f in
    omega (arith, whole, some)

pub initialized_some : {C : Type 0} (features : WasmFeatures) (constant : Grammar C) (at : ℕ) (text : List ℕ) (x : Table C) →
    Encodes (initialized_table features constant) at text x → 0 < length text
initialized_some features constant at text x (a, b, n, e, is, _) = longer b e is.0

pub null_some : {C : Type 0} (features : WasmFeatures) (at : ℕ) (text : List ℕ) (x : Table C) → Encodes (null_table features) at text x → 0 < length text
null_some features at text x (a, b, ty, e, ([], d, r, f, is, _), _) = absurd (ref_empty r is)
null_some features at text x (a, b, ty, e, (y ∷ c, d, r, f, is, _), _) = longer b e f
