-- An item of a type section has a first byte.
use Rattle.std.proofs.Common.{◌≡◌, ◌<◌, ◌+◌, ℕ, suc, List, ◌∷◌, ◌++◌, length, ap, length-append, ◌∙◌, arith}
use Rattle.wasm_c_items.specs.declared.types.WasmGroup.{WasmGroup}
use Rattle.wasm_c_items.specs.Types.{function_item, other_item}
use Rattle.wasm_grammars.specs.Grammar.{Encodes}

longer : {text a : List ℕ} (b : List ℕ) {first : ℕ} {after : List ℕ} → text ≡ a ++ b → a ≡ first ∷ after → 0 < length text
longer {text} {a} b {first} {after} e f =
    let whole : length text ≡ length a + length b = ap length e ∙ length-append a b in
    let some : length a ≡ suc (length after) = ap length f in
    omega (arith, whole, some)

pub function_some : (at : ℕ) (text : List ℕ) (x : WasmGroup) → Encodes function_item at text x → 0 < length text
function_some at text x (a, b, n, e, is, _) = longer b e is.0

pub other_some : (at : ℕ) (text : List ℕ) (x : WasmGroup) → Encodes other_item at text x → 0 < length text
other_some at text x (a, b, g, e, (v, (first, after, f, _), _), _) = longer b e f
