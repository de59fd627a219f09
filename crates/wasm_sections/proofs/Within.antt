-- What is within the data.
use Rattle.std.proofs.Common.{◌≡◌, ℕ, ◌+◌, ◌≤◌, List, length, length-append, sym, subst, ap, ◌∙◌, arith}
use Rattle.wasm_below.specs.declared.features.WasmFeatures.{WasmFeatures}
use Rattle.wasm_below.specs.Source.{Reader, offset_of, end_of, Takes}
use Rattle.wasm_grammars.specs.Blocks.{contents}
use Rattle.wasm_grammars.specs.Grammar.{HasReadBy}
use Rattle.wasm_grammars.proofs.Steps.{kept, moved_on}

-- The start of a call is within the data after bytes that were read.
pub start_within : {old copy mid : Reader} {text : List ℕ} → copy ≡ old → offset_of old ≤ end_of old → Takes copy mid text → offset_of old ≤ end_of mid
start_within {old} {copy} {mid} same le t = kept (subst (λ r. offset_of old ≤ end_of r) (sym same) le) t

-- Contents end at the next byte.
pub contents_end : {f : WasmFeatures} {n : ℕ} {c r new : Reader} → HasReadBy (contents f n) c r new → end_of c ≡ offset_of new
contents_end {f} {n} {c} {r} {new} (text, (x, y, at, e, (none, here), (a, b, bytes, e2, is, (none2, value))), t) =
    let ends : end_of c ≡ at + length bytes = ap end_of value in
    let size : length a ≡ length bytes = ap length is.0 in
    let first : length x ≡ 0 = ap length none in
    let last : length b ≡ 0 = ap length none2 in
    let whole : length text ≡ length x + length y = ap length e ∙ length-append x y in
    let rest : length y ≡ length a + length b = ap length e2 ∙ length-append a b in
    let moved = moved_on t in
    omega (arith, ends, size, first, last, whole, rest, moved, here)
