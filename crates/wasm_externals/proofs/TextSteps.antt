use Rattle.std.proofs.Common.{◌≡◌, ℕ, ◌+◌, ◌<◌, ◌≤◌, List, length, ap, ◌∙◌, length-append, arith}
use Rattle.wasm_below.specs.Source.{Reader, offset_of, end_of, Takes}
use Rattle.wasm_below.proofs.Steps.{unsigned_some}
use Rattle.wasm_below.proofs.TakesLemmas.{within_buffer}
use Rattle.wasm_grammars.specs.Grammar.{Encodes}
use Rattle.wasm_grammars.proofs.Steps.{moved_on}
use Rattle.wasm_externals.specs.Texts.{text_size}

pub size_some : (at : ℕ) (text : List ℕ) (n : ℕ) → Encodes text_size at text n → 0 < length text
size_some at text n (first, rest, k, e, p, q) =
    let some : 0 < length first = unsigned_some 32 first k p in
    let whole : length text ≡ length first + length rest = ap length e ∙ length-append first rest in
    omega (arith, some, whole)

pub still_within : {old new : Reader} {text : List ℕ} → offset_of old ≤ end_of old → Takes old new text → offset_of new ≤ end_of new
still_within {old} {new} {text} le t =
    let whole = within_buffer old new text (omega (arith, le)) t in
    let at = moved_on t in
    let kept : end_of new ≡ end_of old = ap end_of t.moved in
    omega (arith, whole, at, kept)
