use Rattle.std.proofs.Common.{◌≡◌, ◌∙◌, ◌<◌, ℕ, List, map, sym, ap, arith, get_or, slice_index_or}
use Rattle.std.specs.List.{range_with_len}
use Rattle.std.proofs.Math.ListN.{get_or-map}
use Rattle.std.proofs.lemmas.List.FromFn.{get_or-map-range_with_len}

pub text_at : {X : Type 0} (text : ℕ → List ℕ) (view : X → List ℕ) (rows : List X) (byte : ℕ) (d : X) →
    map view rows ≡ map text (range_with_len 0 256) → byte < 256 → view (slice_index_or rows byte d) ≡ text byte
text_at text view rows byte d same low =
    sym (get_or-map view rows byte d) ∙ ap (λ l. get_or l byte (view d)) same ∙
    get_or-map-range_with_len text 0 256 byte byte (view d) low (omega arith)
