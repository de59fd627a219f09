-- The numbers that the bytes of a branch table encode.
use Rattle.std.proofs.Common.{◌≡◌, ℕ, List, [], ◌∷◌, ◌++◌, flat_map, sym, ap, ◌∙◌, append_assoc, append-nil}
use Rattle.wasm_text.specs.Values.{number_text}
use Rattle.wasm_text.proofs.Pieces.{two_pieces}

pub target_written : (all now new old left : List ℕ) (label : ℕ) → old ≡ label ∷ left → new ≡ now ++ number_text label →
    now ++ flat_map number_text old ≡ all → new ++ flat_map number_text left ≡ all
target_written all now new old left label is wrote h =
    ap (λ text. text ++ flat_map number_text left) wrote ∙ append_assoc now (number_text label) (flat_map number_text left) ∙
    ap (λ ts. now ++ flat_map number_text ts) (sym is) ∙ h

pub table_written : (before now new left targets : List ℕ) (default : ℕ) → left ≡ [] → now ++ flat_map number_text left ≡ before ++ flat_map number_text targets →
    new ≡ now ++ number_text default → new ≡ before ++ (flat_map number_text targets ++ number_text default)
table_written before now new left targets default none h wrote =
    let all : now ≡ before ++ flat_map number_text targets = sym (append-nil now) ∙ ap (λ ts. now ++ flat_map number_text ts) (sym none) ∙ h in
    two_pieces before now new (flat_map number_text targets) (number_text default) all wrote
