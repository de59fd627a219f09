use Rattle.std.specs.Prelude.{ℕ, List, [], ◌∷◌, Option, Some, None, codes, nat_eq, if◌then◌else◌}
use Rattle.std.specs.Result.{result_ok}
use Rattle.std.specs.Cmp.Lexicographic.{pointwise}
use Rattle.bitflags.specs.Text.{name_piece, read_text}

abbrev pub feature_names : List (List ℕ × ℕ)
feature_names =
    (codes "MULTI_MEMORY", 1)
    ∷ (codes "MEMORY64", 2)
    ∷ (codes "CALL_INDIRECT_OVERLONG", 4)
    ∷ (codes "LEGACY_EXCEPTIONS", 8)
    ∷ (codes "ACQUIRE_RELEASE_ATOMICS", 16)
    ∷ (codes "MULTIBYTE_ARRAY_ACCESS", 32)
    ∷ []

-- All features for `all` or no word, none for `none`, else those named, separated by bars; `None`
-- at an unknown name.
abbrev pub bits_of_word : Option (List ℕ) → Option ℕ
bits_of_word None = Some 63
bits_of_word (Some word) =
    if pointwise nat_eq word (codes "all") then Some 63
    else if pointwise nat_eq word (codes "none") then Some 0
    else result_ok (read_text (name_piece feature_names) word)
