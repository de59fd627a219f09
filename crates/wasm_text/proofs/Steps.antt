-- Loops that write a text piece by piece.
use Rattle.std.proofs.Common.{◌≡◌, ℕ, suc, ◌+◌, List, [], ◌∷◌, ◌++◌, ap, sym, ◌∙◌, append_assoc, append-nil}
use Rattle.std.specs.List.{repeat}
use Rattle.wasm_text.specs.Rows.{row, rows_from}

pub all_came : (n : ℕ) (Left : ℕ → List ℕ) (new all : List ℕ) → n ≡ 0 → Left 0 ≡ [] → new ++ Left n ≡ all → new ≡ all
all_came n Left new all none empty h = sym (append-nil new) ∙ ap (λ text. new ++ text) (sym empty) ∙ ap (λ k. new ++ Left k) (sym none) ∙ h

pub time_came : (n m : ℕ) (text now new all : List ℕ) → n ≡ suc m → new ≡ now ++ text → now ++ repeat n text ≡ all → new ++ repeat m text ≡ all
time_came n m text now new all is wrote h =
    ap (λ t. t ++ repeat m text) wrote ∙ append_assoc now text (repeat m text) ∙ ap (λ k. now ++ repeat k text) (sym is) ∙ h

pub row_came : (n m offset k : ℕ) (bytes now mid new all : List ℕ) → n ≡ suc m → mid ≡ now ++ row offset bytes k → new ≡ mid ++ 10 ∷ [] →
    now ++ rows_from n offset bytes k ≡ all → new ++ rows_from m offset bytes (k + 1) ≡ all
row_came n m offset k bytes now mid new all is shown ended h =
    ap (λ t. t ++ rows_from m offset bytes (k + 1)) ended ∙ append_assoc mid (10 ∷ []) (rows_from m offset bytes (k + 1)) ∙
    ap (λ t. t ++ 10 ∷ rows_from m offset bytes (k + 1)) shown ∙ append_assoc now (row offset bytes k) (10 ∷ rows_from m offset bytes (k + 1)) ∙
    ap (λ j. now ++ rows_from j offset bytes k) (sym is) ∙ h
