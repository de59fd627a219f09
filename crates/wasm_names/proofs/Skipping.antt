-- Skipping names, of which `i` of `n` are skipped.
use Rattle.std.proofs.Common.{◌≡◌, ℕ, suc, ◌+◌, ◌-◌, ◌<◌, List, length, take, sym, subst, ap, ◌∙◌, arith}
use Rattle.std.proofs.lemmas.List.{take_at}
use Rattle.wasm_below.specs.declared.error.Error.{Error}
use Rattle.wasm_below.specs.declared.features.WasmFeatures.{WasmFeatures}
use Rattle.wasm_below.specs.Source.{Reader, reader_of, at_position, rest, offset_of, Takes}
use Rattle.wasm_grammars.specs.Grammar.{Grammar, HasReadBy}
use Rattle.wasm_grammars.specs.Reading.{Fails}
use Rattle.wasm_grammars.proofs.Steps.{Comes, then, fails_in, ends}
use Rattle.wasm_names.specs.Names.{skipped_name, skipped, opened}
use Rattle.wasm_sections.specs.Items.{Counted}

module _ {X : Type 0} {s : ℕ} {g : Grammar X} {old now : Reader} (n i : ℕ) (x : X) (c : Comes s g old (skipped (n - i) x) now) where
  again : i < n → Comes s g old (skipped (suc (n - (i + 1))) x) now
  again few = subst (λ k. Comes s g old (skipped k x) now) (let left : n - i ≡ suc (n - (i + 1)) = omega arith in left) c

  pub skip_one : i < n → {size : ℕ} {mid : Reader} → HasReadBy skipped_name size now mid → Comes s g old (skipped (n - (i + 1)) x) mid
  skip_one few r = then (again few) r

  pub skip_fails : i < n → {e : Error} → Fails skipped_name (offset_of now) e now → Fails g s e old
  skip_fails few f = fails_in (again few) f

  pub all_skipped : i ≡ n → HasReadBy g x old now
  all_skipped all = ends (subst (λ k. Comes s g old (skipped k x) now) (let none : n - i ≡ 0 = omega arith in none) c)

pub none_skipped : {X : Type 0} {s : ℕ} {g : Grammar X} {old now : Reader} (n : ℕ) (x : X) → Comes s g old (skipped n x) now → Comes s g old (skipped (n - 0) x) now
none_skipped {X} {s} {g} {old} {now} n x c = subst (λ k. Comes s g old (skipped k x) now) (let whole : n ≡ n - 0 = omega arith in whole) c

-- The bytes that were read, as a prefix of the rest.
pub front : {old new : Reader} {text : List ℕ} {size : ℕ} → Takes old new text → size ≡ length text → take size (rest old) ≡ text
front {old} {new} {text} {size} t e = ap (λ z. take size z) t.parts ∙ take_at text (rest new) size (sym e)

-- A reader of the bytes at which the first name is.
pub opened_at : {features : WasmFeatures} {at start : ℕ} (n first : ℕ) {text bytes : List ℕ} {part unread : Reader} {names : Counted} → at ≡ start → bytes ≡ text →
    part ≡ reader_of features start bytes → unread ≡ at_position part (first - start) → names ≡ record { count = n; reader = unread } →
    opened features at (text, (n, first)) ≡ names
opened_at {features} {at} {start} n first {text} {bytes} {part} {unread} {names} same whole cut moved is =
    let placed : opened features at (text, (n, first)) ≡ opened features start (text, (n, first)) = ap (λ z. opened features z (text, (n, first))) same in
    let cut_off : opened features start (text, (n, first)) ≡ opened features start (bytes, (n, first)) = ap (λ z. opened features start (z, (n, first))) (sym whole) in
    let parted : opened features start (bytes, (n, first)) ≡ record { count = n; reader = at_position part (first - start) } =
    ap (λ z. record { count = n; reader = at_position z (first - start) }) (sym cut) in
    placed ∙ cut_off ∙ parted ∙ ap (λ z. record { count = n; reader = z }) (sym moved) ∙ sym is
