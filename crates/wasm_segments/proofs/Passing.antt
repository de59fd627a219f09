-- Reading past the items of a list.
use Rattle.std.proofs.Common.{◌≡◌, ℕ, ◌+◌, Result, Ok, Err, ◌-◌, ◌<◌, ◌≤◌, List, [], ◌∷◌, ◌++◌, length, take, refl, sym, subst, ap, ◌∙◌, arith}
use Rattle.std.proofs.lemmas.List.{take_at}
use Rattle.wasm_below.specs.declared.error.Error.{Error}
use Rattle.wasm_below.specs.declared.features.WasmFeatures.{WasmFeatures}
use Rattle.wasm_below.specs.declared.message.Message.{Message}
use Rattle.wasm_below.specs.Source.{Reader, Reads, offset_of}
use Rattle.wasm_grammars.specs.Grammar.{IsPart, Grammar, part, spanned, thing, HasReadBy}
use Rattle.wasm_grammars.specs.Parts.{more}
use Rattle.wasm_grammars.specs.Reading.{Fails, ReadsFrom}
use Rattle.wasm_grammars.proofs.Members.{list_begins, member, member_fails}
use Rattle.wasm_sections.specs.Items.{Counted}
use Rattle.wasm_grammars.proofs.Steps.{Comes, begins_at, with_bytes, part_fails, thing_fails, ends}

-- `n` items begin at `first`. Of these, `k` are left.
abbrev pub Left : {X : Type 0} → Grammar X → ℕ → ℕ → ℕ → Reader → Reader → Type 0
Left {X} h s n k first now = (xs : List X) × Comes s (more n h []) first (more k h xs) now

pub passing_begins : {X : Type 0} (h : Grammar X) {s : ℕ} {first now : Reader} (n : ℕ) → now ≡ first → s ≤ offset_of first → Left h s n (n - 0) first now
passing_begins h n same le = ([], list_begins h n [] refl (begins_at (more n h []) same le))

module _ {X : Type 0} (F : WasmFeatures → Grammar X) {f : WasmFeatures} {s : ℕ} (n i : ℕ) {first now : Reader} (left : Left (thing (F f)) s n (n - i) first now)
    (same : first.features ≡ f) where
  pub passed : i < n → (x : X) {mid : Reader} → HasReadBy (F now.features) x now mid → Left (thing (F f)) s n (n - (i + 1)) first mid
  passed few x {mid} r =
      let item = subst (λ z. HasReadBy (F z) x now mid) (left.1.features ∙ same) r in
      (left.0 ++ x ∷ [], member (thing (F f)) n i left.0 left.1 few x refl item)

  pub passing_fails : i < n → {e : Error} → Fails (F now.features) (offset_of now) e now → Fails (more n (thing (F f)) []) s e first
  passing_fails few {e} k =
      let item = subst (λ z. Fails (F z) (offset_of now) e now) (left.1.features ∙ same) k in
      member_fails (thing (F f)) n i left.0 left.1 few (thing_fails (F f) s e now left.1.later item)

  pub all_passed : i ≡ n → (found : List ℕ × List X) × HasReadBy (spanned (more n (thing (F f)) [])) found first now
  all_passed all =
      let none : n - i ≡ 0 = omega arith in
      let r = ends (subst (λ k. Comes s (more n (thing (F f)) []) first (more k (thing (F f)) left.0) now) none left.1) in
      ((r.0, left.0), with_bytes (more n (thing (F f)) []) left.0 r)

-- The first bytes.
pub taken_front : (text after : List ℕ) {bytes : List ℕ} {n : ℕ} → bytes ≡ text ++ after → n ≡ length text → take n bytes ≡ text
taken_front text after {bytes} {n} e size = ap (take n) e ∙ take_at text after n (sym size)

abbrev pub counted_at : ℕ → Reader → Counted
counted_at n r = record { count = n; reader = r }

-- The rest is a part.
pub ends_part : {X : Type 0} {s : ℕ} {g : Grammar X} {old now : Reader} {E : List ℕ → X → Type 0} {F : Message → Reader → ℕ → Type 0} {M : Reader → Type 0} {is : IsPart E F} →
    Comes s g old (part E F M is) now → now ≡ old → (result : Result X Error) (new : Reader) → Reads E F result now new → ReadsFrom g s result old new
ends_part c same (Ok x) new h = c.reads x new h
ends_part {s = s} {now = now} {E = E} {F = F} {M = M} {is = is} c same (Err e) new h = (h.0 ∙ same, c.fails e (part_fails E F M is s e now new c.later h))
