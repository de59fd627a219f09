-- Writing a list, of which `i` of `n` members are written.
use Rattle.std.proofs.Common.{◌≡◌, ◌≢◌, ℕ, zero, suc, ◌+◌, ◌-◌, ◌≤◌, ◌<◌, List, [], ◌∷◌, ◌++◌, length, take, drop, refl, sym, subst, ap, ◌∙◌, append_assoc, arith}
use Rattle.std.proofs.lemmas.List.{append-nil, take-append-drop}
use Rattle.wasm_below.specs.declared.message.SizeName.{SizeName}
use Rattle.wasm_below.proofs.TakesLemmas.{same_rest}
use Rattle.wasm_grammars.specs.Grammar.{Grammar, bind, allocate, thing, Encodes}
use Rattle.wasm_grammars.specs.Parts.{size, more, counted}
use Rattle.wasm_write_grammars.specs.Writing.{Writes, HasNone}
use Rattle.wasm_write_grammars.proofs.Owing.{Owes, Only, owes, wrote, lacks_part, reserved, paid}

-- A list of `n` more members is that much longer.
pub more_parts : {X : Type 0} (n : ℕ) (h : Grammar X) (got : List X) (place : ℕ) (text : List ℕ) (xs : List X) → Encodes (more n h got) place text xs →
    (after : List X) × (xs ≡ got ++ after) × (length after ≡ n)
more_parts zero h got place text xs (e, is) = ([], is ∙ sym (append-nil got), refl)
more_parts (suc n) h got place text xs (first, rest, z, e, p, q) =
    let (after, is, len) = more_parts n h (got ++ z ∷ []) (place + length first) rest xs q in
    (z ∷ after, is ∙ append_assoc got (z ∷ []) after, ap suc len)

-- The number of members.
pub only_count : {X : Type 0} (limit : ℕ) (name : SizeName) (h : Grammar X) (xs : List X) → Only (size limit name) (λ n. allocate (more n h [])) xs (length xs)
only_count limit name h xs z place at first rest p q =
    let (after, is, len) = more_parts z h [] at rest xs q in
    sym len ∙ ap length (sym is)

module _ {X : Type 0} {g : Grammar (List X)} {xs : List X} {old now : List ℕ} (h : Grammar X) (n i : ℕ) (o : Owes g xs old (more (n - i) h (take i xs)) now) where
  again : i < n → Owes g xs old (more (suc (n - (i + 1))) h (take i xs)) now
  again few = subst (λ k. Owes g xs old (more k h (take i xs)) now) (let left : n - i ≡ suc (n - (i + 1)) = omega arith in left) o

  -- The member that follows is the only one that can.
  only_member : (x : X) → take (i + 1) xs ≡ take i xs ++ x ∷ [] → Only h (λ z. more (n - (i + 1)) h (take i xs ++ z ∷ [])) xs x
  only_member x next z place at first rest p q =
      let (after, is, len) = more_parts (n - (i + 1)) h (take i xs ++ z ∷ []) at rest xs q in
      let whole : take i xs ++ (z ∷ after) ≡ take i xs ++ (x ∷ drop (i + 1) xs) =
      sym (append_assoc (take i xs) (z ∷ []) after) ∙ sym is ∙ sym (take-append-drop (i + 1) xs) ∙ ap (λ k. k ++ drop (i + 1) xs) next ∙ append_assoc (take i xs) (x ∷ []) (drop (i + 1) xs) in
      let tails = same_rest (take i xs) (take i xs) (z ∷ after) (x ∷ drop (i + 1) xs) refl whole in
      cc tails

  pub member_written : i < n → (x : X) {mid : List ℕ} → take (i + 1) xs ≡ take i xs ++ x ∷ [] → Writes h x now mid →
      Owes g xs old (more (n - (i + 1)) h (take (i + 1) xs)) mid
  member_written few x {mid} next w =
      subst (λ z. Owes g xs old (more (n - (i + 1)) h z) mid) (sym next) (wrote (again few) x (only_member x next) w)

  pub member_lacks : i < n → (x : X) → take (i + 1) xs ≡ take i xs ++ x ∷ [] → HasNone h x → HasNone g xs
  member_lacks few x next none = lacks_part (again few) x (only_member x next) none

  pub members_written : i ≡ n → xs ≡ take i xs → Writes g xs old now
  members_written all same = paid (subst (λ k. Owes g xs old (more k h (take i xs)) now) (let none : n - i ≡ 0 = omega arith in none) o) same

-- The count is written.
pub members_begin : {X : Type 0} {g : Grammar (List X)} {xs : List X} {old now : List ℕ} (h : Grammar X) (n : ℕ) → Owes g xs old (more n h []) now →
    Owes g xs old (more (n - 0) h []) now
members_begin {X} {g} {xs} {old} {now} h n o = subst (λ k. Owes g xs old (more k h []) now) (let whole : n ≡ n - 0 = omega arith in whole) o

pub parts_at : {X : Type 0} (xs : List X) (i : ℕ) (x : X) → take (i + 1) xs ≡ take i xs ++ x ∷ [] → xs ≡ take i xs ++ x ∷ drop (i + 1) xs
parts_at xs i x next =
    sym (take-append-drop (i + 1) xs) ∙ ap (λ k. k ++ drop (i + 1) xs) next ∙ append_assoc (take i xs) (x ∷ []) (drop (i + 1) xs)
