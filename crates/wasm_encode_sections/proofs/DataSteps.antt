-- Writing data segments.
use Rattle.std.proofs.Common.{◌≡◌, ◌≢◌, ℕ, suc, ◌+◌, ◌≤◌, ◌<◌, inl, inr, Bool, true, false, List, [], ◌∷◌, ◌++◌, length, Result, refl, sym, subst, ap, ◌∙◌, length-append, arith}
use Rattle.std.proofs.lemmas.Bool.{eqb-true, leb-true, eq-eqb, ne_eqb, false≢true}
use Rattle.std.proofs.lemmas.List.{append-nil}
use Rattle.std.specs.Prelude.{◌==◌, leb, IsErrAnd}
use Rattle.wasm_below.specs.declared.malformed.Malformed.TheVariants as malformed
use Rattle.wasm_below.specs.declared.message.Message.{Message}
use Rattle.wasm_below.specs.declared.message.Message.TheVariants as message
use Rattle.wasm_below.specs.Number.{EncodesUnsigned}
use Rattle.wasm_grammars.specs.Blocks.{sized}
use Rattle.wasm_grammars.specs.Grammar.{Grammar, done, bind, need, thing, Encodes}
use Rattle.wasm_grammars.specs.Parts.{u32}
use Rattle.wasm_segments.specs.declared.data.Data.{Data}
use Rattle.wasm_segments.specs.declared.data.DataKind.{DataKind}
use Rattle.wasm_segments.specs.declared.data.DataKind.TheVariants as kind
use Rattle.wasm_segments.specs.Segments.{memory_index, data_kind, data_segment}
use Rattle.wasm_write_grammars.specs.Writing.{Writes, Extends, IsUnwritable, AppendsBy}
use Rattle.wasm_write_grammars.proofs.Owing.{Owes, Only, owes, wrote, meets, chosen, other, of_thing, paid, thing_fails}
use Rattle.wasm_encode_sections.specs.SegmentFlags.{active_flags, data_flags}
use Rattle.wasm_encode_sections.specs.SegmentReasons.{PlaceReason}
use Rattle.wasm_encode_sections.proofs.InnerBytes.{sides}

-- The value is written by a grammar `k`, each of whose encodings is one by `h`. Each encoding by `h` has
-- one by `k` that is not longer.
pub instead : {X : Type 0} {g h k : Grammar X} {x : X} {old now : List ℕ} → Owes g x old h now → ((place : ℕ) (text : List ℕ) → Encodes k place text x → Encodes h place text x) →
    ((place : ℕ) (text : List ℕ) → Encodes h place text x → (there : ℕ) × (other : List ℕ) × Encodes k there other x × (length other ≤ length text)) → Owes g x old k now
instead o within shorter =
    record {
      appended = o.appended;
      pays = λ new w. o.pays new (record {
        text = w.text;
        appended = w.appended;
        encodes = λ place. within place w.text (w.encodes place);
        shortest = λ place text p. (let (there, other, q, le) = shorter place text p in let short = w.shortest there other q in omega (arith, short, le));
      });
      lacks = λ none. o.lacks (λ place text p. (let (there, other, q, le) = shorter place text p in none there other q));
    }

-- ---- the kind

-- The memory's index is written unless it is 0.
pub index_written : (i : ℕ) → i ≢ 0 → {old new : List ℕ} → Writes u32 i old new → Writes (memory_index (active_flags (i == 0) == 2)) i old new
index_written i some {old} {new} w =
    let is : (active_flags (i == 0) == 2) ≡ true = ap (λ z. active_flags z == 2) (ne_eqb i 0 some) in
    (chosen (owes (memory_index (active_flags (i == 0) == 2)) i old) is).pays new w

pub no_index : (i : ℕ) → i ≡ 0 → (old : List ℕ) → Writes (memory_index (active_flags (i == 0) == 2)) i old old
no_index i none old =
    let is : (active_flags (i == 0) == 2) ≡ false = ap (λ z. active_flags z == 2) (eq-eqb i 0 none) in
    paid (other (owes (memory_index (active_flags (i == 0) == 2)) i old) is) none

pub passive_written : {C : Type 0} (p : Grammar C) {x : DataKind C} → x ≡ kind.Passive → (old : List ℕ) → Writes (data_kind p (data_flags x)) x old old
passive_written p {x} is old = subst (λ k. Writes (data_kind p (data_flags k)) k old old) (sym is) (paid (chosen (owes (data_kind p 1) kind.Passive old) refl) refl)

not_passive : (b : Bool) → (active_flags b == 1) ≡ false
not_passive true = refl
not_passive false = refl

-- What is written after the index.
abbrev pub after_index : {C : Type 0} → Grammar C → ℕ → Grammar (DataKind C)
after_index p i = bind (thing p) (λ v. done (kind.Active i v))

module _ {C : Type 0} (p : Grammar C) (i : ℕ) (v : C) where
  only_index : (b : Bool) → Only (thing (memory_index b)) (after_index p) (kind.Active i v) i
  only_index b z place at first after q (c, d, u, e, r, (none, same)) = sym (cc same)

  only_offset : Only (thing p) (λ u. done (kind.Active i u)) (kind.Active i v) v
  only_offset z place at first after q (none, same) = sym (cc same)

  pub index_starts : {old mid : List ℕ} → Writes (memory_index (active_flags (i == 0) == 2)) i old mid →
      Owes (data_kind p (active_flags (i == 0))) (kind.Active i v) old (after_index p i) mid
  index_starts {old} w =
      wrote (other (owes (data_kind p (active_flags (i == 0))) (kind.Active i v) old) (not_passive (i == 0))) i (only_index (active_flags (i == 0) == 2))
      (of_thing w)

  pub active_written : {x : DataKind C} → x ≡ kind.Active i v → {old mid new : List ℕ} → Writes (memory_index (active_flags (i == 0) == 2)) i old mid →
      Writes p v mid new → Writes (data_kind p (data_flags x)) x old new
  active_written {x} same {old} {mid} {new} one two =
      subst (λ k. Writes (data_kind p (data_flags k)) k old new) (sym same) (paid (wrote (index_starts one) v only_offset (of_thing two)) refl)

  pub active_fails : (Why : C → Message → Type 0) {x : DataKind C} → x ≡ kind.Active i v → {old mid new : List ℕ} →
      Writes (memory_index (active_flags (i == 0) == 2)) i old mid → {Z : Type 0} (r : Result Z Message) {m : Message} → IsErrAnd r (λ k. k ≡ m) →
      Extends mid new × (m ≢ message.OutOfMemory → IsUnwritable p Why v m) → AppendsBy (data_kind p (data_flags x)) (PlaceReason Why) x r old new
  active_fails Why {x} same {old} {mid} {new} one r err h =
      subst (λ k. AppendsBy (data_kind p (data_flags k)) (PlaceReason Why) k r old new) (sym same)
      (thing_fails (PlaceReason Why) r err (index_starts one) v only_offset h (λ why. why))

-- ---- the segment

abbrev pub data_of : {C : Type 0} → DataKind C → List ℕ → Data C
data_of k b = record { kind = k; «data» = b }

-- What is written after the number.
abbrev pub after_flags : {C : Type 0} → Grammar C → ℕ → Grammar (Data C)
after_flags p n = bind (thing (data_kind p n)) (λ k. bind (thing sized) (λ b. done (data_of k b)))

abbrev pub checked : {C : Type 0} → Grammar C → ℕ → Grammar (Data C)
checked p n = need (leb n 2) (message.Malformed malformed.DataFlags) (after_flags p n)

-- The number is 0.
abbrev pub unindexed : {C : Type 0} → Grammar C → Grammar (Data C)
unindexed p = bind u32 (λ n. need (n == 0) (message.Malformed malformed.DataFlags) (checked p n))

no_other : (n : ℕ) → n ≤ 2 → (n == 1) ≡ false → (n == 2) ≡ false → n ≡ 0
no_other n le one two =
    let not_one : n ≢ 1 = λ e. false≢true (sym one ∙ eq-eqb n 1 e) in
    let not_two : n ≢ 2 = λ e. false≢true (sym two ∙ eq-eqb n 2 e) in
    omega (arith, le, not_one, not_two)

module _ {C : Type 0} (p : Grammar C) (x : Data C) where
  passive_one : x.kind ≡ kind.Passive → (n place : ℕ) (text : List ℕ) → Encodes (after_flags p n) place text x → n ≡ 1
  passive_one is n place text (a, b, k, e, q, (c, d, bytes, f, s, (none, same))) =
      let kinds : kind.Passive ≡ k = sym is ∙ ap (λ (z : Data C). z.kind) same in
      elim (sides (n == 1) q) [
        | inl (one, (nil, passive)) ↦ eqb-true n 1 one
        | inr (unequal, (g, r, i, h, m, (o, t, v, l, w, (nil, active)))) ↦ (let clash : kind.Passive ≡ kind.Active i v = kinds ∙ active in cc clash)
      ]

  active_two : (i : ℕ) (v : C) → x.kind ≡ kind.Active i v → (i == 0) ≡ false → (n place : ℕ) (text : List ℕ) → Encodes (after_flags p n) place text x → n ≡ 2
  active_two i v is some n place text (a, b, k, e, q, (c, d, bytes, f, s, (none, same))) =
      let kinds : kind.Active i v ≡ k = sym is ∙ ap (λ (z : Data C). z.kind) same in
      elim (sides (n == 1) q) [
        | inl (one, (nil, passive)) ↦ (let clash : kind.Active i v ≡ kind.Passive = kinds ∙ passive in cc clash)
        | inr (unequal, (g, r, j, h, m, (o, t, u, l, w, (nil, active)))) ↦ elim (sides (n == 2) m) [
          | inl (two, number) ↦ eqb-true n 2 two
          | inr (not, (empty, first)) ↦ (
              let both : kind.Active i v ≡ kind.Active j u = kinds ∙ active in
              let equal : i ≡ j = cc both in
              absurd (false≢true (sym some ∙ ap (λ z. z == 0) (equal ∙ first)))
              )
        ]
      ]

  -- An encoding without the index.
  without : (first f o c : List ℕ) (place : ℕ) (u : C) (bytes : List ℕ) → 0 < length first → Encodes p (place + length first + length f) o u → Encodes sized 0 c bytes →
      x ≡ data_of (kind.Active 0 u) bytes → (there : ℕ) × (other : List ℕ) × Encodes (unindexed p) there other x × (length other ≡ suc (length o + length c))
  without [] f o c place u bytes some w s same = absurd (omega (arith, some))
  without (b ∷ first) f o c place u bytes some w s same =
      let there = place + length first + length f in
      let at : place + length (b ∷ first) + length f ≡ there + length {A = ℕ} (0 ∷ []) + length {A = ℕ} [] = omega arith in (
        there,
        0 ∷ (o ++ c),
        (
          0 ∷ [],
          o ++ c,
          0,
          refl,
          (omega arith, refl, omega arith),
          (
            refl,
            (
              refl,
              (
                o,
                c,
                kind.Active 0 u,
                refl,
                ([], o, 0, refl, (refl, refl), (o, [], u, sym (append-nil o), subst (λ z. Encodes p z o u) at w, (refl, refl))),
                (c, [], bytes, sym (append-nil c), s, (refl, same)),
              ),
            ),
          ),
        ),
        ap suc (length-append o c),
      )

  some_bytes : (first : List ℕ) (n : ℕ) → EncodesUnsigned 32 first n → 0 < length first
  some_bytes [] n p = absurd p
  some_bytes (b ∷ first) n p = omega arith

  shorter : (v : C) → x.kind ≡ kind.Active 0 v → (place : ℕ) (text : List ℕ) → Encodes (data_segment p) place text x →
      (there : ℕ) × (other : List ℕ) × Encodes (unindexed p) there other x × (length other ≤ length text)
  shorter v is place text (first, after, n, e, number, (small, (a, b, k, e2, q, (c, d, bytes, e3, s, (none, same))))) =
      let kinds : kind.Active 0 v ≡ k = sym is ∙ ap (λ (z : Data C). z.kind) same in
      elim (sides (n == 1) q) [
        | inl (one, (nil, passive)) ↦ (let clash : kind.Active 0 v ≡ kind.Passive = kinds ∙ passive in cc clash)
        | inr (unequal, (f, r, j, e4, m, (o, t, u, e5, w, (nil, active)))) ↦ elim (sides (n == 2) m) [
          | inr (not, index) ↦ (
              let zero_flags = eq-eqb n 0 (no_other n (leb-true n 2 small) unequal not) in
              (place, text, (first, after, n, e, number, (zero_flags, (small, (a, b, k, e2, q, (c, d, bytes, e3, s, (none, same)))))), omega arith)
              )
          | inl (two, index) ↦ (
              let both : kind.Active 0 v ≡ kind.Active j u = kinds ∙ active in
              let first_memory : 0 ≡ j = cc both in
              let (there, other, enc, len) = without first f o c place u bytes (some_bytes first n number) w s (same ∙ ap (λ z. data_of z bytes) (active ∙ ap (λ z. kind.Active z u) (sym first_memory))) in
              let l1 = ap length e ∙ length-append first after in
              let l2 = ap length e2 ∙ length-append a b in
              let l3 = ap length e3 ∙ length-append c d in
              let l4 = ap length e4 ∙ length-append f r in
              let l5 = ap length e5 ∙ length-append o t in
              let some = some_bytes first n number in
              (there, other, enc, omega (arith, len, l1, l2, l3, l4, l5, some))
              )
        ]
      ]

  narrower : (place : ℕ) (text : List ℕ) → Encodes (unindexed p) place text x → Encodes (data_segment p) place text x
  narrower place text (a, b, n, e, q, (none, r)) = (a, b, n, e, q, r)

  only_first : Only u32 (λ n. need (n == 0) (message.Malformed malformed.DataFlags) (checked p n)) x 0
  only_first z place at first after q (none, r) = eqb-true z 0 none

  flags_first : {old mid : List ℕ} (v : C) → x.kind ≡ kind.Active 0 v → Writes u32 0 old mid → Owes (data_segment p) x old (after_flags p 0) mid
  flags_first {old} {mid} v is w =
      let start : Owes (data_segment p) x old (unindexed p) old = instead (owes (data_segment p) x old) narrower (shorter v is) in
      let first : Owes (data_segment p) x old (need (0 == 0) (message.Malformed malformed.DataFlags) (checked p 0)) mid = wrote start 0 only_first w in
      meets (meets first refl) refl

  flags_only : {old mid : List ℕ} (n : ℕ) → (leb n 2 ≡ true) → ((z place : ℕ) (text : List ℕ) → Encodes (after_flags p z) place text x → z ≡ n) → Writes u32 n old mid →
      Owes (data_segment p) x old (after_flags p n) mid
  flags_only {old} n small only w = meets (wrote (owes (data_segment p) x old) n (λ z place at first after q r. only z at after r.1) w) small

  flags_active : {old mid : List ℕ} (i : ℕ) (v : C) → x.kind ≡ kind.Active i v → (b : Bool) → (i == 0) ≡ b → Writes u32 (active_flags b) old mid →
      Owes (data_segment p) x old (after_flags p (active_flags b)) mid
  flags_active i v is true first w = flags_first v (is ∙ ap (λ z. kind.Active z v) (eqb-true i 0 first)) w
  flags_active i v is false some w = flags_only 2 refl (λ z place text e. active_two i v is some z place text e) w

  by_kind : {old mid : List ℕ} (k : DataKind C) → x.kind ≡ k → Writes u32 (data_flags k) old mid → Owes (data_segment p) x old (after_flags p (data_flags k)) mid
  by_kind kind.Passive is w = flags_only 1 refl (λ z place text e. passive_one is z place text e) w
  by_kind (kind.Active i v) is w = flags_active i v is (i == 0) refl w

  pub flags_starts : {n : ℕ} → n ≡ data_flags x.kind → {old mid : List ℕ} → Writes u32 n old mid → Owes (data_segment p) x old (after_flags p (data_flags x.kind)) mid
  flags_starts {n} is {old} {mid} w = by_kind x.kind refl (subst (λ z. Writes u32 z old mid) is w)

  pub only_kind : (n : ℕ) → Only (thing (data_kind p n)) (λ k. bind (thing sized) (λ b. done (data_of k b))) x x.kind
  only_kind n z place at first after q (c, d, bytes, f, s, (none, same)) = sym (ap (λ (k : Data C). k.kind) same)

  pub only_bytes : (k : DataKind C) → Only (thing sized) (λ b. done (data_of k b)) x x.«data»
  only_bytes k z place at first after q (none, same) = sym (ap (λ (k : Data C). k.«data») same)

  pub kind_starts : {n : ℕ} → n ≡ data_flags x.kind → {old mid now : List ℕ} → Writes u32 n old mid → Writes (data_kind p (data_flags x.kind)) x.kind mid now →
      Owes (data_segment p) x old (bind (thing sized) (λ b. done (data_of x.kind b))) now
  kind_starts is one two = wrote (flags_starts is one) x.kind (only_kind (data_flags x.kind)) (of_thing two)

  pub data_written : {n : ℕ} → n ≡ data_flags x.kind → {old mid now new : List ℕ} → Writes u32 n old mid → Writes (data_kind p (data_flags x.kind)) x.kind mid now →
      Writes sized x.«data» now new → Writes (data_segment p) x old new
  data_written is one two three = paid (wrote (kind_starts is one two) x.«data» (only_bytes x.kind) (of_thing three)) refl
