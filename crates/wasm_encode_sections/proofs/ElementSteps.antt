-- Writing element segments.
use Rattle.std.proofs.Common.{◌≡◌, ◌≢◌, ℕ, ◌+◌, ◌≤◌, ◌<◌, inl, inr, Bool, true, false, List, [], ◌∷◌, ◌++◌, length, Result, refl, sym, subst, ap, ◌∙◌, arith}
use Rattle.std.proofs.lemmas.Bool.{eqb-true, eq-eqb, ne_eqb, leb-true, le-leb, false≢true}
use Rattle.std.specs.Prelude.{◌==◌, ◌%◌, leb, Option, Some, None, is_some, IsErrAnd}
use Rattle.wasm_below.specs.declared.malformed.Malformed.TheVariants as malformed
use Rattle.wasm_below.specs.declared.message.Message.{Message}
use Rattle.wasm_below.specs.declared.message.Message.TheVariants as message
use Rattle.wasm_below.specs.Reference.{Reference}
use Rattle.wasm_grammars.specs.Grammar.{Grammar, done, bind, choose, thing, Encodes}
use Rattle.wasm_grammars.specs.Parts.{byte, u32, ref_type, fail_before}
use Rattle.wasm_sections.specs.Items.{items}
use Rattle.wasm_segments.specs.declared.element.ElementKind.{ElementKind}
use Rattle.wasm_segments.specs.declared.element.ElementKind.TheVariants as element
use Rattle.wasm_segments.specs.Elements.{inactive, element_kind, kind_if, type_if}
use Rattle.wasm_segments.specs.Flags.{has_flag, index_if}
use Rattle.wasm_write_grammars.specs.Writing.{Writes, IsUnwritable, Extends, AppendsBy, NoReason}
use Rattle.wasm_write_grammars.proofs.Owing.{Owes, Only, owes, wrote, meets, chosen, other, of_thing, paid, part_fails, thing_fails}
use Rattle.wasm_encode_sections.specs.declared.elements.ListedElement.{ListedElement}
use Rattle.wasm_encode_sections.specs.declared.elements.ListedItems.{ListedItems}
use Rattle.wasm_encode_sections.specs.declared.elements.ListedItems.TheVariants as list
use Rattle.wasm_encode_sections.specs.ElementReasons.{OffsetReason, TypeReason, ListedReason}
use Rattle.wasm_encode_sections.specs.ItemReasons.{ItemsReason}
use Rattle.wasm_encode_sections.specs.ListedElements.{listed_items, listed_flags, listed_element}
use Rattle.wasm_encode_sections.specs.SegmentFlags.{is_inactive, has_second, is_expressions, element_flags}
use Rattle.wasm_encode_sections.proofs.FlagBytes.{flag_bits, only_three, three_small}
use Rattle.wasm_encode_sections.proofs.InnerBytes.{sides}

-- ---- the number at the start

index_flag : (b : Bool) (at : ℕ) (text : List ℕ) (i : Option ℕ) → Encodes (index_if b) at text i → b ≡ is_some i
index_flag b at text i p =
    elim (sides b p) [
      | inl (is, (first, after, n, e, q, (none, same))) ↦ is ∙ ap is_some (sym same)
      | inr (unequal, (none, same)) ↦ unequal ∙ ap is_some (sym same)
    ]

inactive_is : (C : Type 0) (b : Bool) → (is_inactive (inactive {C = C} b) ≡ true) × (has_second (inactive {C = C} b) ≡ b)
inactive_is C true = (refl, refl)
inactive_is C false = (refl, refl)

kind_flags : {C : Type 0} (p : Grammar C) (z at : ℕ) (text : List ℕ) (k : ElementKind C) → Encodes (element_kind p z) at text k →
    (has_flag z 1 ≡ is_inactive k) × (has_flag z 2 ≡ has_second k)
kind_flags {C} p z at text k q =
    elim (sides (has_flag z 1) q) [
      | inl (is, (none, same)) ↦ (
        is ∙ sym (ap is_inactive same ∙ (inactive_is C (has_flag z 2)).0),
        sym (ap has_second same ∙ (inactive_is C (has_flag z 2)).1),
      )
      | inr (unequal, (f, r, i, e, m, (o, t, v, h, s, (none, same)))) ↦ (
        unequal ∙ sym (ap is_inactive same),
        index_flag (has_flag z 2) at f i m ∙ sym (ap has_second same),
      )
    ]

list_flag : {C : Type 0} (p : Grammar C) (z at : ℕ) (text : List ℕ) (x : ListedItems C) → Encodes (listed_items p z) at text x → has_flag z 4 ≡ is_expressions x
list_flag p z at text x q =
    elim (sides (has_flag z 4) q) [
      | inl (is, (f, r, t, e, m, (o, u, vs, h, s, (none, same)))) ↦ is ∙ ap is_expressions (sym same)
      | inr (unequal, (f, r, k, e, m, (o, u, xs, h, s, (none, same)))) ↦ unequal ∙ ap is_expressions (sym same)
    ]

-- The condition on the number.
abbrev pub at_most_seven : ℕ → Grammar ℕ
at_most_seven n = choose (leb n 7) (done n) (fail_before (message.Malformed malformed.ElementFlags))

seven_is : (n place : ℕ) (text : List ℕ) (z : ℕ) → Encodes (at_most_seven n) place text z → (n ≡ z) × (z ≤ 7)
seven_is n place text z p =
    elim (sides (leb n 7) p) [
      | inl (is, (none, same)) ↦ (sym same, leb-true z 7 (subst (λ k. leb k 7 ≡ true) (sym same) is))
      | inr (unequal, q) ↦ absurd q
    ]

flags_fit : (place : ℕ) (text : List ℕ) (z : ℕ) → Encodes listed_flags place text z → z ≤ 7
flags_fit place text z (first, after, n, e, p, q) = (seven_is n (place + length first) after z q).1

number_written : (n : ℕ) → n ≤ 7 → {old new : List ℕ} → Writes u32 n old new → Writes listed_flags n old new
number_written n le {old} w = paid (chosen (wrote (owes listed_flags n old) n (λ z place at first after p q. (seven_is z at after n q).0) w) (le-leb n 7 le)) refl

-- ---- the table's index

pub no_table : (b : Bool) {x : Option ℕ} → x ≡ None → b ≡ is_some x → (old : List ℕ) → Writes (index_if b) x old old
no_table b {x} is flag old = subst (λ k. Writes (index_if b) k old old) (sym is) (paid (other (owes (index_if b) None old) (flag ∙ ap is_some is)) refl)

pub table_index_written : (b : Bool) (n : ℕ) {x : Option ℕ} → x ≡ Some n → b ≡ is_some x → {old new : List ℕ} → Writes u32 n old new → Writes (index_if b) x old new
table_index_written b n {x} is flag {old} {new} w =
    subst (λ k. Writes (index_if b) k old new) (sym is)
    (paid (wrote (chosen (owes (index_if b) (Some n) old) (flag ∙ ap is_some is)) n (λ z place at first after q (none, same). sym (cc same)) w) refl)

-- ---- the kind

module _ {C : Type 0} (p : Grammar C) (n : ℕ) where
  pub inactive_written : (b : Bool) {x : ElementKind C} → x ≡ inactive b → has_flag n 1 ≡ is_inactive x → has_flag n 2 ≡ has_second x → (old : List ℕ) → Writes (element_kind p n) x old old
  inactive_written b {x} is one two old =
      let both = inactive_is C b in
      let second : has_flag n 2 ≡ b = two ∙ ap has_second is ∙ both.1 in
      paid (chosen (owes (element_kind p n) x old) (one ∙ ap is_inactive is ∙ both.0)) (is ∙ ap (λ z. inactive {C = C} z) (sym second))

module _ {C : Type 0} (p : Grammar C) (n : ℕ) (i : Option ℕ) (v : C) {x : ElementKind C} (is : x ≡ element.Active i v) (one : has_flag n 1 ≡ is_inactive x) (two : has_flag n 2 ≡ has_second x) where
  pub table_starts : {b : Bool} → b ≡ is_some i → {old mid : List ℕ} → Writes (index_if b) i old mid →
      Owes (element_kind p n) (element.Active i v) old (bind (thing p) (λ u. done (element.Active i u))) mid
  table_starts {b} flag {old} {mid} w =
      wrote (other (owes (element_kind p n) (element.Active i v) old) (one ∙ ap is_inactive is)) i (λ z place at first after q (c, d, u, e, r, (none, same)). sym (cc same))
      (of_thing (subst (λ z. Writes (index_if z) i old mid) (flag ∙ sym (two ∙ ap has_second is)) w))

  only_place : Only (thing p) (λ u. done (element.Active i u)) (element.Active i v) v
  only_place z place at first after q (none, same) = sym (cc same)

  pub place_written : {b : Bool} → b ≡ is_some i → {old mid new : List ℕ} → Writes (index_if b) i old mid → Writes p v mid new → Writes (element_kind p n) x old new
  place_written flag {old} {mid} {new} w u =
      subst (λ k. Writes (element_kind p n) k old new) (sym is) (paid (wrote (table_starts flag w) v only_place (of_thing u)) refl)

  pub place_fails : (Why : C → Message → Type 0) {b : Bool} → b ≡ is_some i → {old mid new : List ℕ} → Writes (index_if b) i old mid → {Z : Type 0} (r : Result Z Message) {m : Message} →
      IsErrAnd r (λ k. k ≡ m) → Extends mid new × (m ≢ message.OutOfMemory → IsUnwritable p Why v m) → AppendsBy (element_kind p n) (OffsetReason Why) x r old new
  place_fails Why flag {old} {mid} {new} w r err h =
      subst (λ k. AppendsBy (element_kind p n) (OffsetReason Why) k r old new) (sym is)
      (thing_fails (OffsetReason Why) r err (table_starts flag w) v only_place h (λ why. why))

-- ---- the type of the elements

pub kind_written : (n : ℕ) → n % 4 ≢ 0 → {old new : List ℕ} → Writes byte 0 old new → Writes (kind_if n) 0 old new
kind_written n not {old} w =
    let announced = other (owes (kind_if n) 0 old) (ne_eqb (n % 4) 0 not) in
    paid (meets (meets (wrote announced 0 (λ z place at first after q (small, (zero, (none, same))). eqb-true z 0 zero) w) refl) refl) refl

only_zero_kind : (n place : ℕ) (text : List ℕ) (z : ℕ) → Encodes (kind_if n) place text z → z ≡ 0
only_zero_kind n place text z p =
    elim (sides (n % 4 == 0) p) [
      | inl (is, (none, same)) ↦ same
      | inr (unequal, (first, after, b, e, q, (small, (zero, (none, same))))) ↦ same ∙ eqb-true b 0 zero
    ]

pub type_written : (n : ℕ) (r : Reference) → n % 4 ≢ 0 → {old new : List ℕ} → Writes ref_type r old new → Writes (type_if n) r old new
type_written n r not {old} {new} w = (other (owes (type_if n) r old) (ne_eqb (n % 4) 0 not)).pays new w

-- ---- the elements

module _ {C : Type 0} (p : Grammar C) (n : ℕ) (xs : List ℕ) {x : ListedItems C} (is : x ≡ list.Functions xs) (flag : has_flag n 4 ≡ is_expressions x) where
  pub functions_start : {old mid : List ℕ} → Writes (kind_if n) 0 old mid →
      Owes (listed_items p n) (list.Functions xs) old (bind (items u32) (λ z. done (list.Functions z))) mid
  functions_start {old} w =
      wrote (other (owes (listed_items p n) (list.Functions xs) old) (flag ∙ ap is_expressions is)) 0 (λ z place at first after q r. only_zero_kind n place first z q) (of_thing w)

  only_functions : Only {X = ListedItems C} (items u32) (λ z. done (list.Functions z)) (list.Functions xs) xs
  only_functions z place at first after q (none, same) = sym (cc same)

  pub functions_written : {old mid new : List ℕ} → Writes (kind_if n) 0 old mid → {ys : List ℕ} → ys ≡ xs → Writes (items u32) ys mid new → Writes (listed_items p n) x old new
  functions_written {old} {mid} {new} w same u =
      subst (λ k. Writes (listed_items p n) k old new) (sym is) (paid (wrote (functions_start w) xs only_functions (subst (λ z. Writes (items u32) z mid new) same u)) refl)

  pub functions_fail : (Why : C → Message → Type 0) {old mid new : List ℕ} → Writes (kind_if n) 0 old mid → {ys : List ℕ} → ys ≡ xs → {Z : Type 0} (r : Result Z Message) {m : Message} →
      IsErrAnd r (λ k. k ≡ m) → Extends mid new × (m ≢ message.OutOfMemory → IsUnwritable (items u32) (ItemsReason NoReason) ys m) →
      AppendsBy (listed_items p n) (ListedReason Why n) x r old new
  functions_fail Why {old} {mid} {new} w same r {m} err h =
      subst (λ k. AppendsBy (listed_items p n) (ListedReason Why n) k r old new) (sym is)
      (part_fails (ListedReason Why n) r err (functions_start w) xs only_functions
      (subst (λ z. Extends mid new × (m ≢ message.OutOfMemory → IsUnwritable (items u32) (ItemsReason NoReason) z m)) same h) (λ why. why))

module _ {C : Type 0} (p : Grammar C) (n : ℕ) (t : Reference) (xs : List C) {x : ListedItems C} (is : x ≡ list.Expressions t xs) (flag : has_flag n 4 ≡ is_expressions x) where
  expressions_begin : (old : List ℕ) → Owes (listed_items p n) (list.Expressions t xs) old (bind (thing (type_if n)) (λ u. bind (items p) (λ z. done (list.Expressions u z)))) old
  expressions_begin old = chosen (owes (listed_items p n) (list.Expressions t xs) old) (flag ∙ ap is_expressions is)

  only_type_of_list : Only (thing (type_if n)) (λ u. bind (items p) (λ z. done (list.Expressions u z))) (list.Expressions t xs) t
  only_type_of_list z place at first after q (a, b, ys, e, r, (none, same)) = sym (cc same)

  only_values : Only (items p) (λ z. done (list.Expressions t z)) (list.Expressions t xs) xs
  only_values z place at first after q (none, same) = sym (cc same)

  pub values_start : {old mid : List ℕ} → Writes (type_if n) t old mid → Owes (listed_items p n) (list.Expressions t xs) old (bind (items p) (λ z. done (list.Expressions t z))) mid
  values_start {old} w = wrote (expressions_begin old) t only_type_of_list (of_thing w)

  pub type_fails : (Why : C → Message → Type 0) {old new : List ℕ} {Z : Type 0} (r : Result Z Message) {m : Message} → IsErrAnd r (λ k. k ≡ m) →
      Extends old new × (m ≢ message.OutOfMemory → IsUnwritable (type_if n) (TypeReason n) t m) → AppendsBy (listed_items p n) (ListedReason Why n) x r old new
  type_fails Why {old} {new} r err h =
      subst (λ k. AppendsBy (listed_items p n) (ListedReason Why n) k r old new) (sym is) (thing_fails (ListedReason Why n) r err (expressions_begin old) t only_type_of_list h (λ why. inl why))

  pub values_written : {old mid new : List ℕ} → Writes (type_if n) t old mid → {ys : List C} → ys ≡ xs → Writes (items p) ys mid new → Writes (listed_items p n) x old new
  values_written {old} {mid} {new} w same u =
      subst (λ k. Writes (listed_items p n) k old new) (sym is) (paid (wrote (values_start w) xs only_values (subst (λ z. Writes (items p) z mid new) same u)) refl)

  pub values_fail : (Why : C → Message → Type 0) {old mid new : List ℕ} → Writes (type_if n) t old mid → {ys : List C} → ys ≡ xs → {Z : Type 0} (r : Result Z Message) {m : Message} →
      IsErrAnd r (λ k. k ≡ m) → Extends mid new × (m ≢ message.OutOfMemory → IsUnwritable (items p) (ItemsReason Why) ys m) →
      AppendsBy (listed_items p n) (ListedReason Why n) x r old new
  values_fail Why {old} {mid} {new} w same r {m} err h =
      subst (λ k. AppendsBy (listed_items p n) (ListedReason Why n) k r old new) (sym is)
      (part_fails (ListedReason Why n) r err (values_start w) xs only_values
      (subst (λ z. Extends mid new × (m ≢ message.OutOfMemory → IsUnwritable (items p) (ItemsReason Why) z m)) same h) (λ why. inr why))

-- ---- the segment

module _ {C : Type 0} (p : Grammar C) (x : ListedElement C) where
  -- The flags of the number that was written.
  pub flag_facts : {n : ℕ} → n ≡ element_flags x → (has_flag n 1 ≡ is_inactive x.kind) × (has_flag n 2 ≡ has_second x.kind) × (has_flag n 4 ≡ is_expressions x.items)
  flag_facts {n} is =
      let bits = flag_bits (is_inactive x.kind) (has_second x.kind) (is_expressions x.items) false in
      (ap (λ z. has_flag z 1) is ∙ bits.0, ap (λ z. has_flag z 2) is ∙ bits.1, ap (λ z. has_flag z 4) is ∙ bits.2)

  only_number_of : Only (thing listed_flags) (λ z. bind (thing (element_kind p z)) (λ k. bind (thing (listed_items p z)) (λ i. done (record { kind = k; items = i })))) x (element_flags x)
  only_number_of z place at first after q (a, b, k, e, r, (c, d, i, g, s, (none, same))) =
      let kinds = kind_flags p z at a k r in
      let kind_is : k ≡ x.kind = sym (ap (λ (y : ListedElement C). y.kind) same) in
      let items_is : i ≡ x.items = sym (ap (λ (y : ListedElement C). y.items) same) in
      only_three z (is_inactive x.kind) (has_second x.kind) (is_expressions x.items) (flags_fit place first z q) (kinds.0 ∙ ap is_inactive kind_is) (kinds.1 ∙ ap has_second kind_is)
      (list_flag p z (at + length a) c i s ∙ ap is_expressions items_is)

  pub number_starts : {n : ℕ} → n ≡ element_flags x → {old mid : List ℕ} → Writes u32 n old mid →
      Owes (listed_element p) x old (bind (thing (element_kind p n)) (λ k. bind (thing (listed_items p n)) (λ i. done (record { kind = k; items = i })))) mid
  number_starts {n} is {old} {mid} w =
      let small = three_small (is_inactive x.kind) (has_second x.kind) (is_expressions x.items) in
      subst (λ z. Owes (listed_element p) x old (bind (thing (element_kind p z)) (λ k. bind (thing (listed_items p z)) (λ i. done (record { kind = k; items = i })))) mid) (sym is)
      (wrote (owes (listed_element p) x old) (element_flags x) only_number_of (of_thing (number_written (element_flags x) small (subst (λ z. Writes u32 z old mid) is w))))

  pub only_kind_of : (n : ℕ) → Only (thing (element_kind p n)) (λ k. bind (thing (listed_items p n)) (λ i. done (record { kind = k; items = i }))) x x.kind
  only_kind_of n z place at first after q (c, d, i, g, s, (none, same)) = sym (ap (λ (y : ListedElement C). y.kind) same)

  pub only_items_of : (n : ℕ) (k : ElementKind C) → Only (thing (listed_items p n)) (λ i. done (record { kind = k; items = i })) x x.items
  only_items_of n k z place at first after q (none, same) = sym (ap (λ (y : ListedElement C). y.items) same)

  pub place_starts : {n : ℕ} → n ≡ element_flags x → {old mid now : List ℕ} → Writes u32 n old mid → Writes (element_kind p n) x.kind mid now →
      Owes (listed_element p) x old (bind (thing (listed_items p n)) (λ i. done (record { kind = x.kind; items = i }))) now
  place_starts {n} is w u = wrote (number_starts is w) x.kind (only_kind_of n) (of_thing u)

  pub element_written : {n : ℕ} → n ≡ element_flags x → {old mid now new : List ℕ} → Writes u32 n old mid → Writes (element_kind p n) x.kind mid now → Writes (listed_items p n) x.items now new →
      Writes (listed_element p) x old new
  element_written {n} is w u v = paid (wrote (place_starts is w u) x.items (only_items_of n x.kind) (of_thing v)) refl

pub listed_reason : {C : Type 0} (Why : C → Message → Type 0) (x : ListedElement C) {n : ℕ} → n ≡ element_flags x → (m : Message) → ListedReason Why n x.items m →
    ListedReason Why (element_flags x) x.items m
listed_reason Why x is m r = subst (λ z. ListedReason Why z x.items m) is r
