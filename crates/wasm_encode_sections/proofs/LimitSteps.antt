-- Writing limits of tables and memories.
use Rattle.std.proofs.Common.{◌≡◌, ◌≢◌, ℕ, ◌+◌, ◌≤◌, ◌<◌, ◌^◌, inl, inr, Bool, true, false, List, [], ◌∷◌, ◌++◌, length, Result, refl, sym, subst, ap, ◌∙◌, arith}
use Rattle.std.proofs.lemmas.Bool.{le-leb, leb-true, false≢true}
use Rattle.std.specs.Prelude.{Option, Some, None, is_some, IsErrAnd}
use Rattle.wasm_below.specs.declared.features.WasmFeatures.{WasmFeatures}
use Rattle.wasm_below.specs.declared.malformed.Malformed.TheVariants as malformed
use Rattle.wasm_below.specs.declared.message.Message.{Message}
use Rattle.wasm_below.specs.declared.message.Message.TheVariants as message
use Rattle.wasm_below.specs.declared.message.NumberName.TheVariants as number_name
use Rattle.wasm_below.specs.Features.{memory64}
use Rattle.wasm_below.specs.Reference.{Reference}
use Rattle.wasm_below.proofs.Numbers.{unsigned_below}
use Rattle.wasm_grammars.specs.Grammar.{Grammar, done, bind, thing, choose, Encodes}
use Rattle.wasm_grammars.specs.Parts.{byte, u32, u64, ref_type}
use Rattle.wasm_externals.specs.declared.memory_type.MemoryType.{MemoryType}
use Rattle.wasm_externals.specs.declared.table_type.TableType.{TableType}
use Rattle.wasm_externals.specs.Flags.{flags, has_flag}
use Rattle.wasm_externals.specs.Limits.{contains, address, maximum, some_page_size, page_size, table_type, memory_type}
use Rattle.wasm_write_grammars.specs.Writing.{Writes, HasNone, IsUnwritable, Extends, AppendsBy}
use Rattle.wasm_write_grammars.proofs.Owing.{Owes, Only, owes, wrote, meets, chosen, other, of_thing, paid, part_fails, thing_fails}
use Rattle.wasm_encode_sections.specs.ExternalReasons.{AddressReason, MaximumReason, PageReason, TableReason, MemoryReason}
use Rattle.wasm_encode_sections.specs.Flags.{flag_byte}
use Rattle.wasm_encode_sections.proofs.InnerBytes.{sides}
use Rattle.wasm_encode_sections.proofs.FlagBytes.{flag_bits, only_three, only_four, three_small, flags_small, flags_written}

pub address_wide : (features : WasmFeatures) (n : ℕ) {old new : List ℕ} → contains features memory64 ≡ true → Writes u64 n old new → Writes (address features) n old new
address_wide features n {old} {new} is w = (chosen (owes (address features) n old) is).pays new w

pub address_narrow : (features : WasmFeatures) (n : ℕ) {old new : List ℕ} → contains features memory64 ≡ false → Writes u32 n old new → Writes (address features) n old new
address_narrow features n {old} {new} is w = (other (owes (address features) n old) is).pays new w

pub address_lacks : (features : WasmFeatures) (n : ℕ) → contains features memory64 ≡ false → 2 ^ 32 ≤ n →
    IsUnwritable (address features) (AddressReason features) n (message.IntegerTooLarge number_name.VarU32)
address_lacks features n is many =
    record {
      none = (other (owes (address features) n []) is).lacks (λ place text p. (let below = unsigned_below text 32 n p in omega (arith, below, many)));
      reason = (refl, is, many);
    }

-- The flag says whether there is a maximum.
pub maximum_flag : (b : ℕ) (features : WasmFeatures) (place : ℕ) (text : List ℕ) (m : Option ℕ) → Encodes (maximum b features) place text m → has_flag b 1 ≡ is_some m
maximum_flag b features place text m p =
    elim (sides (has_flag b 1) p) [
      | inl (is, (first, after, n, e, q, (none, same))) ↦ is ∙ ap is_some (sym same)
      | inr (unequal, (none, same)) ↦ unequal ∙ ap is_some (sym same)
    ]

pub page_flag : (b place : ℕ) (text : List ℕ) (m : Option ℕ) → Encodes (page_size b) place text m → has_flag b 8 ≡ is_some m
page_flag b place text m p =
    elim (sides (has_flag b 8) p) [
      | inl (is, (first, after, n, e, q, (small, (none, same)))) ↦ is ∙ ap is_some (sym same)
      | inr (unequal, (none, same)) ↦ unequal ∙ ap is_some (sym same)
    ]

pub no_maximum : (b : ℕ) (features : WasmFeatures) {m : Option ℕ} → m ≡ None → has_flag b 1 ≡ is_some m → (old : List ℕ) → Writes (maximum b features) m old old
no_maximum b features {m} is flag old =
    subst (λ k. Writes (maximum b features) k old old) (sym is) (paid (other (owes (maximum b features) None old) (flag ∙ ap is_some is)) refl)

pub maximum_starts : (b : ℕ) (features : WasmFeatures) (n : ℕ) → has_flag b 1 ≡ true → (old : List ℕ) →
    Owes (maximum b features) (Some n) old (bind (thing (address features)) (λ k. done (Some k))) old
maximum_starts b features n flag old = chosen (owes (maximum b features) (Some n) old) flag

pub only_some : (p : Grammar ℕ) (n : ℕ) → Only p (λ k. done (Some k)) (Some n) n
only_some p n z place at first after q (none, same) = sym (cc same)

pub maximum_written : (b : ℕ) (features : WasmFeatures) (n : ℕ) {m : Option ℕ} → m ≡ Some n → has_flag b 1 ≡ is_some m → {old new : List ℕ} → Writes (address features) n old new →
    Writes (maximum b features) m old new
maximum_written b features n {m} is flag {old} {new} w =
    subst (λ k. Writes (maximum b features) k old new) (sym is)
    (paid (wrote (maximum_starts b features n (flag ∙ ap is_some is) old) n (only_some (thing (address features)) n) (of_thing w)) refl)

pub maximum_fails : (b : ℕ) (features : WasmFeatures) (n : ℕ) {x : Option ℕ} → x ≡ Some n → has_flag b 1 ≡ is_some x → {Z : Type 0} (r : Result Z Message) {m : Message} →
    IsErrAnd r (λ k. k ≡ m) → {old new : List ℕ} → Extends old new × (m ≢ message.OutOfMemory → IsUnwritable (address features) (AddressReason features) n m) →
    AppendsBy (maximum b features) (MaximumReason features) x r old new
maximum_fails b features n {x} is flag r err {old} {new} h =
    subst (λ k. AppendsBy (maximum b features) (MaximumReason features) k r old new) (sym is)
    (thing_fails (MaximumReason features) r err (maximum_starts b features n (flag ∙ ap is_some is) old) n (only_some (thing (address features)) n) h (λ why. why))

-- A flag of an equal byte.
pub flag_at : (weight : ℕ) {b k : ℕ} {set : Bool} → b ≡ k → has_flag k weight ≡ set → has_flag b weight ≡ set
flag_at weight is bit = ap (λ z. has_flag z weight) is ∙ bit

pub no_page : (b : ℕ) {m : Option ℕ} → m ≡ None → has_flag b 8 ≡ is_some m → (old : List ℕ) → Writes (page_size b) m old old
no_page b {m} is flag old = subst (λ k. Writes (page_size b) k old old) (sym is) (paid (other (owes (page_size b) None old) (flag ∙ ap is_some is)) refl)

pub page_written : (b n : ℕ) {m : Option ℕ} → m ≡ Some n → has_flag b 8 ≡ is_some m → n ≤ 63 → {old new : List ℕ} → Writes u32 n old new → Writes (page_size b) m old new
page_written b n {m} is flag le {old} {new} w =
    let some = chosen (owes (page_size b) (Some n) old) (flag ∙ ap is_some is) in
    let number = wrote some n (λ z place at first after p (small, (none, same)). sym (cc same)) w in
    subst (λ k. Writes (page_size b) k old new) (sym is) (paid (meets number (le-leb n 63 le)) refl)

pub page_lacks : (b n : ℕ) {m : Option ℕ} → m ≡ Some n → 63 < n → IsUnwritable (page_size b) PageReason m (message.Malformed malformed.PageSize)
page_lacks b n {m} is high = subst (λ k. IsUnwritable (page_size b) PageReason k (message.Malformed malformed.PageSize)) (sym is) (record { none = lacks; reason = (refl, high) })
  where
    lacks : HasNone (page_size b) (Some n)
    lacks place text p =
        elim (sides (has_flag b 8) p) [
          | inl (is, (first, after, z, e, q, (small, (none, same)))) ↦ (
              let le = leb-true z 63 small in
              let equal : n ≡ z = cc same in
              omega (arith, le, equal, high)
              )
          | inr (unequal, (none, same)) ↦ absurd (cc same)
        ]

-- ---- tables

abbrev pub table_of : Reference → ℕ → ℕ → Option ℕ → TableType
table_of e b i m = record { element_type = e; table64 = has_flag b 4; initial = i; maximum = m; shared = has_flag b 2 }

abbrev pub table_byte : TableType → ℕ
table_byte x = flag_byte (is_some x.maximum) x.shared x.table64 false

module _ (features : WasmFeatures) (x : TableType) where
  pub only_element : Only ref_type (λ e. bind (thing (flags 7 malformed.TableFlags)) (λ b. bind (thing (address features)) (λ i. bind (thing (maximum b features)) (λ m. done (table_of e b i m))))) x x.element_type
  only_element z place at first after p (a, c, b, e, q, (d, g, i, h, r, (j, k, m, l, s, (none, same)))) = sym (ap (λ (t : TableType). t.element_type) same)

  pub only_table_flags : (e : Reference) → Only (thing (flags 7 malformed.TableFlags)) (λ b. bind (thing (address features)) (λ i. bind (thing (maximum b features)) (λ m. done (table_of e b i m)))) x (table_byte x)
  only_table_flags e z place at first after p (d, g, i, h, r, (j, k, m, l, s, (none, same))) =
      only_three z (is_some x.maximum) x.shared x.table64 (flags_small 7 malformed.TableFlags place first z p)
      (maximum_flag z features (at + length d) j m s ∙ ap is_some (sym (ap (λ (t : TableType). t.maximum) same))) (sym (ap (λ (t : TableType). t.shared) same))
      (sym (ap (λ (t : TableType). t.table64) same))

  pub only_initial : (e : Reference) (b : ℕ) → Only (thing (address features)) (λ i. bind (thing (maximum b features)) (λ m. done (table_of e b i m))) x x.initial
  only_initial e b z place at first after p (j, k, m, l, s, (none, same)) = sym (ap (λ (t : TableType). t.initial) same)

  pub only_most : (e : Reference) (b i : ℕ) → Only (thing (maximum b features)) (λ m. done (table_of e b i m)) x x.maximum
  only_most e b i z place at first after p (none, same) = sym (ap (λ (t : TableType). t.maximum) same)

  pub element_starts : (old : List ℕ) {one : List ℕ} → Writes ref_type x.element_type old one →
      Owes (table_type features) x old (bind (thing (flags 7 malformed.TableFlags)) (λ b. bind (thing (address features)) (λ i. bind (thing (maximum b features)) (λ m. done (table_of x.element_type b i m))))) one
  element_starts old w = wrote (owes (table_type features) x old) x.element_type only_element w

  pub table_flags_starts : (old : List ℕ) {b : ℕ} → b ≡ table_byte x → {one two : List ℕ} → Writes ref_type x.element_type old one → Writes byte b one two →
      Owes (table_type features) x old (bind (thing (address features)) (λ i. bind (thing (maximum (table_byte x) features)) (λ m. done (table_of x.element_type (table_byte x) i m)))) two
  table_flags_starts old {b} is {one} {two} v w =
      wrote (element_starts old v) (table_byte x) (only_table_flags x.element_type)
      (of_thing (flags_written 7 malformed.TableFlags (table_byte x) (three_small (is_some x.maximum) x.shared x.table64) (subst (λ z. Writes byte z one two) is w)))

  pub table_initial_starts : (old : List ℕ) {b : ℕ} → b ≡ table_byte x → {one two three : List ℕ} → Writes ref_type x.element_type old one → Writes byte b one two →
      Writes (address features) x.initial two three →
      Owes (table_type features) x old (bind (thing (maximum (table_byte x) features)) (λ m. done (table_of x.element_type (table_byte x) x.initial m))) three
  table_initial_starts old is u v w = wrote (table_flags_starts old is u v) x.initial (only_initial x.element_type (table_byte x)) (of_thing w)

  pub table_written : (old : List ℕ) {b : ℕ} → b ≡ table_byte x → {one two three new : List ℕ} → Writes ref_type x.element_type old one → Writes byte b one two →
      Writes (address features) x.initial two three → Writes (maximum b features) x.maximum three new → Writes (table_type features) x old new
  table_written old {b} is {one} {two} {three} {new} t u v w =
      let most = subst (λ z. Writes (maximum z features) x.maximum three new) is w in
      let bits = flag_bits (is_some x.maximum) x.shared x.table64 false in
      paid (wrote (table_initial_starts old is t u v) x.maximum (only_most x.element_type (table_byte x) x.initial) (of_thing most))
      (ap (λ k. record { element_type = x.element_type; table64 = k; initial = x.initial; maximum = x.maximum; shared = x.shared }) (sym bits.2) ∙
      ap (λ k. record { element_type = x.element_type; table64 = has_flag (table_byte x) 4; initial = x.initial; maximum = x.maximum; shared = k }) (sym bits.1))

  pub table_most_fails : (old : List ℕ) {b : ℕ} → b ≡ table_byte x → {one two three new : List ℕ} → Writes ref_type x.element_type old one → Writes byte b one two →
      Writes (address features) x.initial two three → {Z : Type 0} (r : Result Z Message) {m : Message} → IsErrAnd r (λ k. k ≡ m) →
      Extends three new × (m ≢ message.OutOfMemory → IsUnwritable (maximum b features) (MaximumReason features) x.maximum m) →
      AppendsBy (table_type features) (TableReason features) x r old new
  table_most_fails old {b} is {one} {two} {three} {new} t u v r {m} err h =
      thing_fails (TableReason features) r err (table_initial_starts old is t u v) x.maximum (only_most x.element_type (table_byte x) x.initial)
      (subst (λ z. Extends three new × (m ≢ message.OutOfMemory → IsUnwritable (maximum z features) (MaximumReason features) x.maximum m)) is h) (λ why. inr why)

-- ---- memories

abbrev pub memory_of : ℕ → ℕ → Option ℕ → Option ℕ → MemoryType
memory_of b i m p = record { memory64 = has_flag b 4; shared = has_flag b 2; initial = i; maximum = m; page_size_log2 = p }

abbrev pub memory_byte : MemoryType → ℕ
memory_byte x = flag_byte (is_some x.maximum) x.shared x.memory64 (is_some x.page_size_log2)

module _ (features : WasmFeatures) (x : MemoryType) where
  pub only_memory_flags : Only (thing (flags 15 malformed.MemoryFlags)) (λ b. bind (thing (address features)) (λ i. bind (thing (maximum b features)) (λ m. bind (page_size b) (λ p. done (memory_of b i m p))))) x (memory_byte x)
  only_memory_flags z place at first after p (d, g, i, h, r, (j, k, m, l, s, (t, u, v, w, y, (none, same)))) =
      only_four z (is_some x.maximum) x.shared x.memory64 (is_some x.page_size_log2) (flags_small 15 malformed.MemoryFlags place first z p)
      (maximum_flag z features (at + length d) j m s ∙ ap is_some (sym (ap (λ (t : MemoryType). t.maximum) same))) (sym (ap (λ (t : MemoryType). t.shared) same))
      (sym (ap (λ (t : MemoryType). t.memory64) same)) (page_flag z (at + length d + length j) t v y ∙ ap is_some (sym (ap (λ (t : MemoryType). t.page_size_log2) same)))

  pub only_pages : (b : ℕ) → Only (thing (address features)) (λ i. bind (thing (maximum b features)) (λ m. bind (page_size b) (λ p. done (memory_of b i m p)))) x x.initial
  only_pages b z place at first after p (j, k, m, l, s, (t, u, v, w, y, (none, same))) = sym (ap (λ (t : MemoryType). t.initial) same)

  pub only_limit : (b i : ℕ) → Only (thing (maximum b features)) (λ m. bind (page_size b) (λ p. done (memory_of b i m p))) x x.maximum
  only_limit b i z place at first after p (t, u, v, w, y, (none, same)) = sym (ap (λ (t : MemoryType). t.maximum) same)

  pub only_page : (b i : ℕ) (m : Option ℕ) → Only (page_size b) (λ p. done (memory_of b i m p)) x x.page_size_log2
  only_page b i m z place at first after p (none, same) = sym (ap (λ (t : MemoryType). t.page_size_log2) same)

  pub memory_flags_starts : (old : List ℕ) {b : ℕ} → b ≡ memory_byte x → b ≤ 15 → {one : List ℕ} → Writes byte b old one →
      Owes (memory_type features) x old (bind (thing (address features)) (λ i. bind (thing (maximum (memory_byte x) features)) (λ m. bind (page_size (memory_byte x)) (λ p. done (memory_of (memory_byte x) i m p))))) one
  memory_flags_starts old {b} is small {one} w =
      wrote (owes (memory_type features) x old) (memory_byte x) only_memory_flags
      (of_thing (flags_written 15 malformed.MemoryFlags (memory_byte x) (subst (λ z. z ≤ 15) is small) (subst (λ z. Writes byte z old one) is w)))

  pub memory_initial_starts : (old : List ℕ) {b : ℕ} → b ≡ memory_byte x → b ≤ 15 → {one two : List ℕ} → Writes byte b old one → Writes (address features) x.initial one two →
      Owes (memory_type features) x old (bind (thing (maximum (memory_byte x) features)) (λ m. bind (page_size (memory_byte x)) (λ p. done (memory_of (memory_byte x) x.initial m p)))) two
  memory_initial_starts old is small v w = wrote (memory_flags_starts old is small v) x.initial (only_pages (memory_byte x)) (of_thing w)

  pub memory_limit_starts : (old : List ℕ) {b : ℕ} → b ≡ memory_byte x → b ≤ 15 → {one two three : List ℕ} → Writes byte b old one → Writes (address features) x.initial one two →
      Writes (maximum b features) x.maximum two three →
      Owes (memory_type features) x old (bind (page_size (memory_byte x)) (λ p. done (memory_of (memory_byte x) x.initial x.maximum p))) three
  memory_limit_starts old is small {one} {two} {three} u v w =
      wrote (memory_initial_starts old is small u v) x.maximum (only_limit (memory_byte x) x.initial)
      (of_thing (subst (λ z. Writes (maximum z features) x.maximum two three) is w))

  pub memory_written : (old : List ℕ) {b : ℕ} → b ≡ memory_byte x → b ≤ 15 → {one two three new : List ℕ} → Writes byte b old one → Writes (address features) x.initial one two →
      Writes (maximum b features) x.maximum two three → Writes (page_size b) x.page_size_log2 three new → Writes (memory_type features) x old new
  memory_written old {b} is small {one} {two} {three} {new} t u v w =
      let page = subst (λ z. Writes (page_size z) x.page_size_log2 three new) is w in
      let bits = flag_bits (is_some x.maximum) x.shared x.memory64 (is_some x.page_size_log2) in
      paid (wrote (memory_limit_starts old is small t u v) x.page_size_log2 (only_page (memory_byte x) x.initial x.maximum) page)
      (ap (λ k. record { memory64 = k; shared = x.shared; initial = x.initial; maximum = x.maximum; page_size_log2 = x.page_size_log2 }) (sym bits.2) ∙
      ap (λ k. record { memory64 = has_flag (memory_byte x) 4; shared = k; initial = x.initial; maximum = x.maximum; page_size_log2 = x.page_size_log2 }) (sym bits.1))

  pub memory_limit_fails : (old : List ℕ) {b : ℕ} → b ≡ memory_byte x → b ≤ 15 → {one two new : List ℕ} → Writes byte b old one → Writes (address features) x.initial one two →
      {Z : Type 0} (r : Result Z Message) {m : Message} → IsErrAnd r (λ k. k ≡ m) →
      Extends two new × (m ≢ message.OutOfMemory → IsUnwritable (maximum b features) (MaximumReason features) x.maximum m) →
      AppendsBy (memory_type features) (MemoryReason features) x r old new
  memory_limit_fails old {b} is small {one} {two} {new} u v r {m} err h =
      thing_fails (MemoryReason features) r err (memory_initial_starts old is small u v) x.maximum (only_limit (memory_byte x) x.initial)
      (subst (λ z. Extends two new × (m ≢ message.OutOfMemory → IsUnwritable (maximum z features) (MaximumReason features) x.maximum m)) is h) (λ why. inr (inl why))

  pub memory_page_fails : (old : List ℕ) {b : ℕ} → b ≡ memory_byte x → b ≤ 15 → {one two three new : List ℕ} → Writes byte b old one → Writes (address features) x.initial one two →
      Writes (maximum b features) x.maximum two three → {Z : Type 0} (r : Result Z Message) {m : Message} → IsErrAnd r (λ k. k ≡ m) →
      Extends three new × (m ≢ message.OutOfMemory → IsUnwritable (page_size b) PageReason x.page_size_log2 m) →
      AppendsBy (memory_type features) (MemoryReason features) x r old new
  memory_page_fails old {b} is small {one} {two} {three} {new} u v w r {m} err h =
      part_fails (MemoryReason features) r err (memory_limit_starts old is small u v w) x.page_size_log2 (only_page (memory_byte x) x.initial x.maximum)
      (subst (λ z. Extends three new × (m ≢ message.OutOfMemory → IsUnwritable (page_size z) PageReason x.page_size_log2 m)) is h) (λ why. inr (inr why))
