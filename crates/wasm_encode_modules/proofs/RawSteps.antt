-- Sections as their ids and contents.
use Rattle.std.proofs.Common.{◌≡◌, ◌≢◌, ℕ, suc, ◌+◌, ◌≤◌, ◌<◌, ◌^◌, ◌⊎◌, inl, inr, Bool, true, false, List, [], ◌∷◌, ◌++◌, length, Result, refl, sym, subst, ap, ◌∙◌, append_assoc, length-append, arith}
use Rattle.std.proofs.lemmas.Bool.{le-leb, leb-true}
use Rattle.std.proofs.lemmas.List.{append-nil}
use Rattle.wasm_below.specs.declared.features.WasmFeatures.{WasmFeatures}
use Rattle.wasm_below.specs.Number.{EncodesUnsigned}
use Rattle.wasm_below.specs.Source.{reader_of}
use Rattle.wasm_grammars.specs.Blocks.{sized}
use Rattle.wasm_grammars.specs.Grammar.{Grammar, done, bind, thing, Encodes}
use Rattle.wasm_grammars.specs.Parts.{byte}
use Rattle.wasm_sections.specs.declared.section.SectionHeader.{SectionHeader}
use Rattle.wasm_sections.specs.Module.{BeginsModule}
use Rattle.wasm_sections.specs.Section.{SectionParts, section}
use Rattle.std.specs.Prelude.{IsErrAnd}
use Rattle.wasm_below.specs.declared.message.Message.{Message}
use Rattle.wasm_below.specs.declared.message.Message.TheVariants as message
use Rattle.wasm_write_grammars.specs.Writing.{Writes, HasNone, Extends, IsUnwritable, AppendsBy, SizedReason}
use Rattle.wasm_write_grammars.proofs.Owing.{Owes, Only, owes, wrote, meets, of_thing, paid, thing_fails}
use Rattle.wasm_encode_modules.specs.RawSections.{RawSection, raw_section, SectionReason, BeginsAsModule}
use Rattle.wasm_encode_modules.specs.WrittenModules.{HasContents}

-- ---- writing

abbrev pub raw_of : ℕ → List ℕ → RawSection
raw_of id bytes = record { id = id; bytes = bytes }

pub raw_lacks : (s : RawSection) → 127 < s.id → HasNone raw_section s
raw_lacks s high place text (a, r, id, e, b, (le, (t, nil, bytes, f, size, (none, is)))) =
    let low = leb-true id 127 le in
    let same : s.id ≡ id = ap (λ (k : RawSection). k.id) is in
    omega (arith, high, low, same)

pub raw_starts : (s : RawSection) (old : List ℕ) {b : ℕ} → b ≡ s.id → b ≤ 127 → {mid : List ℕ} → Writes byte b old mid →
    Owes raw_section s old (bind (thing sized) (λ bytes. done (raw_of s.id bytes))) mid
raw_starts s old {b} same le {mid} w =
    meets (wrote (owes raw_section s old) s.id (λ z place at first after p (small, (t, nil, bytes, f, size, (none, is))). sym (ap (λ (k : RawSection). k.id) is)) (subst (λ z. Writes byte z old mid) same w)) (le-leb s.id 127 (subst (λ z. z ≤ 127) same le))

pub only_bytes : (s : RawSection) → Only (thing sized) (λ bytes. done (raw_of s.id bytes)) s s.bytes
only_bytes s z place at first after p (none, is) = sym (ap (λ (k : RawSection). k.bytes) is)

pub raw_written : (s : RawSection) (old : List ℕ) {b : ℕ} → b ≡ s.id → b ≤ 127 → {bytes : List ℕ} → bytes ≡ s.bytes → {mid new : List ℕ} → Writes byte b old mid →
    Writes sized bytes mid new → Writes raw_section s old new
raw_written s old same le equal {mid} {new} one two =
    paid (wrote (raw_starts s old same le one) s.bytes (only_bytes s) (of_thing (subst (λ z. Writes sized z mid new) equal two))) refl

pub raw_fails : (s : RawSection) (old : List ℕ) {b : ℕ} → b ≡ s.id → b ≤ 127 → {bytes : List ℕ} → bytes ≡ s.bytes → {mid new : List ℕ} → Writes byte b old mid →
    {Z : Type 0} (r : Result Z Message) {m : Message} → IsErrAnd r (λ k. k ≡ m) → Extends mid new × (m ≢ message.OutOfMemory → IsUnwritable sized SizedReason bytes m) →
    AppendsBy raw_section SectionReason s r old new
raw_fails s old same le equal {mid} {new} one r {m} err h =
    thing_fails SectionReason r err (raw_starts s old same le one) s.bytes (only_bytes s)
    (subst (λ z. Extends mid new × (m ≢ message.OutOfMemory → IsUnwritable sized SizedReason z m)) equal h) (λ why. inr why)

-- ---- as sections

pub section_of_raw : (features : WasmFeatures) (at : ℕ) (text : List ℕ) (s : RawSection) → Encodes raw_section at text s →
    (part : SectionParts) × HasContents features part s × Encodes (section features) at text part
section_of_raw features at text s (a, r, id, e, b, (le, (t, nil, bytes, f, (u, v, n, g, p, (same, len)), (none, is)))) =
    let flat : r ≡ u ++ v = f ∙ ap (λ z. t ++ z) none ∙ append-nil t ∙ g in
    let place = at + length (a ++ u) in
    let head : SectionHeader = record { id = id; size = n; start = at + length a + length u } in (
      record { id = id; contents = reader_of features place bytes },
      (sym (ap (λ (k : RawSection). k.id) is), place, ap (λ (k : RawSection). reader_of features place k.bytes) (sym is)),
      (
        a ++ u,
        v,
        head,
        e ∙ ap (λ z. a ++ z) flat ∙ sym (append_assoc a u v),
        (a, u, id, refl, b, (le, (u, [], n, sym (append-nil u), p, ([], [], at + length a + length u, refl, (refl, refl), (refl, refl))))),
        (v, [], reader_of features place bytes, sym (append-nil v), ([], v, place, refl, (refl, refl), (v, [], bytes, sym (append-nil v), (same, len), (refl, refl))), (refl, refl)),
      ),
    )

-- ---- the first bytes

size_byte : (u : List ℕ) (n c : ℕ) (rest more : List ℕ) → EncodesUnsigned 32 u n → u ++ rest ≡ c ∷ more → c < 128 → (n ≡ c) × (rest ≡ more)
size_byte [] n c rest more p e lt = absurd p
size_byte (d ∷ []) n c rest more p e lt = let head : d ≡ c = cc e in (p.1 ∙ head, cc e)
size_byte (d ∷ k ∷ u) n c rest more p e lt = let head : d ≡ c = cc e in let high = p.1 in absurd (omega (arith, lt, high, head))

front_two : (v rest more : List ℕ) (b c : ℕ) → 1 < length v → v ++ rest ≡ b ∷ c ∷ more → (tail : List ℕ) × (v ≡ b ∷ c ∷ tail)
front_two [] rest more b c some e = absurd (omega (arith, some))
front_two (x ∷ []) rest more b c some e = absurd (omega (arith, some))
front_two (x ∷ y ∷ v) rest more b c some e =
    let one : x ≡ b = cc e in
    let two : y ≡ c = cc e in
    (v, ap (λ z. z ∷ y ∷ v) one ∙ ap (λ z. b ∷ z ∷ v) two)

pub no_module : (at : ℕ) (text after : List ℕ) (s : RawSection) → Encodes raw_section at text s → (BeginsAsModule s → ⊥) → BeginsModule (text ++ after) → ⊥
no_module at text after s (a, r, id, e, b, (le, (t, nil, bytes, f, (u, v, n, g, p, (same, len)), (none, is)))) not (more, begins) =
    let flat : r ≡ u ++ v = f ∙ ap (λ z. t ++ z) none ∙ append-nil t ∙ g in
    let whole : id ∷ (u ++ (v ++ after)) ≡ 0x00 ∷ 0x61 ∷ 0x73 ∷ 0x6d ∷ more =
    ap (λ z. id ∷ z) (sym (append_assoc u v after)) ∙ sym (ap (λ z. z ++ after) (e ∙ ap (λ z. z ++ r) b.0 ∙ ap (λ z. id ∷ z) flat)) ∙ begins in
    let first : id ≡ 0 = cc whole in
    let rest : u ++ (v ++ after) ≡ 0x61 ∷ (0x73 ∷ 0x6d ∷ more) = cc whole in
    let size = size_byte u n 0x61 (v ++ after) (0x73 ∷ 0x6d ∷ more) p rest (omega arith) in
    let long : length v ≡ 97 = len ∙ size.0 in
    let (tail, front) = front_two v after more 0x73 0x6d (omega (arith, long)) size.1 in
    let bytes_is : s.bytes ≡ v = ap (λ (k : RawSection). k.bytes) is ∙ sym same in
    not (ap (λ (k : RawSection). k.id) is ∙ first, ap length bytes_is ∙ long, (tail, bytes_is ∙ front))
