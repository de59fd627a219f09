-- Bytes are at most one list of sections, and determine the first error.
use Rattle.std.proofs.Common.{◌≡◌, ◌≢◌, ℕ, ◌+◌, ◌<◌, ◌⊎◌, inl, inr, Bool, true, false, List, [], ◌∷◌, ◌++◌, length, length-append, Result, Ok, Err, refl, sym, subst, ap, ◌∙◌, arith}
use Rattle.std.specs.Prelude.{IsErrAnd, leb, ◌==◌}
use Rattle.wasm_below.specs.declared.error.Error.{Error}
use Rattle.wasm_below.specs.declared.features.WasmFeatures.{WasmFeatures}
use Rattle.wasm_below.specs.declared.malformed.Malformed.TheVariants as malformed
use Rattle.wasm_below.specs.declared.message.Message.{Message}
use Rattle.wasm_below.specs.declared.message.Message.TheVariants as message
use Rattle.wasm_below.specs.Fault.{DeterminesRefusal}
use Rattle.wasm_below.specs.Source.{Reader, rest, offset_of, at_position}
use Rattle.wasm_below.proofs.TakesLemmas.{same_rest}
use Rattle.wasm_grammars.specs.Blocks.{contents}
use Rattle.wasm_grammars.specs.Grammar.{Grammar, pick, Encodes, HasReadBy, Fault, Memory}
use Rattle.wasm_grammars.specs.Reading.{Fails, Reads}
use Rattle.wasm_grammars.proofs.Laws.{code, determines}
use Rattle.wasm_grammars.proofs.Steps.{moved_on, same_features, none_here}
use Rattle.wasm_sections.specs.Module.{BeginsModule, EncodesSections, EncodesModule, SectionsOccur, SectionFault, ModuleFault, FailsSection, FailsModule, ReadsSection, ReadsModule}
use Rattle.wasm_sections.specs.Preamble.{version, preamble}
use Rattle.wasm_sections.specs.Section.{SectionParts, header_after, header, section}

-- A section has a byte.
pub section_some : (f : WasmFeatures) (at : ℕ) (text : List ℕ) (s : SectionParts) → Encodes (section f) at text s → 0 < length text
section_some f at text s (a, b, h, e, (c, d, id, e2, is, _), _) =
    let one : length c ≡ 1 = ap length is.0 in
    let first : length a ≡ length c + length d = ap length e2 ∙ length-append c d in
    let whole : length text ≡ length a + length b = ap length e ∙ length-append a b in
    omega arith

picked : (b : Bool) (A : Type 0) → (A → ⊥) → pick b A ⊥ → ⊥
picked true A free a = free a
picked false A free a = a

-- Reading a section does not allocate.
size_never : (id s : ℕ) (r : Reader) (o : ℕ) → Memory (header_after id) s r o → ⊥
size_never id s r o (inl a) = a.0
size_never id s r o (inr (n, next, _, inl a)) = a
size_never id s r o (inr (n, next, _, inr (at, end, _, a))) = a

header_never : (s : ℕ) (r : Reader) (o : ℕ) → Memory header s r o → ⊥
header_never s r o (inl a) = a.0
header_never s r o (inr (id, mid, read, after)) = picked (leb id 127) (Memory (header_after id) s mid o) (size_never id s mid o) after

contents_never : (f : WasmFeatures) (n s : ℕ) (r : Reader) (o : ℕ) → Memory (contents f n) s r o → ⊥
contents_never f n s r o (inl a) = a
contents_never f n s r o (inr (at, mid, _, inl a)) = a.0
contents_never f n s r o (inr (at, mid, _, inr (b, end, _, a))) = a

pub section_never : (f : WasmFeatures) (s : ℕ) (r : Reader) (o : ℕ) → Memory (section f) s r o → ⊥
section_never f s r o (inl a) = header_never (offset_of r) r o a
section_never f s r o (inr (h, mid, read, inl a)) = contents_never f h.size (offset_of mid) mid o a
section_never f s r o (inr (h, mid, read, inr (c, end, _, a))) = a

-- One value is read, up to one place.
pub one_read : {X : Type 0} (g : Grammar X) {r s t : Reader} {x y : X} → HasReadBy g x r s → HasReadBy g y r t → (s ≡ t) × (x ≡ y)
one_read g {r} {s} {t} {x} {y} (a, p, h) (b, q, k) =
    let o = code g (offset_of r) a b (rest s) (rest t) x y p q (sym h.parts ∙ k.parts) in
    (h.moved ∙ ap (λ (z : List ℕ). at_position r (r.position + length z)) o.0 ∙ sym k.moved, o.1)

-- An encoding at the start of the rest is the one that was read.
pub same_read : {X : Type 0} (g : Grammar X) {r mid : Reader} (x y : X) (first after : List ℕ) → HasReadBy g x r mid → rest r ≡ first ++ after →
    Encodes g (offset_of r) first y → (after ≡ rest mid) × (offset_of r + length first ≡ offset_of mid)
same_read g {r} {mid} x y first after (text, p, t) e q =
    let o = code g (offset_of r) text first (rest mid) after x y p q (sym t.parts ∙ e) in (
      sym (same_rest text first (rest mid) after o.0 (sym t.parts ∙ e)),
      ap (λ (z : List ℕ). offset_of r + length z) (sym o.0) ∙ sym (moved_on t),
    )

-- The rest is these sections.
pub sections_all : (f : WasmFeatures) (r end : Reader) (ss : List SectionParts) → r.features ≡ f → SectionsOccur r ss end → rest end ≡ [] →
    EncodesSections f (offset_of r) (rest r) ss
sections_all f r end [] same is none = subst (λ z. rest z ≡ []) is none
sections_all f r end (s ∷ ss) same (mid, free, (text, p, t), more) none = (
  text,
  rest mid,
  t.parts,
  free,
  subst (λ g. Encodes (section g) (offset_of r) text s) same p,
  subst (λ at. EncodesSections f at (rest mid) ss) (moved_on t) (sections_all f mid end ss (same_features t ∙ same) more none),
)

pub module_all : (r after end : Reader) (v : ℕ) (ss : List SectionParts) → HasReadBy preamble v r after → SectionsOccur after ss end → rest end ≡ [] →
    EncodesModule r.features (offset_of r) (rest r) ss
module_all r after end v ss (text, p, t) occur none = (
  text,
  rest after,
  v,
  t.parts,
  p,
  subst (λ at. EncodesSections r.features at (rest after) ss) (moved_on t) (sections_all r.features after end ss (same_features t) occur none),
)

-- One more section was read.
pub one_more : (r mid end : Reader) (ss : List SectionParts) (s : SectionParts) → SectionsOccur r ss mid → (BeginsModule (rest mid) → ⊥) →
    HasReadBy (section mid.features) s mid end → SectionsOccur r (ss ++ s ∷ []) end
one_more r mid end [] s is free read = subst (λ z. SectionsOccur z (s ∷ []) end) is (end, free, read, refl)
one_more r mid end (x ∷ ss) s (next, first, reads, more) free read = (next, first, reads, one_more next mid end ss s more free read)

no_sections : (f : WasmFeatures) (r end : Reader) (e : Error) (ss sections : List SectionParts) → r.features ≡ f → SectionsOccur r ss end → rest end ≢ [] →
    e.message ≢ message.OutOfMemory → FailsSection e end → EncodesSections f (offset_of r) (rest r) sections → ⊥
no_sections f r end e [] [] same is some known fails none = some (subst (λ z. rest z ≡ []) (sym is) none)
no_sections f r end e [] (s ∷ sections) same is some known fails (first, after, eq, free, p, _) =
    here (subst (FailsSection e) is fails)
  where
    here : FailsSection e r → ⊥
    here (inl (magic, _, _)) = free magic
    here (inr (_, h)) = none_here (Encodes (section r.features) (offset_of r)) e.message (rest r) known h.refuses first after s
        (subst (λ g. Encodes (section g) (offset_of r) first s) (sym same) p) eq
no_sections f r end e (x ∷ ss) [] same (mid, free, (text, p, t), more) some known fails none =
    let size : length (rest r) ≡ length text + length (rest mid) = ap length t.parts ∙ length-append text (rest mid) in
    let zero : length (rest r) ≡ 0 = ap length none in
    let long = section_some r.features (offset_of r) text x p in
    absurd (omega (arith, size, zero, long))
no_sections f r end e (x ∷ ss) (s ∷ sections) same (mid, free, read, more) some known fails (first, after, eq, _, p, q) =
    let is = same_read (section r.features) x s first after read eq (subst (λ g. Encodes (section g) (offset_of r) first s) (sym same) p) in
    no_sections f mid end e ss sections (same_features read.2 ∙ same) more some known fails
    (subst (λ at. EncodesSections f at (rest mid) sections) is.1 (subst (λ z. EncodesSections f (offset_of r + length first) z sections) is.0 q))

section_cause : (f : WasmFeatures) (s : ℕ) (r : Reader) (e : Error) →
    ((e.message ≡ message.OutOfMemory) × Memory (section f) s r e.offset) ⊎ ((e.message ≢ message.OutOfMemory) × Fault (section f) s e.message r e.offset) →
    (e.message ≢ message.OutOfMemory) × Fault (section f) s e.message r e.offset
section_cause f s r e (inl (_, a)) = absurd (section_never f s r e.offset a)
section_cause f s r e (inr h) = h

known : (e : Error) (r : Reader) → FailsSection e r → e.message ≢ message.OutOfMemory
known e r (inl (_, is, _)) = λ free. (let both : message.Malformed malformed.SecondModule ≡ message.OutOfMemory = sym is ∙ free in cc both)
known e r (inr (_, h)) = (section_cause r.features (offset_of r) r e h.cause).0

faults : (e : Error) (r : Reader) → FailsSection e r → SectionFault e.message r e.offset
faults e r (inl h) = inl h
faults e r (inr (free, h)) =
    let (k, fault) = section_cause r.features (offset_of r) r e h.cause in
    inr (free, none_here (Encodes (section r.features) (offset_of r)) e.message (rest r) k h.refuses, fault)

-- The next section is in error.
pub module_fails : (r after end : Reader) (v : ℕ) (ss : List SectionParts) (e : Error) → HasReadBy preamble v r after → SectionsOccur after ss end → rest end ≢ [] →
    FailsSection e end → (e.message ≢ message.OutOfMemory) × FailsModule e r
module_fails r after end v ss e begins occur some fails = (
  known e end fails,
  record {
    none = λ sections (first, left, w, eq, p, q).
        (let is = same_read preamble v w first left begins eq p in
        no_sections r.features after end e ss sections (same_features begins.2) occur some (known e end fails) fails
        (subst (λ at. EncodesSections r.features at (rest after) sections) is.1 (subst (λ z. EncodesSections r.features (offset_of r + length first) z sections) is.0 q)));
    fault = inr (v, after, begins, ss, end, occur, some, faults e end fails);
  },
)

-- Reading a preamble does not allocate.
version_never : (s : ℕ) (r : Reader) (o : ℕ) → Memory version s r o → ⊥
version_never s r o (inl a) = a.0
version_never s r o (inr (v, next, _, a)) = picked (v == 1) ⊥ (λ z. z) a

preamble_never : (s : ℕ) (r : Reader) (o : ℕ) → Memory preamble s r o → ⊥
preamble_never s r o (inl a) = a.0
preamble_never s r o (inr (m, mid, read, a)) = picked (m == 0x6d736100) (Memory version (offset_of mid) mid o) (version_never (offset_of mid) mid o) a

preamble_cause : (r : Reader) (e : Error) →
    ((e.message ≡ message.OutOfMemory) × Memory preamble (offset_of r) r e.offset) ⊎ ((e.message ≢ message.OutOfMemory) × Fault preamble (offset_of r) e.message r e.offset) →
    (e.message ≢ message.OutOfMemory) × Fault preamble (offset_of r) e.message r e.offset
preamble_cause r e (inl (_, a)) = absurd (preamble_never (offset_of r) r e.offset a)
preamble_cause r e (inr h) = h

-- The preamble is in error.
pub module_unopened : (r : Reader) (e : Error) → Fails preamble (offset_of r) e r → (e.message ≢ message.OutOfMemory) × FailsModule e r
module_unopened r e h =
    let (k, fault) = preamble_cause r e h.cause in
    let none = none_here (Encodes preamble (offset_of r)) e.message (rest r) k h.refuses in (
      k,
      record { none = λ sections (first, left, w, eq, p, q). none first left w p eq; fault = inl (none, fault) },
    )

-- A result that is an error.
pub module_failed : (result : Result (List SectionParts) Error) {e : Error} {r : Reader} → IsErrAnd result (λ y. y ≡ e) →
    (e.message ≢ message.OutOfMemory) × FailsModule e r → ReadsModule result r
module_failed (Ok x) is h = absurd is
module_failed (Err y) {r = r} is h = inr (subst (λ (z : Error). (z.message ≢ message.OutOfMemory) × FailsModule z r) (sym is) h)

-- The next section is read where no module begins.
pub section_reads : (result : Result SectionParts Error) (old new : Reader) → (BeginsModule (rest old) → ⊥) → Reads (section old.features) result old new →
    ReadsSection result old new
section_reads (Ok s) old new free h = (free, h)
section_reads (Err e) old new free h = (h.0, inr (free, h.1))

no_text : (f : WasmFeatures) (at : ℕ) (text first after : List ℕ) (y : SectionParts) → text ≡ [] → text ≡ first ++ after → Encodes (section f) at first y → ⊥
no_text f at text first after y none eq q =
    let long = section_some f at first y q in
    let size : length text ≡ length first + length after = ap length eq ∙ length-append first after in
    let zero : length text ≡ 0 = ap length none in
    omega (arith, long, size, zero)

one_sections : (f : WasmFeatures) (at : ℕ) (text : List ℕ) (s t : List SectionParts) → EncodesSections f at text s → EncodesSections f at text t → s ≡ t
one_sections f at text [] [] a b = refl
one_sections f at text [] (y ∷ t) a (first, after, eq, _, q, _) = absurd (no_text f at text first after y a eq q)
one_sections f at text (x ∷ s) [] (first, after, eq, _, q, _) b = absurd (no_text f at text first after x b eq q)
one_sections f at text (x ∷ s) (y ∷ t) (a, b, eq, _, p, more) (c, d, eq2, _, q, more2) =
    let o = code (section f) at a c b d x y p q (sym eq ∙ eq2) in
    let left : b ≡ d = same_rest a c b d o.0 (sym eq ∙ eq2) in
    let moved = subst (λ z. EncodesSections f (at + length c) z t) (sym left) more2 in
    let placed = subst (λ (z : List ℕ). EncodesSections f (at + length z) b t) (sym o.0) moved in
    let next : s ≡ t = one_sections f (at + length a) b s t more placed in
    cc (o.1, next)

pub one_module : (f : WasmFeatures) (at : ℕ) (text : List ℕ) (s t : List SectionParts) → EncodesModule f at text s → EncodesModule f at text t → s ≡ t
one_module f at text s t (a, b, v, eq, p, more) (c, d, w, eq2, q, more2) =
    let o = code preamble at a c b d v w p q (sym eq ∙ eq2) in
    let left : b ≡ d = same_rest a c b d o.0 (sym eq ∙ eq2) in
    let moved = subst (λ z. EncodesSections f (at + length c) z t) (sym left) more2 in
    let placed = subst (λ (z : List ℕ). EncodesSections f (at + length z) b t) (sym o.0) moved in
    one_sections f (at + length a) b s t more placed

one_section : (m k : Message) (r : Reader) (a b : ℕ) → SectionFault m r a → SectionFault k r b → (m ≡ k) × (a ≡ b)
one_section m k r a b (inl h) (inl q) = (h.1 ∙ sym q.1, h.2 ∙ sym q.2)
one_section m k r a b (inl h) (inr q) = absurd (q.0 h.0)
one_section m k r a b (inr h) (inl q) = absurd (h.0 q.0)
one_section m k r a b (inr h) (inr q) = determines (section r.features) (offset_of r) m k r a b h.2 q.2

not_both : (m : Message) (r mid : Reader) (a : ℕ) (s : SectionParts) → SectionFault m r a → (BeginsModule (rest r) → ⊥) → HasReadBy (section r.features) s r mid → ⊥
not_both m r mid a s (inl h) free read = free h.0
not_both m r mid a s (inr h) free (text, p, t) = h.1 text (rest mid) s p t.parts

one_fault : (m k : Message) (r end next : Reader) (a b : ℕ) (ss ts : List SectionParts) → SectionsOccur r ss end → SectionFault m end a → SectionsOccur r ts next →
    SectionFault k next b → (m ≡ k) × (a ≡ b)
one_fault m k r end next a b [] [] is h at q = one_section m k r a b (subst (λ z. SectionFault m z a) is h) (subst (λ z. SectionFault k z b) at q)
one_fault m k r end next a b [] (t ∷ ts) is h (mid, free, read, _) q = absurd (not_both m r mid a t (subst (λ z. SectionFault m z a) is h) free read)
one_fault m k r end next a b (s ∷ ss) [] (mid, free, read, _) h at q = absurd (not_both k r mid b s (subst (λ z. SectionFault k z b) at q) free read)
one_fault m k r end next a b (s ∷ ss) (t ∷ ts) (mid, _, read, more) h (mid2, _, read2, more2) q =
    let same = (one_read (section r.features) read read2).0 in
    one_fault m k mid end next a b ss ts more h (subst (λ z. SectionsOccur z ts next) (sym same) more2) q

pub module_determines : DeterminesRefusal ModuleFault
module_determines m k r a b (inl h) (inl q) = determines preamble (offset_of r) m k r a b h.1 q.1
module_determines m k r a b (inl h) (inr (v, after, (text, p, t), _, _, _, _, _)) = absurd (h.0 text (rest after) v p t.parts)
module_determines m k r a b (inr (v, after, (text, p, t), _, _, _, _, _)) (inl q) = absurd (q.0 text (rest after) v p t.parts)
module_determines m k r a b (inr (v, after, begins, ss, end, occur, _, h)) (inr (w, next, begins2, ts, last, occur2, _, q)) =
    let same = (one_read preamble begins begins2).0 in
    one_fault m k after end last a b ss ts occur h (subst (λ z. SectionsOccur z ts last) (sym same) occur2) q
