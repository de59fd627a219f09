use Rattle.std.proofs.Common.{◌≡◌, ℕ, ◌+◌, ◌≤◌, List, [], ◌∷◌, ◌++◌, length, false, inl, inr, refl, sym, ap, subst, ◌∙◌, arith, append_assoc, append-nil, length-append}
use Rattle.std.proofs.lemmas.Bool.{false≢true}
use Rattle.std.proofs.lemmas.List.{append_cancel_left}
use Rattle.wasm_operators.specs.below.declared.error.Error.{Error}
use Rattle.wasm_operators.specs.below.declared.message.Message.{Message}
use Rattle.wasm_operators.specs.below.declared.message.Message.TheVariants as message
use Rattle.wasm_operators.specs.below.Number.{EncodesUnsigned}
use Rattle.wasm_operators.specs.below.Sequence.{Then, PrefixCode}
use Rattle.wasm_operators.specs.below.Source.{Reader, rest, IsRefusal}
use Rattle.wasm_operators.specs.imm.Lists.{EncodesEach, EncodesMany}
use Rattle.wasm_operators.specs.Section.{Section, SectionItems, items_of, IsDone, StopsSection}
use Rattle.uses.proofs.Codes.{refused_there}

-- The items read follow the count, which exceeds them by the number of items left.
pub record HasFound {X : Type 0} (Encodes : List ℕ → X → Type 0) (r : Reader) (items : SectionItems) (found : List X) : Type 0 where
  pub count : ℕ
  pub number : List ℕ
  pub text : List ℕ
  pub announces : EncodesUnsigned 32 number count
  pub parts : rest r ≡ number ++ (text ++ rest items.reader)
  pub each : EncodesEach Encodes text found
  pub all : length found + items.remaining ≡ count
  pub goes_on : items.refused ≡ false

each_more : {X : Type 0} (Encodes : List ℕ → X → Type 0) (text t : List ℕ) (xs : List X) (x : X) → EncodesEach Encodes text xs → Encodes t x →
    EncodesEach Encodes (text ++ t) (xs ++ x ∷ [])
each_more Encodes text t [] x is encodes = (t, [], ap (λ s. s ++ t) is ∙ sym (append-nil t), encodes, refl)
each_more Encodes text t (y ∷ ys) x (first, after, parts, one, others) encodes =
    (first, after ++ t, ap (λ s. s ++ t) parts ∙ append_assoc first after t, one, each_more Encodes after t ys x others encodes)

pub reads_first : {X : Type 0} (Encodes : List ℕ → X → Type 0) (r : Reader) (s : Section) (number : List ℕ) → EncodesUnsigned 32 number s.count →
    rest r ≡ number ++ rest s.reader → HasFound Encodes r (items_of s) []
reads_first Encodes r s number announces parts = record {
  count = s.count;
  number = number;
  text = [];
  announces = announces;
  parts = parts;
  each = refl;
  all = omega arith;
  goes_on = refl;
}

pub reads_on : {X : Type 0} (Encodes : List ℕ → X → Type 0) (r : Reader) (old new : SectionItems) (found : List X) (x : X) (t : List ℕ) →
    HasFound Encodes r old found → new.refused ≡ false → old.remaining ≡ new.remaining + 1 → Encodes t x → rest old.reader ≡ t ++ rest new.reader →
    HasFound Encodes r new (found ++ x ∷ [])
reads_on Encodes r old new found x t h goes_on less encodes takes = record {
  count = h.count;
  number = h.number;
  text = h.text ++ t;
  announces = h.announces;
  parts = h.parts ∙ ap (λ s. h.number ++ s) (ap (λ s. h.text ++ s) takes ∙ sym (append_assoc h.text t (rest new.reader)));
  each = each_more Encodes h.text t found x h.each encodes;
  all = omega (arith, h.all, less, length-append found (x ∷ []));
  goes_on = goes_on;
}

pub reads_all : {X : Type 0} (Encodes : List ℕ → X → Type 0) (r : Reader) (items : SectionItems) (found : List X) → HasFound Encodes r items found →
    IsDone items → Then (EncodesUnsigned 32) (EncodesMany Encodes) (rest r) found
reads_all Encodes r items found h (inl refused) = absurd (false≢true (sym h.goes_on ∙ refused))
reads_all Encodes r items found h (inr (none, nothing)) = (
  h.number,
  h.text,
  h.count,
  h.parts ∙ ap (λ s. h.number ++ s) (ap (λ s. h.text ++ s) nothing ∙ append-nil h.text),
  h.announces,
  (omega (arith, h.all, none), h.each),
)

pub number_there : {X : Type 0} (Encodes : List ℕ → X → Type 0) (r : Reader) (e : Error) (all : List X) → IsRefusal (EncodesUnsigned 32) e r →
    Then (EncodesUnsigned 32) (EncodesMany Encodes) (rest r) all → e.message ≡ message.OutOfMemory
number_there Encodes r e all refusal (number, text, count, parts, announces, many) =
    refused_there (EncodesUnsigned 32) e.message r number text count refusal.refuses announces parts

-- As many items are encoded here as are left.
abbrev pub IsLeft : {X : Type 0} → (List ℕ → X → Type 0) → SectionItems → Type 0
IsLeft {X} Encodes items = (others : List X) × (length others ≡ items.remaining) × EncodesEach Encodes (rest items.reader) others

others_there : {X : Type 0} (Encodes : List ℕ → X → Type 0) (found all : List X) (text whole left : List ℕ) → PrefixCode Encodes →
    EncodesEach Encodes text found → EncodesEach Encodes whole all → text ++ left ≡ whole → length found ≤ length all →
    (others : List X) × (length found + length others ≡ length all) × EncodesEach Encodes left others
others_there Encodes [] all text whole left code nothing each parts few =
    let same : left ≡ whole = ap (λ t. t ++ left) (sym nothing) ∙ parts in
    (all, omega arith, subst (λ t. EncodesEach Encodes t all) (sym same) each)
others_there Encodes (x ∷ xs) [] text whole left code found each parts few = absurd (omega arith)
others_there Encodes (x ∷ xs) (y ∷ ys) text whole left code (first, later, is, one, found) (other, after, so, two, each) parts few =
    let there : first ++ (later ++ left) ≡ other ++ after = sym (append_assoc first later left) ∙ ap (λ t. t ++ left) (sym is) ∙ parts ∙ so in
    let same : first ≡ other = (code first other (later ++ left) after x y one two there).0 in
    let on : later ++ left ≡ after = append_cancel_left other _ _ (ap (λ t. t ++ (later ++ left)) (sym same) ∙ there) in
    let h = others_there Encodes xs ys later after left code found each on (omega arith) in
    (h.0, omega (arith, h.1), h.2)

pub left_there : {X : Type 0} (Encodes : List ℕ → X → Type 0) (r : Reader) (items : SectionItems) (found all : List X) → PrefixCode (EncodesUnsigned 32) →
    PrefixCode Encodes → HasFound Encodes r items found → Then (EncodesUnsigned 32) (EncodesMany Encodes) (rest r) all → IsLeft Encodes items
left_there Encodes r items found all numbers code h (number, text, count, parts, announces, (size, each)) =
    let same = numbers h.number number (h.text ++ rest items.reader) text h.count count h.announces announces (sym h.parts ∙ parts) in
    let there : h.text ++ rest items.reader ≡ text =
    append_cancel_left number _ _ (ap (λ t. t ++ (h.text ++ rest items.reader)) (sym same.0) ∙ sym h.parts ∙ parts) in
    let others = others_there Encodes found all h.text text (rest items.reader) code h.each each there (omega (arith, h.all, same.1, size)) in
    (others.0, omega (arith, others.1, h.all, same.1, size), others.2)

pub stops_memory : {X : Type 0} (Encodes : List ℕ → X → Type 0) (Fault : Message → Reader → ℕ → Type 0) (Memory : Reader → Type 0) (e : Error) (items : SectionItems) →
    IsLeft Encodes items → StopsSection Encodes Fault Memory e items → e.message ≡ message.OutOfMemory
stops_memory Encodes Fault Memory e items ([], size, nothing) (inl (some, refused)) = absurd (omega (arith, size, some))
stops_memory Encodes Fault Memory e items (x ∷ xs, size, (first, after, parts, one, others)) (inl (some, refused)) =
    refused_there Encodes e.message items.reader first after x refused.refuses one parts
stops_memory Encodes Fault Memory e items ([], size, nothing) (inr (none, left)) = absurd (left.0 nothing)
stops_memory Encodes Fault Memory e items (x ∷ xs, size, each) (inr (none, left)) = absurd (omega (arith, size, none))
