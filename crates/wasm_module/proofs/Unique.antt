use Rattle.std.proofs.Common.{◌≡◌, ℕ, ◌+◌, List, [], ◌∷◌, ◌++◌, length, get_or, drop, Option, refl, sym, subst, ap, ◌∙◌, append_assoc, arith}
use Rattle.std.specs.Int.{w32}
use Rattle.wasm_below.specs.declared.error.Error.{Error}
use Rattle.wasm_below.specs.declared.features.WasmFeatures.{WasmFeatures}
use Rattle.wasm_below.specs.Number.{EncodesUnsigned, EncodesFixed}
use Rattle.wasm_below.specs.Sequence.{PrefixCode}
use Rattle.wasm_below.specs.Source.{Reader, rest, offset_of, end_of, at_position, IsRefusal, HasRead}
use Rattle.wasm_module.specs.Module.{EncodesPreamble, preamble_kind, SectionParts, EncodesSection}
use Rattle.wasm_module.specs.declared.preamble.Preamble.{Preamble}
use Rattle.wasm_module.specs.declared.preamble.PreambleKind.{PreambleKind}
use Rattle.wasm_module.specs.declared.preamble.PreambleKind.TheVariants as kind
use Rattle.wasm_module.specs.Sections.{SectionsOccur, BeginsModule, IsModule, IsSection, first_with}
use Rattle.wasm_module.proofs.NamedFunctions.{not_both}
use Rattle.wasm_module.proofs.Occurring.{shorter}

pub same_texts : (a b x y : List ℕ) → length a ≡ length b → a ++ x ≡ b ++ y → (a ≡ b) × (x ≡ y)
same_texts [] [] x y l e = (refl, e)
same_texts [] (c ∷ b) x y l e = absurd (omega (arith, l))
same_texts (c ∷ a) [] x y l e = absurd (omega (arith, l))
same_texts (c ∷ a) (d ∷ b) x y l e =
    let first : c ≡ d = ap (λ z. get_or z 0 0) e in
    let others = same_texts a b x y (omega (arith, l)) (ap (drop 1) e) in
    (ap (λ z. z ∷ a) first ∙ ap (λ z. d ∷ z) others.0, others.1)

three_parts : (a i s n b x : List ℕ) → a ≡ i ++ s → s ≡ n ++ b → a ++ x ≡ i ++ (n ++ (b ++ x))
three_parts a i s n b x p q =
    ap (λ z. z ++ x) p ∙ append_assoc i s x ∙ ap (λ z. i ++ z) (ap (λ z. z ++ x) q ∙ append_assoc n b x)

abbrev parts_by : ℕ → WasmFeatures → ℕ → List ℕ → ℕ → SectionParts
parts_by id features start buffer position =
    record { id = id; contents = record { features = features; start = start; buffer = buffer; position = position } }

module _ (numbers : PrefixCode (EncodesUnsigned 32)) where
  section_text : (features : WasmFeatures) (a b x y : List ℕ) (s t : SectionParts) → EncodesSection features a s → EncodesSection features b t →
      a ++ x ≡ b ++ y →
      (a ≡ b) × (s.id ≡ t.id) × (s.contents.buffer ≡ t.contents.buffer) × (s.contents.features ≡ t.contents.features) × (s.contents.position ≡ t.contents.position)
  section_text features a b x y s t (i, si, p, is, (n, body, size, q, number, (f, buffer, start, long)))
      (j, sj, p', is', (n', body', size', q', number', (f', buffer', start', long'))) e =
      let whole = sym (three_parts a i si n body x p q) ∙ e ∙ three_parts b j sj n' body' y p' q' in
      let id = same_texts i j (n ++ (body ++ x)) (n' ++ (body' ++ y)) (ap length is.0 ∙ sym (ap length is'.0)) whole in
      let size_is = numbers n n' (body ++ x) (body' ++ y) size size' number number' id.1 in
      let after = same_texts n n' (body ++ x) (body' ++ y) (ap length size_is.0) id.1 in
      let contents = same_texts body body' x y (long ∙ size_is.1 ∙ sym long') after.1 in
      let second = q ∙ ap (λ z. z ++ body) size_is.0 ∙ ap (λ z. n' ++ z) contents.0 ∙ sym q' in (
        p ∙ ap (λ z. z ++ si) id.0 ∙ ap (λ z. j ++ z) second ∙ sym p',
        ap (λ z. get_or z 0 0) (sym is.0 ∙ id.0 ∙ is'.0),
        buffer ∙ contents.0 ∙ sym buffer',
        f ∙ sym f',
        start ∙ sym start',
      )

  pub one_step : (r mid next : Reader) (s t : SectionParts) → HasRead (EncodesSection r.features) s r mid → HasRead (EncodesSection r.features) t r next →
      (mid ≡ next) × (s.id ≡ t.id) × (s.contents.buffer ≡ t.contents.buffer) × (s.contents.features ≡ t.contents.features) ×
      (s.contents.position ≡ t.contents.position)
  one_step r mid next s t (a, is, takes) (b, is', takes') =
      let same = section_text r.features a b (rest mid) (rest next) s t is is' (sym takes.parts ∙ takes'.parts) in
      (takes.moved ∙ ap (λ (z : List ℕ). at_position r (r.position + length z)) same.0 ∙ sym takes'.moved, same.1, same.2, same.3, same.4)

  sections_left : (r : Reader) (ss : List SectionParts) (mid : Reader) (ts : List SectionParts) (end : Reader) → SectionsOccur r ss mid →
      SectionsOccur r ts end → rest end ≡ [] → (us : List SectionParts) × SectionsOccur mid us end
  sections_left r [] mid ts end same all none = (ts, subst (λ z. SectionsOccur z ts end) (sym same) all)
  sections_left r (s ∷ ss) mid [] end (next, reads, placed, others) same none =
      let fewer = shorter r next s reads in
      let empty : length (rest r) ≡ 0 = ap (λ z. length (rest z)) (sym same) ∙ ap length none in absurd (omega (arith, fewer, empty))
  sections_left r (s ∷ ss) mid (t ∷ ts) end (next, reads, placed, others) (next', reads', placed', others') none =
      sections_left next ss mid ts end others (subst (λ z. SectionsOccur z ts end) (sym (one_step r next next' s t reads reads').0) others') none

  one_section : (r mid next : Reader) (s t : SectionParts) → HasRead (EncodesSection r.features) s r mid → HasRead (EncodesSection r.features) t r next →
      end_of s.contents ≡ offset_of mid → end_of t.contents ≡ offset_of next → s ≡ t
  one_section r mid next s t reads reads' placed placed' =
      let (moved, id, buffer, features, position) = one_step r mid next s t reads reads' in
      let size = ap length buffer in
      let after = ap offset_of moved in
      let start : s.contents.start ≡ t.contents.start = omega (arith, placed, placed', size, after) in
      ap (λ z. parts_by z s.contents.features s.contents.start s.contents.buffer s.contents.position) id ∙
      ap (λ z. parts_by t.id z s.contents.start s.contents.buffer s.contents.position) features ∙
      ap (λ z. parts_by t.id t.contents.features z s.contents.buffer s.contents.position) start ∙
      ap (λ z. parts_by t.id t.contents.features t.contents.start z s.contents.position) buffer ∙
      ap (λ z. parts_by t.id t.contents.features t.contents.start t.contents.buffer z) position

  same_sections : (r : Reader) (ss ts : List SectionParts) (end last : Reader) → SectionsOccur r ss end → SectionsOccur r ts last → rest end ≡ [] →
      rest last ≡ [] → ss ≡ ts
  same_sections r [] [] end last a b none none' = refl
  same_sections r [] (t ∷ ts) end last a (next, reads, placed, others) none none' =
      let fewer = shorter r next t reads in
      let empty : length (rest r) ≡ 0 = ap (λ z. length (rest z)) (sym a) ∙ ap length none in absurd (omega (arith, fewer, empty))
  same_sections r (s ∷ ss) [] end last (next, reads, placed, others) b none none' =
      let fewer = shorter r next s reads in
      let empty : length (rest r) ≡ 0 = ap (λ z. length (rest z)) (sym b) ∙ ap length none' in absurd (omega (arith, fewer, empty))
  same_sections r (s ∷ ss) (t ∷ ts) end last (next, reads, placed, others) (next', reads', placed', others') none none' =
      let first = one_section r next next' s t reads reads' placed placed' in
      let moved = (one_step r next next' s t reads reads').0 in
      let more = same_sections next ss ts end last others (subst (λ z. SectionsOccur z ts last) (sym moved) others') none none' in
      ap (λ z. z ∷ ss) first ∙ ap (λ zs. t ∷ zs) more

no_section : (mid : Reader) (us : List SectionParts) (end : Reader) (e : Error) → SectionsOccur mid us end → rest end ≡ [] → (rest mid ≡ [] → ⊥) →
    IsRefusal (EncodesSection mid.features) e mid → ⊥
no_section mid [] end e same none more refused = more (ap rest (sym same) ∙ none)
no_section mid (u ∷ us) end e (next, reads, placed, others) none more refused = not_both (EncodesSection mid.features) e mid next u refused reads

abbrev kind_by : ℕ → ℕ → PreambleKind
kind_by magic version = preamble_kind (record { magic = magic; version = version })

module _ (fixed : PrefixCode (EncodesFixed w32)) where
  pub one_preamble : (a b x y : List ℕ) (p q : Preamble) → EncodesPreamble a p → EncodesPreamble b q → a ++ x ≡ b ++ y →
      (a ≡ b) × (preamble_kind p ≡ preamble_kind q)
  one_preamble a b x y p q (m, v, parts, magic, version) (m', v', parts', magic', version') e =
      let whole = sym (append_assoc m v x) ∙ ap (λ z. z ++ x) (sym parts) ∙ e ∙ ap (λ z. z ++ y) parts' ∙ append_assoc m' v' y in
      let first = fixed m m' (v ++ x) (v' ++ y) p.magic q.magic magic magic' whole in
      let after = same_texts m m' (v ++ x) (v' ++ y) (ap length first.0) whole in
      let second = fixed v v' x y p.version q.version version version' after.1 in (
        parts ∙ ap (λ z. z ++ v) first.0 ∙ ap (λ z. m' ++ z) second.0 ∙ sym parts',
        ap (λ z. kind_by z p.version) first.1 ∙ ap (λ z. kind_by q.magic z) second.1,
      )

  pub begins_as : (whole mid after : Reader) (p : Preamble) → HasRead EncodesPreamble p whole mid → BeginsModule whole after →
      (mid ≡ after) × (preamble_kind p ≡ kind.Module)
  begins_as whole mid after p (a, is, takes) h =
      let (b, is', takes') = h.begins in
      let same = one_preamble a b (rest mid) (rest after) p h.preamble is is' (sym takes.parts ∙ takes'.parts) in (
        takes.moved ∙ ap (λ (z : List ℕ). at_position whole (whole.position + length z)) same.0 ∙ sym takes'.moved,
        same.1 ∙ h.is,
      )

pub no_preamble : (whole after : Reader) (e : Error) → IsRefusal EncodesPreamble e whole → BeginsModule whole after → ⊥
no_preamble whole after e refused h = not_both EncodesPreamble e whole after h.preamble refused h.begins

pub no_module : PrefixCode (EncodesUnsigned 32) → PrefixCode (EncodesFixed w32) → (whole after mid : Reader) (ss : List SectionParts) (e : Error) →
    BeginsModule whole after → SectionsOccur after ss mid → (rest mid ≡ [] → ⊥) → IsRefusal (EncodesSection mid.features) e mid →
    (sections : List SectionParts) → IsModule whole sections → ⊥
no_module numbers fixed whole after mid ss e begins occur more refused sections h =
    let same = (begins_as fixed whole after h.after begins.preamble begins.begins h.begins).0 in
    let all = subst (λ z. SectionsOccur z sections h.end) (sym same) h.occur in
    let (us, left) = sections_left numbers after ss mid sections h.end occur all h.all in
    no_section mid us h.end e left h.all more refused

module _ (numbers : PrefixCode (EncodesUnsigned 32)) (fixed : PrefixCode (EncodesFixed w32)) where
  pub one_module : (whole : Reader) (ss ts : List SectionParts) → IsModule whole ss → IsModule whole ts → ss ≡ ts
  one_module whole ss ts a b =
      let same = (begins_as fixed whole a.after b.after a.begins.preamble a.begins.begins b.begins).0 in
      same_sections numbers a.after ss ts a.end b.end a.occur (subst (λ z. SectionsOccur z ts b.end) (sym same) b.occur) a.all b.all

  pub one_found : (whole : Reader) (id : ℕ) (found other : Option Reader) → IsSection whole id found → IsSection whole id other → found ≡ other
  one_found whole id found other (ss, a, is) (ts, b, is') = is ∙ ap (first_with id) (one_module whole ss ts a b) ∙ sym is'
