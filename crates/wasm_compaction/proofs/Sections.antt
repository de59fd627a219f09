-- The sections of a module, one after another.
use Rattle.std.proofs.Common.{◌≡◌, ℕ, suc, ◌-◌, ◌<◌, ◌≤◌, ◌^◌, inl, inr, List, [], ◌∷◌, ◌++◌, length, take, refl, sym, ap, subst, ◌∙◌, append_assoc, append-nil, arith, length-append, true, false}
use Rattle.std.proofs.lemmas.List.{take_at}
use Rattle.wasm_below.specs.declared.features.WasmFeatures.{WasmFeatures}
use Rattle.wasm_below.specs.Features.{all_features}
use Rattle.wasm_below.specs.Number.{EncodesUnsigned}
use Rattle.wasm_below.specs.Source.{Reader, rest, Takes, HasRead, offset_of, end_of, reader_of}
use Rattle.wasm_below.proofs.TakesLemmas.{takes_then, takes_none}
use Rattle.wasm_module.specs.Module.{SectionParts, EncodesSection}
use Rattle.wasm_module.specs.Sections.{SectionsOccur, BeginsModule}
use Rattle.wasm_module.proofs.Occurring.{one_more}
use Rattle.wasm_encode_numbers.specs.Appended.{Appends}
use Rattle.wasm_compaction.specs.declared.custom.Choices.{Choices}
use Rattle.wasm_compaction.specs.Blocks.{EncodesBlock, InSequence}
use Rattle.wasm_compaction.specs.Compaction.{CompactsCode, CompactsSection, Becomes, Compacts, HasFate}
use Rattle.wasm_compaction.specs.Reading.{AppendsSection}
use Rattle.wasm_compaction.proofs.Bodies.{code_no_longer}
use Rattle.wasm_compaction.proofs.Sizes.{block_below, block_no_longer, is_shortest, none_become, one_more_becomes, parts_no_longer}

-- ---- one section

-- A section is its number and a block.
pub record IsSectionText (id : ℕ) (contents : Reader) (text : List ℕ) : Type 0 where
  pub block : List ℕ
  pub parts : text ≡ id ∷ block
  pub encodes : EncodesBlock block (rest contents)

-- The bytes of a reader after `k` bytes.
abbrev after : Reader → ℕ → List ℕ
after part k = rest (record { features = part.features; start = part.start; buffer = part.buffer; position = k })

pub section_text : (f : WasmFeatures) (text : List ℕ) (s : SectionParts) → EncodesSection f text s → IsSectionText s.id s.contents text
section_text f text s (first, block, parts, (byte, small), (size, bytes, n, split, p, (g, buffer, start, len))) =
    let same : bytes ≡ rest s.contents = sym buffer ∙ ap (after s.contents) (sym start) in
    record {
      block = block;
      parts = parts ∙ ap (λ z. z ++ block) byte;
      encodes = (size, split ∙ ap (λ z. size ++ z) same, subst (EncodesUnsigned 32 size) (sym len ∙ ap length same) p);
    }

pub section_features : (f : WasmFeatures) (text : List ℕ) (s : SectionParts) → EncodesSection f text s → s.contents.features ≡ f
section_features f text s (first, block, parts, byte, (size, bytes, n, split, p, (g, buffer, start, len))) = g

pub section_below : (f : WasmFeatures) (text : List ℕ) (s : SectionParts) → EncodesSection f text s → length (rest s.contents) < 2 ^ 32
section_below f text s e = let t = section_text f text s e in block_below t.block (rest s.contents) t.encodes

section_compacted : (c : Choices) (text other : List ℕ) (s : SectionParts) → EncodesSection all_features text s → Becomes c s.id (rest s.contents) text other → CompactsSection c text other
section_compacted c text other s e b =
    let t = section_text all_features text s e in
    record { id = s.id; contents = rest s.contents; block = t.block; parts = t.parts; encodes = t.encodes; becomes = b }

pub code_appended : (c : Choices) (text code old mid new : List ℕ) (s : SectionParts) → EncodesSection all_features text s → s.id ≡ 10 →
    CompactsCode s.contents.features (rest s.contents) code → mid ≡ old ++ 10 ∷ [] → Appends EncodesBlock code mid new → AppendsSection c text old new
code_appended c text code old mid new s e id done m a = (
  10 ∷ a.text,
  a.appended ∙ ap (λ z. z ++ a.text) m ∙ append_assoc old (10 ∷ []) a.text,
  section_compacted c text (10 ∷ a.text) s e
      (inl (id, code, a.text, refl, is_shortest EncodesBlock code mid new a, subst (λ f. CompactsCode f (rest s.contents) code) (section_features all_features text s e) done)),
)

pub dropped_appended : (c : Choices) (text old : List ℕ) (s : SectionParts) → EncodesSection all_features text s → s.id ≡ 0 → HasFate c (rest s.contents) true →
    AppendsSection c text old old
dropped_appended c text old s e id fate = ([], sym (append-nil old), section_compacted c text [] s e (inr (inl (id, refl, fate))))

pub kept_appended : (c : Choices) (text old new : List ℕ) (s : SectionParts) → EncodesSection all_features text s → (s.id ≡ 10 → ⊥) → (s.id ≡ 0 → HasFate c (rest s.contents) false) →
    new ≡ old ++ text → AppendsSection c text old new
kept_appended c text old new s e id fate a = (text, a, section_compacted c text text s e (inr (inr (id, refl, fate))))

section_no_longer : (c : Choices) (old new : List ℕ) → CompactsSection c old new → length new ≤ length old
section_no_longer c old new s = go c s.id s.contents s.block old new s.parts s.encodes s.becomes
  where
    go : (c : Choices) (id : ℕ) (contents block old new : List ℕ) → old ≡ id ∷ block → EncodesBlock block contents → Becomes c id contents old new → length new ≤ length old
    go c id contents block old new parts e (inl (ten, code, other, is, short, done)) =
        let k = code_no_longer all_features contents code done in
        let s = block_no_longer block contents other code e k short in
        let l1 = ap length parts in
        let l2 = ap length is in
        omega (arith, s, l1, l2)
    go c id contents block old new parts e (inr (inl (zero, none, fate))) = let l = ap length none in omega (arith, l)
    go c id contents block old new parts e (inr (inr (other, same, fate))) = let l = ap length same in omega (arith, l)

-- ---- several sections

-- `n` sections after `first`, up to `next`, were read, and what is in their place was appended.
pub record SectionsDone (c : Choices) (first next : Reader) (old new : List ℕ) : Type 0 where
  pub n : ℕ
  pub consumed : List ℕ
  pub other : List ℕ
  pub takes : Takes first next consumed
  pub appended : new ≡ old ++ other
  pub each : InSequence (CompactsSection c) n consumed other
  pub sections : List SectionParts
  pub occur : SectionsOccur first sections next

pub no_sections : (c : Choices) (first : Reader) (old : List ℕ) → SectionsDone c first first old old
no_sections c first old =
    record {
      n = 0;
      consumed = [];
      other = [];
      takes = takes_none first;
      appended = sym (append-nil old);
      each = none_become (CompactsSection c);
      sections = [];
      occur = refl;
    }

pub next_section_done : (c : Choices) (first mid next : Reader) (old m new : List ℕ) (s : SectionParts) → SectionsDone c first mid old m →
    (h : HasRead (EncodesSection mid.features) s mid next) → end_of s.contents ≡ offset_of next → AppendsSection c h.0 m new → SectionsDone c first next old new
next_section_done c first mid next old m new s d h place (other, appended, done) =
    record {
      n = suc d.n;
      consumed = d.consumed ++ h.0;
      other = d.other ++ other;
      takes = takes_then first mid next d.consumed h.0 d.takes h.2;
      appended = appended ∙ ap (λ z. z ++ other) d.appended ∙ append_assoc old d.other other;
      each = one_more_becomes (CompactsSection c) d.n d.consumed d.other h.0 other d.each done;
      sections = d.sections ++ s ∷ [];
      occur = one_more first d.sections mid next s d.occur h place;
    }

-- The preamble and all sections are done.
pub module_done : (c : Choices) (bytes : List ℕ) (first next : Reader) (mid new : List ℕ) (b : BeginsModule (reader_of all_features 0 bytes) first) → mid ≡ b.begins.0 →
    SectionsDone c first next mid new → rest next ≡ [] → Compacts c bytes new
module_done c bytes first next mid new b m d end =
    record {
      preamble = b.begins.0;
      is_preamble = (b.preamble, b.begins.1, b.is);
      count = d.n;
      sections = d.consumed;
      parts = b.begins.2.parts ∙ ap (λ z. b.begins.0 ++ z) (d.takes.parts ∙ ap (λ z. d.consumed ++ z) end ∙ append-nil d.consumed);
      sections_again = d.other;
      parts_again = d.appended ∙ ap (λ z. z ++ d.other) m;
      each = d.each;
    }

pub module_no_longer : (c : Choices) (old new : List ℕ) → Compacts c old new → length new ≤ length old
module_no_longer c old new m =
    let t = parts_no_longer (CompactsSection c) (section_no_longer c) m.count m.sections m.sections_again m.each in
    let l1 = ap length m.parts ∙ length-append m.preamble m.sections in
    let l2 = ap length m.parts_again ∙ length-append m.preamble m.sections_again in
    omega (arith, t, l1, l2)

-- The bytes before the second reader are those that were read.
pub preamble_read : (bytes text : List ℕ) (first : Reader) → Takes (reader_of all_features 0 bytes) first text → first.position ≡ length text
preamble_read bytes text first takes = let e = ap (λ (r : Reader). r.position) takes.moved in omega (arith, e)

-- ---- what a call read

-- A compacted code section is below 4 GiB, since the code section is.
pub code_below : (f : WasmFeatures) (text code shown : List ℕ) (read : Reader) (s : SectionParts) → EncodesSection f text s → read ≡ s.contents →
    CompactsCode read.features (rest read) code → shown ≡ code → length shown < 2 ^ 32
code_below f text code shown read s e same done is =
    let le = code_no_longer read.features (rest read) code done in
    let lt = section_below f text s e in
    let l1 = ap (λ (r : Reader). length (rest r)) same in
    let l2 = ap length is in
    omega (arith, le, lt, l1, l2)

pub code_replaced : (c : Choices) (text code shown old mid new : List ℕ) (read : Reader) (s : SectionParts) → EncodesSection all_features text s → s.id ≡ 10 →
    read ≡ s.contents → CompactsCode read.features (rest read) code → mid ≡ old ++ 10 ∷ [] → shown ≡ code → Appends EncodesBlock shown mid new → AppendsSection c text old new
code_replaced c text code shown old mid new read s e id same done m is a =
    code_appended c text code old mid new s e id (subst (λ r. CompactsCode r.features (rest r) code) same done) m (subst (λ z. Appends EncodesBlock z mid new) is a)

pub opened : (f : WasmFeatures) (bytes : List ℕ) (first : Reader) → f ≡ all_features → BeginsModule (reader_of f 0 bytes) first → BeginsModule (reader_of all_features 0 bytes) first
opened f bytes first e b = subst (λ g. BeginsModule (reader_of g 0 bytes) first) e b

-- The bytes before a read, without those after it, are those that were read.
slice_read : (mid next : Reader) (text before : List ℕ) (left : ℕ) → Takes mid next text → before ≡ rest mid → left ≡ length (rest next) → take (length before - left) before ≡ text
slice_read mid next text before left takes is_before is_left =
    let whole : before ≡ text ++ rest next = is_before ∙ takes.parts in
    let l = ap length whole ∙ length-append text (rest next) in
    let size : length text ≡ length before - left = omega (arith, l, is_left) in
    ap (λ z. take (length before - left) z) whole ∙ take_at text (rest next) (length before - left) size

pub section_slice : (bytes : List ℕ) (first mid next : Reader) (consumed before : List ℕ) (left : ℕ) (s : SectionParts) → BeginsModule (reader_of all_features 0 bytes) first →
    Takes first mid consumed → HasRead (EncodesSection mid.features) s mid next → before ≡ rest mid → left ≡ length (rest next) →
    EncodesSection all_features (take (length before - left) before) s
section_slice bytes first mid next consumed before left s b takes h is_before is_left =
    let features : mid.features ≡ all_features = ap (λ (r : Reader). r.features) takes.moved ∙ ap (λ (r : Reader). r.features) b.begins.2.moved in
    let same = slice_read mid next h.0 before left h.2 is_before is_left in
    subst (λ z. EncodesSection all_features z s) (sym same) (subst (λ f. EncodesSection f h.0 s) features h.1)

pub next_section_read : (c : Choices) (first mid next : Reader) (old m new before : List ℕ) (left : ℕ) (s : SectionParts) → SectionsDone c first mid old m →
    HasRead (EncodesSection mid.features) s mid next → end_of s.contents ≡ offset_of next → before ≡ rest mid → left ≡ length (rest next) →
    AppendsSection c (take (length before - left) before) m new → SectionsDone c first next old new
next_section_read c first mid next old m new before left s d h place is_before is_left a =
    next_section_done c first mid next old m new s d h place (subst (λ z. AppendsSection c z m new) (slice_read mid next h.0 before left h.2 is_before is_left) a)

-- The bytes before the first section are the preamble.
pub preamble_taken : (bytes mid : List ℕ) (first : Reader) (b : BeginsModule (reader_of all_features 0 bytes) first) → mid ≡ take first.position bytes → mid ≡ b.begins.0
preamble_taken bytes mid first b is =
    let size = preamble_read bytes b.begins.0 first b.begins.2 in
    is ∙ ap (λ z. take first.position z) b.begins.2.parts ∙ take_at b.begins.0 (rest first) first.position (sym size)
