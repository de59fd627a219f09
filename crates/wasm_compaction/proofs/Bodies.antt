-- The bodies of a code section, one after another.
use Rattle.std.proofs.Common.{◌≡◌, ℕ, suc, ◌+◌, ◌<◌, ◌≤◌, ◌^◌, List, [], ◌∷◌, ◌++◌, length, refl, sym, ap, subst, ◌∙◌, append_assoc, append-nil, arith, length-append}
use Rattle.wasm_below.specs.declared.features.WasmFeatures.{WasmFeatures}
use Rattle.wasm_below.specs.FromReader.{EncodesReader}
use Rattle.wasm_below.specs.Number.{EncodesUnsigned}
use Rattle.wasm_below.specs.Source.{Reader, rest, Takes, HasRead, offset_of, end_of}
use Rattle.wasm_below.proofs.TakesLemmas.{takes_then, takes_none}
use Rattle.wasm_module.specs.Bodies.{BodiesOccur}
use Rattle.wasm_encode_numbers.specs.Appended.{Appends}
use Rattle.wasm_compaction.specs.Blocks.{EncodesBlock, InSequence}
use Rattle.wasm_compaction.specs.Compaction.{CompactsFunction, CompactsBody, CompactsCode}
use Rattle.wasm_compaction.specs.Faults.{IsAfterBodies}
use Rattle.wasm_compaction.specs.Reading.{ReadsBody}
use Rattle.wasm_compaction.proofs.Functions.{function_no_longer}
use Rattle.wasm_compaction.proofs.Sizes.{block_below, block_no_longer, is_shortest, none_become, one_more_becomes, parts_no_longer}

-- ---- one body

-- What `read_reader` reads is a block.
-- The bytes of a reader after `k` bytes.
abbrev after : Reader → ℕ → List ℕ
after part k = rest (record { features = part.features; start = part.start; buffer = part.buffer; position = k })

pub part_block : (r s part : Reader) (h : HasRead (EncodesReader r.features) part r s) → EncodesBlock h.0 (rest part)
part_block r s part (text, (size, bytes, n, parts, p, (f, buffer, start, len)), takes) =
    let same : bytes ≡ rest part = sym buffer ∙ ap (after part) (sym start) in
    (size, parts ∙ ap (λ z. size ++ z) same, subst (EncodesUnsigned 32 size) (sym len ∙ ap length same) p)

pub part_features : (r s part : Reader) → HasRead (EncodesReader r.features) part r s → part.features ≡ r.features
part_features r s part (text, (size, bytes, n, parts, p, (f, buffer, start, len)), takes) = f

pub part_below : (r s part : Reader) → HasRead (EncodesReader r.features) part r s → length (rest part) < 2 ^ 32
part_below r s part h = block_below h.0 (rest part) (part_block r s part h)

-- A body that was read and one that was appended with its size.
pub body_read : (r s part : Reader) (body old new : List ℕ) → HasRead (EncodesReader r.features) part r s → end_of part ≡ offset_of s →
    CompactsFunction part.features (rest part) body → Appends EncodesBlock body old new → ReadsBody r s old new
body_read r s part body old new h place c a =
    record {
      part = part;
      reads = h;
      place = place;
      other = a.text;
      appended = a.appended;
      compacts = (
        rest part,
        body,
        part_block r s part h,
        is_shortest EncodesBlock body old new a,
        subst (λ f. CompactsFunction f (rest part) body) (part_features r s part h) c,
      );
    }

pub body_no_longer : (f : WasmFeatures) (old new : List ℕ) → CompactsBody f old new → length new ≤ length old
body_no_longer f old new (body, compacted, block, short, c) = block_no_longer old body new compacted block (function_no_longer f body compacted c) short

-- ---- several bodies

-- `n` bodies after `first`, up to `next`, were read, and what is in their place was appended.
pub record BodiesDone (f : WasmFeatures) (n : ℕ) (first next : Reader) (old new : List ℕ) : Type 0 where
  pub consumed : List ℕ
  pub other : List ℕ
  pub takes : Takes first next consumed
  pub appended : new ≡ old ++ other
  pub each : InSequence (CompactsBody f) n consumed other
  pub bodies : List Reader
  pub occur : BodiesOccur first bodies next
  pub as_many : length bodies ≡ n

pub none_done : (f : WasmFeatures) (first : Reader) (old : List ℕ) → BodiesDone f 0 first first old old
none_done f first old =
    record {
      consumed = [];
      other = [];
      takes = takes_none first;
      appended = sym (append-nil old);
      each = none_become (CompactsBody f);
      bodies = [];
      occur = refl;
      as_many = refl;
    }

body_more : (r mid end : Reader) (bodies : List Reader) (b : Reader) → BodiesOccur r bodies mid → HasRead (EncodesReader mid.features) b mid end → end_of b ≡ offset_of end →
    BodiesOccur r (bodies ++ b ∷ []) end
body_more r mid end [] b same reads place = subst (λ r. BodiesOccur r (b ∷ []) end) same (end, reads, place, refl)
body_more r mid end (c ∷ bodies) b (next, first, at, occur) reads place = (next, first, at, body_more next mid end bodies b occur reads place)

pub one_more_done : (f : WasmFeatures) (n : ℕ) (first mid next : Reader) (old m new : List ℕ) → BodiesDone f n first mid old m → ReadsBody mid next m new → first.features ≡ f →
    BodiesDone f (n + 1) first next old new
one_more_done f n first mid next old m new d b is =
    let features : mid.features ≡ f = ap (λ (r : Reader). r.features) d.takes.moved ∙ is in
    let more : suc n ≡ n + 1 = omega arith in
    record {
      consumed = d.consumed ++ b.reads.0;
      other = d.other ++ b.other;
      takes = takes_then first mid next d.consumed b.reads.0 d.takes b.reads.2;
      appended = b.appended ∙ ap (λ z. z ++ b.other) d.appended ∙ append_assoc old d.other b.other;
      each = subst (λ k. InSequence (CompactsBody f) k (d.consumed ++ b.reads.0) (d.other ++ b.other)) more
          (one_more_becomes (CompactsBody f) n d.consumed d.other b.reads.0 b.other d.each (subst (λ g. CompactsBody g b.reads.0 b.other) features b.compacts));
      bodies = d.bodies ++ b.part ∷ [];
      occur = body_more first mid next d.bodies b.part d.occur b.reads b.place;
      as_many = let l = length-append d.bodies (b.part ∷ []) in let k = d.as_many in omega (arith, l, k);
    }

-- All bodies are done, and no data is left.
pub code_done : (count : ℕ) (contents first next : Reader) (old mid new : List ℕ) → old ≡ [] → HasRead (EncodesUnsigned 32) count contents first →
    Appends (EncodesUnsigned 32) count old mid → BodiesDone contents.features count first next mid new → rest next ≡ [] → CompactsCode contents.features (rest contents) new
code_done count contents first next old mid new empty counted a d end =
    record {
      count = count;
      number = counted.0;
      bodies = d.consumed;
      parts = counted.2.parts ∙ ap (λ z. counted.0 ++ z) (d.takes.parts ∙ ap (λ z. d.consumed ++ z) end ∙ append-nil d.consumed);
      counted = counted.1;
      number_again = a.text;
      bodies_again = d.other;
      parts_again = d.appended ∙ ap (λ z. z ++ d.other) (a.appended ∙ ap (λ z. z ++ a.text) empty);
      counted_again = is_shortest (EncodesUnsigned 32) count old mid a;
      each = d.each;
    }

pub after_bodies : (f : WasmFeatures) (count n : ℕ) (contents first next : Reader) (old new : List ℕ) → HasRead (EncodesUnsigned 32) count contents first →
    BodiesDone f n first next old new → IsAfterBodies count n contents next
after_bodies f count n contents first next old new counted d = record { first = first; counted = counted; bodies = d.bodies; occur = d.occur; as_many = d.as_many }

pub code_no_longer : (f : WasmFeatures) (old new : List ℕ) → CompactsCode f old new → length new ≤ length old
code_no_longer f old new c =
    let s = c.counted_again.shortest c.number c.counted in
    let t = parts_no_longer (CompactsBody f) (body_no_longer f) c.count c.bodies c.bodies_again c.each in
    let l1 = ap length c.parts ∙ length-append c.number c.bodies in
    let l2 = ap length c.parts_again ∙ length-append c.number_again c.bodies_again in
    omega (arith, s, t, l1, l2)
