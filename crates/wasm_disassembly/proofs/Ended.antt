use Rattle.std.proofs.Common.{◌≡◌, ◌+◌, true, false, List, length, Option, Some, Result, Err, sym, subst, ap, ◌∙◌, arith, inl, inr}
use Rattle.wasm_operators.specs.below.declared.error.Error.{Error}
use Rattle.wasm_operators.specs.below.FromReader.{EncodesReader, ReaderFault}
use Rattle.wasm_operators.specs.below.Number.{EncodesUnsigned}
use Rattle.wasm_operators.specs.below.Source.{Reader, offset_of, end_of, HasRead}
use Rattle.wasm_operators.specs.Section.{Section, SectionItems, items_of, IsDone, StepsSection}
use Rattle.wasm_disassembly.specs.Listing.{BodiesOccur, IsCode, StopsCode}

abbrev Steps : Option (Result Reader Error) → SectionItems → SectionItems → Type 0
Steps item old new = StepsSection (EncodesReader old.reader.features) ReaderFault (λ r. ⊥) (λ o b n. end_of b ≡ offset_of n) item old new

-- The end after the last body.
pub all_read : (contents : Reader) (s : Section) (begun left : SectionItems) (bodies : List Reader) → HasRead (EncodesUnsigned 32) s.count contents s.reader →
    begun ≡ items_of s → BodiesOccur begun.reader bodies left.reader → length bodies + left.remaining ≡ begun.remaining → left.refused ≡ false → IsDone left →
    IsCode contents bodies
all_read contents s begun left bodies count gives occur sum open_still (inl refused) = absurd (let h : true ≡ false = sym refused ∙ open_still in cc)
all_read contents s begun left bodies count gives occur sum open_still (inr (none, end)) =
    let all : begun.remaining ≡ s.count = ap (λ (i : SectionItems). i.remaining) gives in
    let as_many : s.count ≡ length bodies = omega (arith, all, sum, none) in
    record {
      first = s.reader;
      count = subst (λ n. HasRead (EncodesUnsigned 32) n contents s.reader) as_many count;
      end = left.reader;
      occur = subst (λ (i : SectionItems). BodiesOccur i.reader bodies left.reader) gives occur;
      all = end;
    }

-- The end at an error.
pub stopped_after : (contents : Reader) (s : Section) (begun left new : SectionItems) (bodies : List Reader) (e : Error) (item : Result Reader Error) →
    HasRead (EncodesUnsigned 32) s.count contents s.reader → begun ≡ items_of s → BodiesOccur begun.reader bodies left.reader →
    length bodies + left.remaining ≡ begun.remaining → item ≡ Err e → Steps (Some item) left new → StopsCode e contents bodies
stopped_after contents s begun left new bodies e item count gives occur sum is steps =
    let all : begun.remaining ≡ s.count = ap (λ (i : SectionItems). i.remaining) gives in
    let as_many : s.count ≡ length bodies + left.remaining = omega (arith, all, sum) in
    let stopped = subst (λ (x : Result Reader Error). Steps (Some x) left new) is steps in
    record {
      first = s.reader;
      remaining = left.remaining;
      count = subst (λ n. HasRead (EncodesUnsigned 32) n contents s.reader) as_many count;
      end = left.reader;
      occur = subst (λ (i : SectionItems). BodiesOccur i.reader bodies left.reader) gives occur;
      stops = stopped.2;
    }
