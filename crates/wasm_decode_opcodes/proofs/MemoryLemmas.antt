-- The operators that own a list, for which reading may fail to allocate.
use Rattle.std.proofs.Common.{◌≡◌, ℕ, ◌+◌, ◌<◌, inl, inr, List, [], ◌∷◌, ◌++◌, None, Err, refl, sym, ap, ◌∙◌, arith}
use Rattle.wasm_below.specs.declared.error.Error.{Error}
use Rattle.wasm_below.specs.Source.{Reader, rest, at_position, SomePrefix, HasRead}
use Rattle.wasm_grammar.specs.declared.frame_kind.FrameKind.{FrameKind}
use Rattle.wasm_instr.specs.declared.operator.Operator.{Operator}
use Rattle.wasm_instr.specs.declared.operator.Operator.TheVariants as operator
use Rattle.wasm_instr.specs.Encoding.{EncodesOpcode}
use Rattle.wasm_imm.specs.Immediate.{Kind, EncodesImmediates}
use Rattle.wasm_instr.specs.Kinds.{HoldsList}
use Rattle.wasm_instr.specs.Row.{prefix_of, immediates_of}
use Rattle.wasm_decode_opcodes.specs.Allowed.{EncodesAllowed}
use Rattle.wasm_decode_opcodes.specs.Decoding.{Decodes, IsAfterCode}
use Rattle.wasm_decode_opcodes.specs.Entry.{free, kinds_of, entry_kinds}
use Rattle.wasm_decode_opcodes.specs.Entries.{entry_at}
use Rattle.wasm_decode_opcodes.specs.OperatorFaults.{OperatorFault}
use Rattle.wasm_decode_opcodes.specs.Owners.{OwnList}
use Rattle.wasm_decode_opcodes.specs.Refused.{LeadsList, MayAllocate, EncodesToCount, EncodesListStart, KindsMayAllocate}
use Rattle.wasm_decode_opcodes.proofs.KindLemmas.{RefusesKinds}
use Rattle.wasm_decode_opcodes.proofs.OperatorLemmas.{IsCode, own, kinds_of_code, refused_operator, free_fault}

-- the opcode, and its immediates up to a count
list_start : (code : ℕ) (ks : List Kind) (old mid : Reader) (head : List ℕ) → entry_at None code ≡ free ks → head ≡ code ∷ [] → rest old ≡ head ++ rest mid →
    SomePrefix (EncodesToCount ks) (rest mid) → SomePrefix EncodesListStart (rest old)
list_start code ks old mid head is h parts (text, more, count, p, eq) =
    (code ∷ text, more, count, (code, ks, text, is, refl, p), parts ∙ ap (λ z. z ++ rest mid) h ∙ ap (λ z. code ∷ z) eq)

-- no operator that owns no list begins there
needs_memory : (k : FrameKind) (code start : ℕ) (ks : List Kind) (mid : Reader) → IsCode None code → entry_at None code ≡ free ks → LeadsList code →
    IsAfterCode start None code mid → SomePrefix (EncodesToCount ks) (rest mid) →
    ((op : Operator) (text left : List ℕ) → prefix_of op ≡ None → kinds_of op ≡ ks → (HoldsList op → ⊥) → EncodesImmediates mid.features text (immediates_of op) →
    rest mid ≡ text ++ left → ⊥) → MayAllocate (EncodesAllowed mid.features k) (at_position mid start)
needs_memory k code start ks mid c is leads b sized none = go b.opcode
  where
    go : HasRead (EncodesOpcode None) code (at_position mid start) mid → MayAllocate (EncodesAllowed mid.features k) (at_position mid start)
    go (head, h, t) =
        record {
          leads = (code, leads, (rest mid, t.parts ∙ ap (λ z. z ++ rest mid) h));
          sized = list_start code ks (at_position mid start) mid head is h t.parts sized;
          owns = λ text left op (s, without) eq.
              (
              let o = own mid.features None code head (rest mid) text left op c h s.0 (sym t.parts ∙ eq) in
              none op o.after left o.same_prefix (kinds_of_code op None code ks o.same_prefix o.same_code (ap entry_kinds is)) without o.immediates o.goes_on
              );
        }

-- an operator whose immediates own a list owns it
pub holds_list : (op : Operator) → prefix_of op ≡ None → OwnList (immediates_of op) → HoldsList op
holds_list (operator.TypedSelectMulti tys) p own = tt
holds_list (operator.TryTable t) p own = tt
holds_list (operator.Resume i t) p own = tt
holds_list (operator.ResumeThrow i j t) p own = tt
holds_list (operator.ResumeThrowRef i t) p own = tt
holds_list (operator.Gc op) p own = absurd (cc p)
holds_list (operator.Misc op) p own = absurd (cc p)
holds_list (operator.Simd op) p own = absurd (cc p)
holds_list (operator.Atomic op) p own = absurd (cc p)
holds_list op p own = absurd own

needs_owner : (k : FrameKind) (code start : ℕ) (ks : List Kind) (mid : Reader) → IsCode None code → entry_at None code ≡ free ks → LeadsList code →
    IsAfterCode start None code mid → KindsMayAllocate ks mid → MayAllocate (EncodesAllowed mid.features k) (at_position mid start)
needs_owner k code start ks mid c is leads b h =
    needs_memory k code start ks mid c is leads b h.sized (λ op text left p q without i eq. h.owns text left (immediates_of op) ((q, i), λ own. without (holds_list op p own)) eq)

pub leads_small : (code : ℕ) → LeadsList code → code < 256
leads_small code (inl e) = omega (arith, e)
leads_small code (inr (inl e)) = omega (arith, e)
leads_small code (inr (inr (inl e))) = omega (arith, e)
leads_small code (inr (inr (inr (inl e)))) = omega (arith, e)
leads_small code (inr (inr (inr (inr e)))) = omega (arith, e)

-- reading the immediates fails, after an opcode whose operators may own a list
pub refuses_list : {V A : Type 0} (visits : V → Operator → A → V → Type 0) (k : FrameKind) (code : ℕ) (ks : List Kind) (start : ℕ) (e : Error) (mid new : Reader) (v : V) →
    IsCode None code → entry_at None code ≡ free ks → LeadsList code → IsAfterCode start None code mid → RefusesKinds ks (KindsMayAllocate ks) start e mid new →
    Decodes visits (EncodesAllowed mid.features k) (OperatorFault mid.features k) (Err e) (at_position mid start) new v v
refuses_list visits k code ks start e mid new v c is leads b (went, h) = (
  refl,
  (
    went,
    refused_operator k None code ks (KindsMayAllocate ks) start e mid c (ap entry_kinds is) b h (needs_owner k code start ks mid c is leads b)
        (free_fault k None code ks start e mid c is b h.fault),
  ),
)
