-- Which custom sections are kept, dropped or refused.
use Rattle.std.proofs.Common.{◌≡◌, ℕ, inl, inr, List, sym, ap, subst, ◌∙◌, true, false}
use Rattle.wasm_below.specs.Source.{Reader, rest, HasRead, offset_of}
use Rattle.wasm_module.specs.Names.{EncodesName}
use Rattle.wasm_compaction.specs.declared.custom.Choices.{Choices}
use Rattle.wasm_compaction.specs.declared.custom.CustomKind.{CustomKind}
use Rattle.wasm_compaction.specs.declared.custom.CustomKind.TheVariants as custom
use Rattle.wasm_compaction.specs.Compaction.{IsNamed, IsKept, IsDropped}
use Rattle.wasm_compaction.specs.Custom.{custom_kind, is_listed}
use Rattle.wasm_compaction.specs.Faults.{RefusesName}

pub named : (contents after : Reader) (name : List ℕ) → HasRead EncodesName name contents after → IsNamed (rest contents) name
named contents after name (text, e, takes) = (text, rest after, takes.parts, e)

not_kept : (c : Choices) (name : List ℕ) (k : CustomKind) → custom_kind name ≡ k → (k ≡ custom.Independent → ⊥) → (k ≡ custom.Other → is_listed c.keep.now name ≡ true → ⊥) → IsKept c name → ⊥
not_kept c name k e one other (inl h) = one (sym e ∙ h)
not_kept c name k e one other (inr (h, l)) = other (sym e ∙ h) l

not_dropped : (c : Choices) (name : List ℕ) (k : CustomKind) → custom_kind name ≡ k → (k ≡ custom.Offsets → c.drop_offsets ≡ true → ⊥) → IsDropped c name → ⊥
not_dropped c name k e none (h, d) = none (sym e ∙ h) d

pub offsets_refused : (c : Choices) (offset : ℕ) (contents : Reader) (name : List ℕ) → IsNamed (rest contents) name → custom_kind name ≡ custom.Offsets → c.drop_offsets ≡ false →
    offset ≡ offset_of contents → RefusesName c custom.Offsets offset contents
offsets_refused c offset contents name n e off at =
    record {
      name = name;
      named = n;
      is_kind = sym e;
      kept = not_kept c name custom.Offsets e (λ h. cc h) (λ h l. cc h);
      dropped = not_dropped c name custom.Offsets e (λ h d. cc (sym off ∙ d));
      is_offset = at;
    }

pub other_refused : (c : Choices) (offset : ℕ) (contents : Reader) (name : List ℕ) → IsNamed (rest contents) name → custom_kind name ≡ custom.Other → is_listed c.keep.now name ≡ false →
    offset ≡ offset_of contents → RefusesName c custom.Other offset contents
other_refused c offset contents name n e off at =
    record {
      name = name;
      named = n;
      is_kind = sym e;
      kept = not_kept c name custom.Other e (λ h. cc h) (λ h l. cc (sym off ∙ l));
      dropped = not_dropped c name custom.Other e (λ h d. cc h);
      is_offset = at;
    }

pub relocations_refused : (c : Choices) (offset : ℕ) (contents : Reader) (name : List ℕ) → IsNamed (rest contents) name → custom_kind name ≡ custom.Relocations →
    offset ≡ offset_of contents → RefusesName c custom.Relocations offset contents
relocations_refused c offset contents name n e at =
    record {
      name = name;
      named = n;
      is_kind = sym e;
      kept = not_kept c name custom.Relocations e (λ h. cc h) (λ h l. cc h);
      dropped = not_dropped c name custom.Relocations e (λ h d. cc h);
      is_offset = at;
    }

-- ---- what was read

pub named_in : (contents read after : Reader) (name : List ℕ) → read ≡ contents → HasRead EncodesName name read after → IsNamed (rest contents) name
named_in contents read after name same h = named contents after name (subst (λ r. HasRead EncodesName name r after) same h)

pub has_kind : (name shown : List ℕ) (found k : CustomKind) → shown ≡ name → found ≡ custom_kind shown → found ≡ k → custom_kind name ≡ k
has_kind name shown found k same e is = ap custom_kind (sym same) ∙ sym e ∙ is
