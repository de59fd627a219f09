use Rattle.std.proofs.Common.{◌≡◌, ℕ, List, [], ◌∷◌, sym, subst, ap, ◌∙◌, inl, inr}
use Rattle.std.specs.Int.{w32}
use Rattle.wasm_below.specs.declared.error.Error.{Error}
use Rattle.wasm_below.specs.declared.message.Message.{Message}
use Rattle.wasm_below.specs.Fault.{DeterminesRefusal}
use Rattle.wasm_below.specs.Number.{EncodesUnsigned, EncodesFixed}
use Rattle.wasm_below.specs.Sequence.{PrefixCode}
use Rattle.wasm_below.specs.Source.{Reader, rest, IsRefusal}
use Rattle.wasm_module.specs.Module.{EncodesPreamble, PreambleFault, SectionParts, EncodesSection, SectionFault}
use Rattle.wasm_module.specs.declared.preamble.PreambleKind.{PreambleKind}
use Rattle.wasm_module.specs.declared.preamble.PreambleKind.TheVariants as kind
use Rattle.wasm_module.specs.Refusals.{BeginsAs, SectionsFault}
use Rattle.wasm_module.specs.Sections.{SectionsOccur, BeginsModule, IsModule}
use Rattle.wasm_module.specs.declared.fault.ModuleFault.{ModuleFault}
use Rattle.wasm_module.specs.declared.fault.ModuleFault.TheVariants as fault
use Rattle.wasm_module.proofs.NamedFunctions.{not_both}
use Rattle.wasm_module.proofs.Unique.{one_step, one_preamble, begins_as, no_preamble, no_module}

abbrev error_by : Message → ℕ → Error
error_by message offset = record { message = message; offset = offset }

pub one_error : (e f : Error) → (e.message ≡ f.message) × (e.offset ≡ f.offset) → e ≡ f
one_error e f same = ap (λ m. error_by m e.offset) same.0 ∙ ap (λ o. error_by f.message o) same.1

module _ (numbers : PrefixCode (EncodesUnsigned 32)) where
  one_next : (r : Reader) (ss ts : List SectionParts) (a b : Reader) (e f : Error) → SectionsOccur r ss a → SectionsOccur r ts b →
      IsRefusal (EncodesSection a.features) e a → IsRefusal (EncodesSection b.features) f b → a ≡ b
  one_next r [] [] a b e f p q x y = p ∙ sym q
  one_next r [] (t ∷ ts) a b e f p (next, reads, placed, others) x y =
      absurd (not_both (EncodesSection r.features) e r next t (subst (λ (z : Reader). IsRefusal (EncodesSection z.features) e z) p x) reads)
  one_next r (s ∷ ss) [] a b e f (next, reads, placed, others) q x y =
      absurd (not_both (EncodesSection r.features) f r next s (subst (λ (z : Reader). IsRefusal (EncodesSection z.features) f z) q y) reads)
  one_next r (s ∷ ss) (t ∷ ts) a b e f (n, reads, placed, others) (n', reads', placed', others') x y =
      one_next n ss ts a b e f others (subst (λ z. SectionsOccur z ts b) (sym (one_step numbers r n n' s t reads reads').0) others') x y

module _ (numbers : PrefixCode (EncodesUnsigned 32)) (fixed : PrefixCode (EncodesFixed w32)) where
  no_beginning : (said : PreambleKind) (whole after : Reader) → BeginsAs said whole → (said ≡ kind.Module → ⊥) → BeginsModule whole after → ⊥
  no_beginning said whole after (p, mid, reads, is) other begins =
      other (sym is ∙ (begins_as fixed whole mid after p reads begins).1)

  pub fault_or_module : (whole : Reader) (f : ModuleFault) (sections : List SectionParts) → SectionsFault f whole → IsModule whole sections → ⊥
  fault_or_module whole (fault.NotModule said) sections (begins, other) h = no_beginning said whole h.after begins other h.begins
  fault_or_module whole (fault.Refused e) sections (inl p) h = no_preamble whole h.after e p.0 h.begins
  fault_or_module whole (fault.Refused e) sections (inr (next, k, p)) h =
      no_module numbers fixed whole k.after next k.sections e k.begins k.occur k.more p.0 sections h
  fault_or_module whole (fault.ImportKind byte offset) sections p h = p
  fault_or_module whole (fault.TypeKind byte offset) sections p h = p
  fault_or_module whole fault.Memory sections p h = p

  other_or_refused : (P : Type 0) (said : PreambleKind) (e : Error) (whole : Reader) → SectionsFault (fault.NotModule said) whole →
      SectionsFault (fault.Refused e) whole → P
  other_or_refused P said e whole ((p, mid, reads, is), other) (inl q) = absurd (not_both EncodesPreamble e whole mid p q.0 reads)
  other_or_refused P said e whole (begins, other) (inr (next, k, q)) = absurd (no_beginning said whole k.after begins other k.begins)

  same_kind : (said reported : PreambleKind) (whole : Reader) → BeginsAs said whole → BeginsAs reported whole → said ≡ reported
  same_kind said reported whole (p, mid, (a, is, takes), says) (q, next, (b, is', takes'), reports) =
      sym says ∙ (one_preamble fixed a b (rest mid) (rest next) p q is is' (sym takes.parts ∙ takes'.parts)).1 ∙ reports

  module _ (preambles : DeterminesRefusal PreambleFault) (sections : DeterminesRefusal SectionFault) where
    same_refusal : (e f : Error) (whole : Reader) → SectionsFault (fault.Refused e) whole → SectionsFault (fault.Refused f) whole → e ≡ f
    same_refusal e f whole (inl p) (inl q) = one_error e f (preambles e.message f.message whole e.offset f.offset p.1 q.1)
    same_refusal e f whole (inl p) (inr (m, k, q)) = absurd (no_preamble whole k.after e p.0 k.begins)
    same_refusal e f whole (inr (n, h, p)) (inl q) = absurd (no_preamble whole h.after f q.0 h.begins)
    same_refusal e f whole (inr (n, h, p)) (inr (m, k, q)) =
        let moved = (begins_as fixed whole h.after k.after h.begins.preamble h.begins.begins k.begins).0 in
        let occur = subst (λ z. SectionsOccur z k.sections m) (sym moved) k.occur in
        let same = one_next numbers h.after h.sections k.sections n m e f h.occur occur p.0 q.0 in
        one_error e f (sections e.message f.message m e.offset f.offset (subst (λ z. SectionFault e.message z e.offset) same p.1) q.1)

    of_other : (said : PreambleKind) (b : ModuleFault) (whole : Reader) → SectionsFault (fault.NotModule said) whole → SectionsFault b whole →
        fault.NotModule said ≡ b
    of_other said (fault.NotModule reported) whole p q = ap (λ k. fault.NotModule k) (same_kind said reported whole p.0 q.0)
    of_other said (fault.Refused e) whole p q = other_or_refused (fault.NotModule said ≡ fault.Refused e) said e whole p q
    of_other said (fault.ImportKind byte offset) whole p q = absurd q
    of_other said (fault.TypeKind byte offset) whole p q = absurd q
    of_other said fault.Memory whole p q = absurd q

    of_refused : (e : Error) (b : ModuleFault) (whole : Reader) → SectionsFault (fault.Refused e) whole → SectionsFault b whole → fault.Refused e ≡ b
    of_refused e (fault.NotModule reported) whole p q = other_or_refused (fault.Refused e ≡ fault.NotModule reported) reported e whole q p
    of_refused e (fault.Refused f) whole p q = ap (λ x. fault.Refused x) (same_refusal e f whole p q)
    of_refused e (fault.ImportKind byte offset) whole p q = absurd q
    of_refused e (fault.TypeKind byte offset) whole p q = absurd q
    of_refused e fault.Memory whole p q = absurd q

    pub one_fault : (whole : Reader) (a b : ModuleFault) → SectionsFault a whole → SectionsFault b whole → a ≡ b
    one_fault whole (fault.NotModule said) b p q = of_other said b whole p q
    one_fault whole (fault.Refused e) b p q = of_refused e b whole p q
    one_fault whole (fault.ImportKind byte offset) b p q = absurd p
    one_fault whole (fault.TypeKind byte offset) b p q = absurd p
    one_fault whole fault.Memory b p q = absurd p
