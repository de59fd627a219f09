-- Immediates that own a list.
use Rattle.std.proofs.Common.{◌≡◌, ℕ, List, [], ◌∷◌, ◌++◌, sym, subst, ap, ◌∙◌, append_assoc}
use Rattle.wasm_below.specs.declared.features.WasmFeatures.{WasmFeatures}
use Rattle.wasm_below.specs.Number.{EncodesUnsigned}
use Rattle.wasm_below.specs.Source.{Reader, rest, NoPrefix, HasRead}
use Rattle.wasm_below.proofs.TakesLemmas.{same_rest}
use Rattle.wasm_imm.specs.declared.select.Select.TheVariants as select
use Rattle.wasm_imm.specs.HandlerTables.{EncodesOne}
use Rattle.wasm_imm.specs.Immediate.{Immediate, Kind, unsigned_32, select_types, try_clauses, resume_clauses, is_unsigned_32, is_select_types, is_try_clauses, is_resume_clauses}
use Rattle.wasm_imm.proofs.ListRefusals.{some_then}
use Rattle.wasm_imm.proofs.ImmediatePrefixCodes.{immediates_prefix_code}
use Rattle.wasm_decode_opcodes.specs.Kinds.{EncodesKinds}
use Rattle.wasm_decode_opcodes.specs.Owners.{OwnList, EncodesWithoutList}
use Rattle.wasm_decode_opcodes.specs.Refused.{EncodesToCount, KindsMayAllocate}
use Rattle.wasm_decode_opcodes.proofs.KindLemmas.{last_read, moved_features, of_unsigned}
use Rattle.wasm_decode_opcodes.proofs.SequenceLemmas.{kinds_split}

pub tries_own : (f : WasmFeatures) (bytes : List ℕ) → NoPrefix (EncodesWithoutList f (is_try_clauses ∷ [])) bytes
tries_own f bytes text left [] ((e, i), without) eq = absurd (cc e)
tries_own f bytes text left (try_clauses t ∷ is) ((e, i), without) eq = absurd (without tt)
tries_own f bytes text left (i ∷ is) ((e, _), without) eq = absurd (cc e)

pub resumes_own : (f : WasmFeatures) (bytes : List ℕ) → NoPrefix (EncodesWithoutList f (is_resume_clauses ∷ [])) bytes
resumes_own f bytes text left [] ((e, i), without) eq = absurd (cc e)
resumes_own f bytes text left (resume_clauses t ∷ is) ((e, i), without) eq = absurd (without tt)
resumes_own f bytes text left (i ∷ is) ((e, _), without) eq = absurd (cc e)

pub selects_own : (f : WasmFeatures) (bytes : List ℕ) → NoPrefix EncodesOne bytes → NoPrefix (EncodesWithoutList f (is_select_types ∷ [])) bytes
selects_own f bytes lone text left [] ((e, i), without) eq = absurd (cc e)
selects_own f bytes lone text left (select_types (select.Multi tys) ∷ is) (p, without) eq = absurd (without tt)
selects_own f bytes lone text left (select_types (select.One ty) ∷ is) ((e, (all, none, parts, (first, more, n, counted, size, members), _)), without) eq =
    let tail = more ++ none in
    let whole : text ≡ first ++ tail = parts ∙ ap (λ z. z ++ none) counted ∙ append_assoc first more none in
    lone first (tail ++ left) n (size.0, sym members.0) (eq ∙ ap (λ z. z ++ left) whole ∙ append_assoc first tail left)
selects_own f bytes lone text left (i ∷ is) ((e, _), without) eq = absurd (cc e)

own_after : (is js : List Immediate) → OwnList js → OwnList (is ++ js)
own_after [] js h = h
own_after (select_types (select.Multi tys) ∷ is) js h = tt
own_after (select_types (select.One ty) ∷ is) js h = own_after is js h
own_after (try_clauses t ∷ is) js h = tt
own_after (resume_clauses t ∷ is) js h = tt
own_after (i ∷ is) js h = own_after is js h

-- two parts of which the second must own a list
second_owns : (ks ls : List Kind) (is : List Immediate) (old mid : Reader) → HasRead (EncodesKinds old.features ks) is old mid →
    NoPrefix (EncodesWithoutList mid.features ls) (rest mid) → NoPrefix (EncodesWithoutList old.features (ks ++ ls)) (rest old)
second_owns ks ls is old mid (text, p, t) none whole left js (h, without) eq =
    let s = kinds_split old.features ks ls whole js h in
    let same : text ++ rest mid ≡ s.before ++ (s.after ++ left) = sym t.parts ∙ eq ∙ ap (λ z. z ++ left) s.parts ∙ append_assoc s.before s.after left in
    let c = immediates_prefix_code old.features is s.first text s.before (rest mid) (s.after ++ left) (p.0 ∙ sym s.is_first.0) p.1 s.is_first.1 same in
    none s.after left s.second
    (subst (λ z. EncodesKinds z ls s.after s.second) (sym (moved_features old mid text t)) s.is_second, λ own. without (subst OwnList (sym s.both) (own_after s.first s.second own)))
    (same_rest text s.before (rest mid) (s.after ++ left) c.1 same)

-- an index before immediates that may allocate
pub index_before : (ks : List Kind) (old mid : Reader) (n : ℕ) → HasRead (EncodesUnsigned 32) n old mid → KindsMayAllocate ks mid → KindsMayAllocate (is_unsigned_32 ∷ ks) old
index_before ks old mid n read h =
    record {
      sized = some_then (EncodesUnsigned 32) (λ index. EncodesToCount ks) old mid n read h.sized;
      owns = second_owns (is_unsigned_32 ∷ []) ks (unsigned_32 n ∷ []) old mid (last_read (EncodesUnsigned 32) is_unsigned_32 unsigned_32 old mid n (of_unsigned old.features) read) h.owns;
    }
