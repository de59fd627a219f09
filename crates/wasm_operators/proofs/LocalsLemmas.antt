use Rattle.std.proofs.Common.{◌≡◌, ℕ, ◌+◌, ◌<◌, List, ◌++◌, length, Err, refl, sym, ap, ◌∙◌, append_assoc, arith, inl, inr}
use Rattle.wasm_below.specs.Ahead.{Fails}
use Rattle.wasm_below.specs.declared.error.Error.{Error}
use Rattle.wasm_below.specs.Number.{EncodesUnsigned}
use Rattle.wasm_below.specs.Sequence.{Then, PrefixCode}
use Rattle.wasm_below.specs.Source.{Reader, rest, at_position, Takes, IsRefusal, HasRead, Reads, U32Fault}
use Rattle.wasm_below.specs.TypeEncoding.{EncodesValType, ValTypeFault}
use Rattle.wasm_below.proofs.Ahead.{first_fails, second_fails, fails_as}
use Rattle.wasm_below.proofs.Blocks.{refused_now}
use Rattle.wasm_below.proofs.Sequences.{then_prefix_code, then_first, then_second}
use Rattle.wasm_below.proofs.Steps.{number_prefix_code, second_missing, missing_as}
use Rattle.wasm_below.proofs.TakesLemmas.{takes_then, same_rest}
use Rattle.wasm_below.proofs.TypePrefixCodes.{value_prefix_code}
use Rattle.wasm_imm.specs.Lists.{EncodesMany}
use Rattle.wasm_imm.proofs.Faults.{many_fault}
use Rattle.wasm_imm.proofs.ListLemmas.{PrefixAlone, many_prefix_code, many_refused}
use Rattle.wasm_operators.specs.Locals.{Declaration, EncodesDeclaration, DeclarationFault, EncodesLocals, RefusesLocals, IsPastLocals}

same_pair : (d e : Declaration) → d.0 ≡ e.0 → d.1 ≡ e.1 → d ≡ e
same_pair d e p q = λ i. (p i, q i)

pub declaration_prefix_code : PrefixCode EncodesDeclaration
declaration_prefix_code a b x y d e (a1, a2, ea, pa, qa) (b1, b2, eb, pb, qb) eq =
    let whole : a1 ++ (a2 ++ x) ≡ b1 ++ (b2 ++ y) = sym (append_assoc a1 a2 x) ∙ ap (λ z. z ++ x) (sym ea) ∙ eq ∙ ap (λ z. z ++ y) eb ∙ append_assoc b1 b2 y in
    let o = number_prefix_code 32 a1 b1 (a2 ++ x) (b2 ++ y) d.0 e.0 pa pb whole in
    let t = value_prefix_code a2 b2 x y d.1 e.1 qa qb (same_rest a1 b1 (a2 ++ x) (b2 ++ y) o.0 whole) in
    (ea ∙ cc (o.0, t.0) ∙ sym eb, same_pair d e o.1 t.1)

declaration_alone : PrefixAlone EncodesDeclaration
declaration_alone a b x y d e p q eq = (declaration_prefix_code a b x y d e p q eq).0

pub locals_prefix_code : PrefixCode EncodesLocals
locals_prefix_code =
    then_prefix_code (EncodesUnsigned 32) (EncodesMany EncodesDeclaration) (number_prefix_code 32)
    (many_prefix_code EncodesDeclaration declaration_prefix_code)

abbrev Typed : ℕ → List ℕ → Declaration → Type 0
Typed number ty d = (d.0 ≡ number) × EncodesValType ty d.1

split : (text : List ℕ) (d : Declaration) → EncodesDeclaration text d → (e : Declaration) × Then (EncodesUnsigned 32) Typed text e
split text d (a, b, e, p, q) = (d, (a, b, d.0, e, p, (refl, q)))

pub type_refused : (e : Error) (old mid mid2 new : Reader) (number position : ℕ) → HasRead (EncodesUnsigned 32) number old mid →
    Reads EncodesValType ValTypeFault (Err e) mid mid2 → position ≡ old.position → new ≡ at_position mid2 position →
    Reads EncodesDeclaration DeclarationFault (Err e) old new
type_refused e old mid mid2 new number position r h at went =
    let typed = missing_as EncodesValType (Typed number) ValTypeFault ValTypeFault e mid mid2 (λ text d p. (d.1, p.1)) (λ m offset f. f) h in
    missing_as (Then (EncodesUnsigned 32) Typed) EncodesDeclaration DeclarationFault DeclarationFault e old new split (λ m offset f. f)
    (second_missing (EncodesUnsigned 32) Typed U32Fault (λ number. ValTypeFault) e old mid mid2 new number position (number_prefix_code 32) r typed at went)

split_fails : {e : Error} {old : Reader} → Fails (Then (EncodesUnsigned 32) Typed) DeclarationFault e old → Fails EncodesDeclaration DeclarationFault e old
split_fails = fails_as (Then (EncodesUnsigned 32) Typed) EncodesDeclaration DeclarationFault DeclarationFault split (λ f. f)

pub number_fails : {e : Error} {old : Reader} → Fails (EncodesUnsigned 32) U32Fault e old → Fails EncodesDeclaration DeclarationFault e old
number_fails h = split_fails (first_fails (EncodesUnsigned 32) Typed U32Fault (λ number. ValTypeFault) h)

pub type_fails : (old mid : Reader) (number : ℕ) → HasRead (EncodesUnsigned 32) number old mid → {e : Error} → Fails EncodesValType ValTypeFault e mid →
    Fails EncodesDeclaration DeclarationFault e old
type_fails old mid number r h =
    split_fails (second_fails (EncodesUnsigned 32) Typed U32Fault (λ number. ValTypeFault) (number_prefix_code 32) r
    (fails_as EncodesValType (Typed number) ValTypeFault ValTypeFault (λ text d p. (d.1, p.1)) (λ f. f) h))

pub declaration_refused : (e : Error) (old mid now : Reader) (count read : ℕ) (text : List ℕ) (done : List Declaration) →
    HasRead (EncodesUnsigned 32) count old mid → EncodesMany EncodesDeclaration read text done → read < count → Takes mid now text →
    IsRefusal EncodesDeclaration e now → DeclarationFault e.message now e.offset → RefusesLocals e old
declaration_refused e old mid now count read text done first many lt takes h fault =
    let few : length done < count = omega (arith, many.0, lt) in
    let none = refused_now EncodesDeclaration e now h in
    record {
      refusal = then_second (EncodesUnsigned 32) (EncodesMany EncodesDeclaration) e old mid count (number_prefix_code 32) first
          (many_refused EncodesDeclaration e mid now text done read count declaration_alone many lt takes h);
      fault = inr (
        count,
        mid,
        first,
        many_fault EncodesDeclaration DeclarationFault count done text mid now e.message e.offset few many.1 takes none fault,
      );
    }

pub count_refused : (e : Error) (old : Reader) → IsRefusal (EncodesUnsigned 32) e old → U32Fault e.message old e.offset → RefusesLocals e old
count_refused e old h fault =
    record {
      refusal = then_first (EncodesUnsigned 32) (EncodesMany EncodesDeclaration) e old h;
      fault = inl (refused_now (EncodesUnsigned 32) e old h, fault);
    }

pub locals_read : (old mid new : Reader) (count : ℕ) (text : List ℕ) (done : List Declaration) → HasRead (EncodesUnsigned 32) count old mid →
    EncodesMany EncodesDeclaration count text done → Takes mid new text → IsPastLocals done old new
locals_read old mid new count text done (first, p, t) many takes =
    (first ++ text, (first, text, count, refl, p, many), takes_then old mid new first text t takes)

pub one_past : (r s body : Reader) (declarations others : List Declaration) → IsPastLocals declarations body r → IsPastLocals others body s →
    (s ≡ r) × (others ≡ declarations)
one_past r s body declarations others (a, p, t) (b, q, u) =
    let same = locals_prefix_code a b (rest r) (rest s) declarations others p q (sym t.parts ∙ u.parts) in
    (u.moved ∙ ap (λ (z : List ℕ). at_position body (body.position + length z)) (sym same.0) ∙ sym t.moved, sym same.1)
