-- What is chosen by the next byte has a first byte.
use Rattle.std.proofs.Common.{◌≡◌, ◌<◌, ◌+◌, ℕ, suc, List, [], ◌∷◌, ◌++◌, length, Result, ap, sym, subst, ◌∙◌, length-append, arith}
use Rattle.std.specs.Prelude.{IsErrAnd}
use Rattle.wasm_below.specs.declared.error.Error.{Error}
use Rattle.wasm_below.specs.Source.{Reader, rest, BeginsWith}
use Rattle.wasm_below.proofs.TypeEncodings.{value_empty}
use Rattle.wasm_grammars.specs.Grammar.{Grammar, Encodes}
use Rattle.wasm_grammars.specs.Reading.{Fails, ReadsFrom}
use Rattle.wasm_grammars.proofs.Steps.{stays}
use Rattle.wasm_types.specs.declared.composites.CompositeType.{CompositeType}
use Rattle.wasm_types.specs.declared.fields.StorageType.{StorageType}
use Rattle.wasm_types.specs.declared.recursive.RecGroup.{RecGroup}
use Rattle.wasm_types.specs.declared.recursive.SubType.{SubType}
use Rattle.wasm_types.specs.Types.{packed_type, value_type, shared_type, unshared_type, declared_type, plain_type, explicit_group, implicit_group}

-- A part of the bytes is not empty.
longer : {text a : List ℕ} (b : List ℕ) {first : ℕ} {after : List ℕ} → text ≡ a ++ b → a ≡ first ∷ after → 0 < length text
longer {text} {a} b {first} {after} e f =
    let whole : length text ≡ length a + length b = ap length e ∙ length-append a b in
    let some : length a ≡ suc (length after) = ap length f in
    omega (arith, whole, some)

pub packed_some : (at : ℕ) (text : List ℕ) (x : StorageType) → Encodes packed_type at text x → 0 < length text
packed_some at text x (a, b, n, e, is, _) = longer b e is.0

pub value_some : (at : ℕ) (text : List ℕ) (x : StorageType) → Encodes value_type at text x → 0 < length text
value_some at text x ([], b, n, e, is, _) = absurd (value_empty n is)
value_some at text x (c ∷ a, b, n, e, is, _) = let some : length text ≡ suc (length (a ++ b)) = ap length e in omega (arith, some)

pub shared_some : (at : ℕ) (text : List ℕ) (x : CompositeType) → Encodes shared_type at text x → 0 < length text
shared_some at text x (a, b, n, e, is, _) = longer b e is.0

pub unshared_some : (at : ℕ) (text : List ℕ) (x : CompositeType) → Encodes unshared_type at text x → 0 < length text
unshared_some at text x (a, b, ty, e, (c, d, n, f, is, _), _) = longer b e (f ∙ ap (λ z. z ++ d) is.0)

pub declared_some : (at : ℕ) (text : List ℕ) (x : SubType) → Encodes declared_type at text x → 0 < length text
declared_some at text x (a, b, n, e, is, _) = longer b e is.0

pub plain_some : (at : ℕ) (text : List ℕ) (x : SubType) → Encodes plain_type at text x → 0 < length text
plain_some at text x (a, b, ty, e, (v, (first, after, f, _), _), _) = longer b e f

pub explicit_some : (at : ℕ) (text : List ℕ) (x : RecGroup) → Encodes explicit_group at text x → 0 < length text
explicit_some at text x (a, b, n, e, is, _) = longer b e is.0

pub implicit_some : (at : ℕ) (text : List ℕ) (x : RecGroup) → Encodes implicit_group at text x → 0 < length text
implicit_some at text x (a, b, ty, e, (v, (first, after, f, _), _), _) = longer b e f

-- A copy sees the byte.
pub copied : {b : ℕ} {old copy : Reader} → copy ≡ old → BeginsWith b (rest old) → BeginsWith b (rest copy)
copied {b} same next = subst (λ r. BeginsWith b (rest r)) (sym same) next

-- A call in place fails.
pub stays_in : {X : Type 0} {g : Grammar X} {s : ℕ} (r : Result X Error) {e : Error} {old new : Reader} → new ≡ old → IsErrAnd r (λ y. y ≡ e) → Fails g s e old →
    ReadsFrom g s r old new
stays_in {g = g} {s = s} r {old = old} same is h = subst (λ z. ReadsFrom g s r old z) (sym same) (stays r is h)
