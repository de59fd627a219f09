-- A constant expression declares one list of functions and has its type, or is in error.
use Rattle.std.proofs.Common.{◌≡◌, ℕ, [], ◌∷◌, inl, inr, None, refl, sym, subst, ap, ◌∙◌}
use Rattle.wasm_below.specs.declared.types.ValType.{ValType}
use Rattle.wasm_below.specs.Source.{Reader, rest, offset_of, source_of}
use Rattle.wasm_externals.specs.declared.external.ExternalKind.TheVariants as kind
use Rattle.wasm_instr.specs.declared.operator.Operator.{Operator}
use Rattle.wasm_operators.specs.Expression.{Placed, EncodesExpression}
use Rattle.wasm_operators.proofs.LayoutLemmas.{one_whole}
use Rattle.wasm_context.specs.Components.{Components, with_declared}
use Rattle.wasm_context.specs.Faults.{external_fault}
use Rattle.wasm_module_context.specs.declared.error.PayloadError.{PayloadError}
use Rattle.wasm_module_context.specs.declared.error.PayloadError.TheVariants as error
use Rattle.wasm_module_context.specs.Constants.{IsConstant, ExplainsConstant, AddsConstant, FailsConstant}
use Rattle.wasm_module_context.specs.Exhaustion.{IsExhausted}
use Rattle.wasm_module_context.specs.References.{IsReference, DeclaresOne, FailsOne, Declares, FailsToDeclare, DeclaresReferences, FailsReferences}
use Rattle.wasm_module_context.proofs.OneContext.{no_fault}

same_index : (op : Operator) (x y : ℕ) → IsReference op x → IsReference op y → x ≡ y
same_index op x y a b = cc (sym a ∙ b)

one_declared : (op : Operator) (c d e : Components) → DeclaresOne op c d → DeclaresOne op c e → d ≡ e
one_declared op c d e (inl (x, is, _, added)) (inl (y, is2, _, added2)) = added ∙ ap (with_declared c) (same_index op x y is is2) ∙ sym added2
one_declared op c d e (inl (x, is, _, _)) (inr (other, _)) = absurd (other x is)
one_declared op c d e (inr (other, _)) (inl (y, is, _, _)) = absurd (other y is)
one_declared op c d e (inr (_, a)) (inr (_, b)) = a ∙ sym b

declared_or_fails : (op : Operator) (at : ℕ) (c d : Components) (e : PayloadError) → DeclaresOne op c d → FailsOne op at c e → ⊥
declared_or_fails op at c d e (inl (x, is, none, _)) (y, f, is2, some, _) =
    no_fault (external_fault c kind.Func y) f (subst (λ z. external_fault c kind.Func z ≡ None) (same_index op x y is is2) none) some
declared_or_fails op at c d e (inr (other, _)) (y, f, is, _, _) = other y is

all_declared : (placed : Placed) (c d e : Components) → Declares placed c d → Declares placed c e → d ≡ e
all_declared [] c d e a b = a ∙ sym b
all_declared (p ∷ ps) c d e (m, one, more) (k, one2, more2) =
    all_declared ps m d e more (subst (λ z. Declares ps z e) (sym (one_declared p.0 c m k one one2)) more2)

all_or_fails : (placed : Placed) (c d : Components) (e : PayloadError) → Declares placed c d → FailsToDeclare placed c e → ⊥
all_or_fails [] c d e a f = absurd f
all_or_fails (p ∷ ps) c d e (m, one, more) (inl f) = declared_or_fails p.0 p.1 c m e one f
all_or_fails (p ∷ ps) c d e (m, one, more) (inr (k, one2, f)) =
    all_or_fails ps m d e more (subst (λ z. FailsToDeclare ps z e) (sym (one_declared p.0 c m k one one2)) f)

one_expression : (r : Reader) (first second : Placed) → EncodesExpression (source_of r) first → EncodesExpression (source_of r) second → first ≡ second
one_expression r first second (a, walk) (b, other) = (one_whole [] r.features (offset_of r) first second (rest r) (rest r) [] [] a b walk other refl).0

pub one_references : (r : Reader) (c d e : Components) → DeclaresReferences r c d → DeclaresReferences r c e → d ≡ e
one_references r c d e (placed, encodes, all) (others, encodes2, all2) =
    all_declared placed c d e all (subst (λ z. Declares z c e) (sym (one_expression r placed others encodes encodes2)) all2)

pub references_or_fail : (r : Reader) (c d : Components) (e : PayloadError) → (IsExhausted e → ⊥) → DeclaresReferences r c d → FailsReferences r c e → ⊥
references_or_fail r c d (error.Decode e) known (placed, encodes, all) (inl f) = f known placed encodes
references_or_fail r c d e known (placed, encodes, all) (inr (others, encodes2, f)) =
    all_or_fails placed c d e all (subst (λ z. FailsToDeclare z c e) (sym (one_expression r placed others encodes encodes2)) f)
references_or_fail r c d e known declares (inl f) = absurd f

pub one_constant : (t : ValType) (r : Reader) (c d e : Components) → AddsConstant t r c d → AddsConstant t r c e → d ≡ e
one_constant t r c d e (a, _) (b, _) = one_references r c d e a b

pub typed_or_explained : (c : Components) (t : ValType) (r : Reader) (e : PayloadError) → (IsExhausted e → ⊥) → IsConstant c t r → ExplainsConstant c t r e → ⊥
typed_or_explained c t r (error.Constant e) known typed (none, _) = none known typed
typed_or_explained c t r e known typed f = absurd f

pub constant_or_fails : (t : ValType) (r : Reader) (c d : Components) (e : PayloadError) → (IsExhausted e → ⊥) → AddsConstant t r c d → FailsConstant t r c e → ⊥
constant_or_fails t r c d e known (declares, typed) (inl f) = references_or_fail r c d e known declares f
constant_or_fails t r c d e known (declares, typed) (inr (m, declares2, f)) =
    typed_or_explained d t r e known typed (subst (λ z. ExplainsConstant z t r e) (sym (one_references r c d m declares declares2)) f)
