-- The operands and the result of a row.
use Rattle.std.proofs.Common.{◌≡◌, ◌==◌, ℕ, Bool, true, false, if◌then◌else◌, List, [], ◌∷◌, Option, Some, None, ap, ◌∙◌}
use Rattle.std.proofs.lemmas.Bool.{ne_eqb}
use Rattle.std.specs.Option.{option_and_then}
use Rattle.wasm_signatures.specs.Rows.{operands}
use Rattle.wasm_signatures.specs.Types.{value_of}
use Rattle.wasm_signatures.specs.declared.operand_type.OperandType.{OperandType}
use Rattle.wasm_typing.specs.declared.value_type.ValueType.{ValueType}
use Rattle.wasm_typing.specs.Types.{value_type}
use Rattle.wasm_typing.specs.Matching.{TypeOrder}
use Rattle.wasm_typing.specs.Steps.{Frame}
use Rattle.wasm_check_control.specs.State.{taken}
use Rattle.wasm_check_control.proofs.Taking.{taken-append}
use Rattle.wasm_check_operators.specs.Forms.{typed, address_value}

abbrev value : Bool → OperandType → ValueType
value is_64 t = value_type (value_of (address_value is_64) t)

-- By the comparisons of the definition.
abbrev listed : Bool → Bool → OperandType → OperandType → List OperandType
listed none one below top = if none then [] else if one then top ∷ [] else below ∷ top ∷ []

pub first_operand : (is_64 : Bool) (n : ℕ) (below top : OperandType) → (n ≡ 0 → ⊥) → (rest : List ValueType) × (typed is_64 (operands n below top) ≡ value is_64 top ∷ rest)
first_operand is_64 n below top a = go (n == 1)
  where
    go : (one : Bool) → (rest : List ValueType) × (typed is_64 (listed (n == 0) one below top) ≡ value is_64 top ∷ rest)
    go true = ([], ap (λ none. typed is_64 (listed none true below top)) (ne_eqb n 0 a))
    go false = (value is_64 below ∷ [], ap (λ none. typed is_64 (listed none false below top)) (ne_eqb n 0 a))

pub two_operands : (is_64 : Bool) (n : ℕ) (below top : OperandType) → (n ≡ 0 → ⊥) → (n ≡ 1 → ⊥) → typed is_64 (operands n below top) ≡ value is_64 top ∷ value is_64 below ∷ []
two_operands is_64 n below top a b =
    ap (λ none. typed is_64 (listed none (n == 1) below top)) (ne_eqb n 0 a) ∙ ap (λ one. typed is_64 (listed false one below top)) (ne_eqb n 1 b)

module _ (O : TypeOrder) where
  pub none_above : (v : ValueType) (below : List ValueType) (frames : List Frame) → taken O (v ∷ []) frames ≡ None → taken O (v ∷ below) frames ≡ None
  none_above v below frames e = taken-append O (v ∷ []) below frames ∙ ap (option_and_then (taken O below)) e

  pub both_taken : (v w : ValueType) (frames mid : List Frame) (next : Option (List Frame)) → taken O (v ∷ []) frames ≡ Some mid → taken O (w ∷ []) mid ≡ next → taken O (v ∷ w ∷ []) frames ≡ next
  both_taken v w frames mid next e f = taken-append O (v ∷ []) (w ∷ []) frames ∙ ap (option_and_then (taken O (w ∷ []))) e ∙ f
