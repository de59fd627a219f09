use Rattle.std.proofs.Common.{◌≡◌, ℕ, [], ◌∷◌, ◌++◌, ◌⊎◌, inl, inr, sym, ◌∙◌, append_assoc}
use Rattle.wasm_operators.specs.below.Source.{Source}
use Rattle.wasm_operators.specs.instr.declared.operator.Operator.{Operator}
use Rattle.wasm_operators.specs.instr.Kinds.{IsSimd}
use Rattle.wasm_operators.specs.Expression.{Placed, IsPrefixAfter, IsLongestAfter}
use Rattle.wasm_operators.specs.Laws.{BeginsLonger}
use Rattle.wasm_operators.specs.Visiting.{IsScalar, scalar_beginning}

abbrev pub HasNoSimd : Type 0
HasNoSimd = (placed before after : Placed) (op : Operator) (at : ℕ) → scalar_beginning placed ≡ before ++ (op, at) ∷ after → ¬ IsSimd op

pub none_in : (s : Source) (longest before after : Placed) (op : Operator) (at : ℕ) → BeginsLonger s.features → HasNoSimd →
    IsLongestAfter [] s longest → IsScalar longest → IsPrefixAfter [] s (before ++ (op, at) ∷ after) → ¬ IsSimd op
none_in s longest before after op at layout none is scalar there =
    let few = is.longest (before ++ (op, at) ∷ after) there tt in
    let part = layout s.offset (before ++ (op, at) ∷ after) longest there.beginning is.beginning.beginning there.more is.beginning.more
    there.laid is.beginning.laid (sym there.parts ∙ is.beginning.parts) few in
    none longest before (after ++ part.0) op at (scalar ∙ part.1 ∙ append_assoc before ((op, at) ∷ after) part.0)

pub none_at : (s : Source) (before after : Placed) (op : Operator) (at : ℕ) → BeginsLonger s.features → HasNoSimd →
    ¬ ((placed : Placed) → ¬ IsLongestAfter [] s placed) → ((longest : Placed) → IsLongestAfter [] s longest → ¬ ¬ IsScalar longest) →
    IsPrefixAfter [] s (before ++ (op, at) ∷ after) → ¬ IsSimd op
none_at s before after op at layout none exists scalar there =
    λ is. exists (λ longest longest_is. scalar longest longest_is (λ free. none_in s longest before after op at layout none longest_is free there is))

pub neither : {A B : Type 0} → ¬ A → ¬ B → ¬ (A ⊎ B)
neither f g (inl a) = f a
neither f g (inr b) = g b
