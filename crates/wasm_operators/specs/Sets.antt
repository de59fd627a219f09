-- Decoders and visits for a set of operators.
use Rattle.wasm_instr.specs.declared.operator.Operator.{Operator}
use Rattle.wasm_decode.specs.OperatorSets.{OperatorSet, with_simd, without_simd, EncodesOf, FaultOf}
use Rattle.wasm_operators.specs.Expression.{Placed, OfPlaced, IsAny}
use Rattle.wasm_operators.specs.Next.{NextMayAllocate}
use Rattle.wasm_operators.specs.Reading.{Decoder}
use Rattle.wasm_operators.specs.Visiting.{IsScalar, Visited, VisitedScalar}

-- The lists of operators of this set.
abbrev pub KeptOf : OperatorSet → OfPlaced
KeptOf with_simd = IsAny
KeptOf without_simd = IsScalar

-- `all_operators`, or `scalar_operators`.
abbrev pub decoder_of : OperatorSet → Decoder
decoder_of set = record { Encodes = EncodesOf set; Fault = FaultOf set; Allocates = NextMayAllocate (EncodesOf set); Kept = KeptOf set }

-- `Visited`, or `VisitedScalar`.
abbrev pub VisitedOf : OperatorSet → {V A : Type 0} → (V → Operator → A → V → Type 0) → V → V → Placed → Type 0
VisitedOf with_simd visits before after placed = Visited visits before after placed
VisitedOf without_simd visits before after placed = VisitedScalar visits before after placed
