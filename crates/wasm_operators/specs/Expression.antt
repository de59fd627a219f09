-- Specification: Binary Format, Expressions.
use Rattle.std.specs.Prelude.{◌≡◌, ℕ, ◌+◌, ◌≤◌, List, [], ◌∷◌, ◌++◌, length, map}
use Rattle.wasm_below.specs.declared.features.WasmFeatures.{WasmFeatures}
use Rattle.wasm_below.specs.Source.{Source}
use Rattle.wasm_grammar.specs.Beginning.{IsWalk}
use Rattle.wasm_instr.specs.declared.operator.Operator.{Operator}
use Rattle.wasm_instr.specs.Encoding.{EncodesOperator}
use Rattle.wasm_instr.specs.Roles.{roles_of}

-- Operators, each with the offset of its first byte.
abbrev pub Placed : Type 0
Placed = List (Operator × ℕ)

abbrev pub operators : Placed → List Operator
operators placed = map (λ p. p.0) placed

-- A property of lists of placed operators.
abbrev pub OfPlaced : Type 1
OfPlaced = Placed → Type 0

-- Any list.
abbrev pub IsAny : OfPlaced
IsAny placed = Unit {0}

-- The bytes encode the operators one after another, each at its offset.
abbrev pub LaidOut : WasmFeatures → ℕ → List ℕ → Placed → Type 0
LaidOut f offset bytes [] = bytes ≡ []
LaidOut f offset bytes (p ∷ ps) = (p.1 ≡ offset) × (text more : List ℕ) × (bytes ≡ text ++ more) × EncodesOperator f text p.0 ×
    LaidOut f (offset + length text) more ps

-- The operator's encoding ends before this offset.
abbrev pub EndsAt : WasmFeatures → Operator × ℕ → ℕ → Type 0
EndsAt f p end = (text : List ℕ) × EncodesOperator f text p.0 × (end ≡ p.1 + length text)

-- The operators are the walk of an expression.
abbrev pub AreWalk : List Operator → Type 0
AreWalk ops = IsWalk (roles_of ops)

-- Each operator has an encoding.
abbrev pub AreEncoded : WasmFeatures → List Operator → Type 0
AreEncoded f [] = Unit {0}
AreEncoded f (op ∷ ops) = ((text : List ℕ) × EncodesOperator f text op) × AreEncoded f ops

-- The operators begin an expression, and have encodings.
abbrev pub Begins : WasmFeatures → List Operator → Type 0
Begins f ops = (more : List Operator) × AreWalk (ops ++ more) × AreEncoded f (ops ++ more)

-- All of the bytes encode these operators, which complete an expression after those before.
abbrev pub EncodesRest : List Operator → Source → Placed → Type 0
EncodesRest before s placed = LaidOut s.features s.offset s.bytes placed × AreWalk (before ++ operators placed)

-- All of the bytes encode an expression with these operators.
abbrev pub EncodesExpression : Source → Placed → Type 0
EncodesExpression s placed = EncodesRest [] s placed

-- A prefix of the bytes encodes the operators of `placed`, each at its offset. The operators
-- `before` and these begin an expression.
pub record IsPrefixAfter (before : List Operator) (s : Source) (placed : Placed) : Type 0 where
  pub beginning : List ℕ
  pub more : List ℕ
  pub parts : s.bytes ≡ beginning ++ more
  pub laid : LaidOut s.features s.offset beginning placed
  pub begins : Begins s.features (before ++ operators placed)

-- The longest `Kept` list with the property `Is`.
pub record Longest (Is Kept : OfPlaced) (placed : Placed) : Type 0 where
  pub beginning : Is placed
  pub kept : Kept placed
  pub longest : (others : Placed) → Is others → Kept others → length others ≤ length placed

-- The longest list with `IsPrefixAfter`.
abbrev pub IsLongestAfter : List Operator → Source → Placed → Type 0
IsLongestAfter before s placed = Longest (IsPrefixAfter before s) IsAny placed

-- As `IsLongestAfter`, with no operators before.
abbrev pub IsLongestBeginning : Source → Placed → Type 0
IsLongestBeginning s placed = IsLongestAfter [] s placed

-- The first list is a prefix of the second.
abbrev pub IsBeginningOf : {X : Type 0} → List X → List X → Type 0
IsBeginningOf {X} first second = (more : List X) × (second ≡ first ++ more)
