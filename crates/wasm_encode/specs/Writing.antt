-- What writing lists of operators and bodies does to the vector, and reading and writing together.
-- Specification: Binary Format, Expressions; Binary Format, Modules, Code Section.
use Rattle.std.specs.Prelude.{◌≡◌, ◌≢◌, ℕ, ◌≤◌, ◌^◌, ◌⊎◌, List, ◌∷◌, ◌++◌, length, Result, Ok, Err}
use Rattle.wasm_below.specs.declared.features.WasmFeatures.{WasmFeatures}
use Rattle.wasm_below.specs.declared.message.Message.TheVariants as message
use Rattle.wasm_below.specs.Source.{Source}
use Rattle.wasm_instr.specs.declared.operator.Operator.{Operator}
use Rattle.wasm_operators.specs.Expression.{Placed, operators, LaidOut, AreEncoded, EncodesExpression}
use Rattle.wasm_operators.specs.Locals.{Declaration, EncodesLocals}
use Rattle.wasm_encode_numbers.specs.Appended.{Appends}
use Rattle.wasm_encode_immediates.specs.declared.unwritable.Unwritable.{Unwritable}
use Rattle.wasm_encode_immediates.specs.declared.unwritable.Unwritable.TheVariants as why
use Rattle.wasm_encode_operators.specs.Encoding.{IsUnwritable}
use Rattle.wasm_encode.specs.declared.rewrite.RewriteError.{RewriteError}
use Rattle.wasm_encode.specs.declared.rewrite.RewriteError.TheVariants as rewrite

-- The bytes from this offset encode these operators one after another.
abbrev pub EncodesOperators : WasmFeatures → ℕ → List ℕ → List Operator → Type 0
EncodesOperators f offset text ops = (placed : Placed) × (operators placed ≡ ops) × LaidOut f offset text placed

-- Encodings of these operators were appended. At any offset, none are shorter.
pub record AppendsOperators (f : WasmFeatures) (ops : List Operator) (old new : List ℕ) : Type 0 where
  pub text : List ℕ
  pub appended : new ≡ old ++ text
  pub encodes : (offset : ℕ) → EncodesOperators f offset text ops
  pub shortest : (offset : ℕ) (other : List ℕ) → EncodesOperators f offset other ops → length text ≤ length other

-- The operators have no encoding, since this operator has none. Those before it have encodings.
pub record HasUnwritable (f : WasmFeatures) (ops : List Operator) (e : Unwritable) : Type 0 where
  pub before : List Operator
  pub op : Operator
  pub after : List Operator
  pub parts : ops ≡ before ++ (op ∷ after)
  pub encoded : AreEncoded f before
  pub unwritable : IsUnwritable f op e

-- On `Ok`, the operators were appended. On `Err`, nothing was appended, and unless the vector can't
-- grow, one of the operators has no encoding.
abbrev pub WritesOperators : {Y : Type 0} → WasmFeatures → List Operator → Result Y Unwritable → List ℕ → List ℕ → Type 0
WritesOperators f ops (Ok _) old new = AppendsOperators f ops old new
WritesOperators f ops (Err e) old new = (new ≡ old) × (e ≢ why.OutOfMemory → HasUnwritable f ops e)

-- On `Ok`, the declarations were appended in the fewest bytes. On `Err`, nothing was appended, and
-- unless the vector can't grow, they are too many.
abbrev pub WritesLocals : {Y : Type 0} → List Declaration → Result Y Unwritable → List ℕ → List ℕ → Type 0
WritesLocals ds (Ok _) old new = Appends EncodesLocals ds old new
WritesLocals ds (Err e) old new = (new ≡ old) × (e ≢ why.OutOfMemory → (e ≡ why.TooMany) × (2 ^ 32 ≤ length ds))

-- The declarations and then the operators of a body were appended.
pub record AppendsBody (f : WasmFeatures) (ds : List Declaration) (ops : List Operator) (old new : List ℕ) : Type 0 where
  pub mid : List ℕ
  pub locals : Appends EncodesLocals ds old mid
  pub expression : AppendsOperators f ops mid new

-- On `Ok`, the body was appended. On `Err`, nothing was appended, and unless the vector can't grow,
-- the declarations are too many or an operator has no encoding.
abbrev pub WritesBody : {Y : Type 0} → WasmFeatures → List Declaration → List Operator → Result Y Unwritable → List ℕ → List ℕ → Type 0
WritesBody f ds ops (Ok _) old new = AppendsBody f ds ops old new
WritesBody f ds ops (Err e) old new = (new ≡ old) × (e ≢ why.OutOfMemory → ((e ≡ why.TooMany) × (2 ^ 32 ≤ length ds)) ⊎ HasUnwritable f ops e)

-- These bytes with these features, from offset 0.
abbrev pub source_at : WasmFeatures → List ℕ → Source
source_at f bytes = record { features = f; offset = 0; bytes = bytes }

-- The bytes encode an expression. An expression with the same operators was appended, which is at
-- most as long.
pub record Rewrote (f : WasmFeatures) (bytes old new : List ℕ) : Type 0 where
  pub placed : Placed
  pub again : Placed
  pub text : List ℕ
  pub encodes : EncodesExpression (source_at f bytes) placed
  pub appended : new ≡ old ++ text
  pub encodes_again : EncodesExpression (source_at f text) again
  pub same : operators again ≡ operators placed
  pub no_longer : length text ≤ length bytes

-- Why bytes were not rewritten: they encode no expression, or allocation failed.
abbrev pub IsNotRewritten : WasmFeatures → List ℕ → RewriteError → Type 0
IsNotRewritten f bytes (rewrite.Read e) = e.message ≢ message.OutOfMemory → (placed : Placed) → ¬ EncodesExpression (source_at f bytes) placed
IsNotRewritten f bytes (rewrite.Write e) = e ≡ why.OutOfMemory
