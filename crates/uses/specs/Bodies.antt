use Rattle.std.specs.Prelude.{◌≡◌, ℕ, List, ◌++◌}
use Rattle.wasm_operators.specs.below.Number.{EncodesUnsigned}
use Rattle.wasm_operators.specs.below.Source.{Source, Reader, rest}
use Rattle.wasm_operators.specs.Body.{EncodesBody}
use Rattle.wasm_operators.specs.Expression.{Placed}
use Rattle.wasm_operators.specs.Locals.{Declaration, EncodesDeclaration}

abbrev pub IsBody : Source → Type 0
IsBody s = (declarations : List Declaration) × (placed : Placed) × EncodesBody s declarations placed

pub record BeginsWithDeclaration (body : Reader) (d : Declaration) : Type 0 where
  pub count : ℕ
  pub number : List ℕ
  pub text : List ℕ
  pub more : List ℕ
  pub parts : rest body ≡ number ++ (text ++ more)
  pub counts : EncodesUnsigned 32 number count
  pub declares : EncodesDeclaration text d
