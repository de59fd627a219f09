use Rattle.std.specs.Prelude.{◌≡◌, ℕ, List, [], ◌++◌, length}
use Rattle.wasm_operators.specs.below.Source.{Source}
use Rattle.wasm_operators.specs.Expression.{Placed, IsAny, EncodesExpression}
use Rattle.wasm_operators.specs.MainTheorem.{IsCut, IsCompletedByEnds}
use Rattle.uses.specs.declared.beginnings.Missing.{Missing}
use Rattle.uses.specs.declared.beginnings.Missing.TheVariants as missing

-- `Nothing`: the bytes are an expression. `Ends`: some bytes 0x0b after them make one. `Bytes`: no
-- claim. `Never`: no bytes after them make one.
abbrev pub IsMissing : Source → Missing → Type 0
IsMissing s missing.Nothing = (placed : Placed) × EncodesExpression s placed
IsMissing s missing.Ends = (n : ℕ) × IsCompletedByEnds [] s n
IsMissing s missing.Bytes = Unit {0}
IsMissing s missing.Never = ¬ IsCut IsAny [] s

-- The first `n` of the bytes are an expression.
pub record BeginsExpression (s : Source) (n : ℕ) : Type 0 where
  pub text : List ℕ
  pub more : List ℕ
  pub parts : s.bytes ≡ text ++ more
  pub size : length text ≡ n
  pub placed : Placed
  pub encodes : EncodesExpression (record { features = s.features; offset = s.offset; bytes = text }) placed
