-- Specification: Binary Format, Custom Section.
use Rattle.std.specs.Prelude.{ℕ, List}
use Rattle.wasm_below.specs.Source.{Reader}

-- The bytes of the name, and the reader of the data.
pub record Custom : Type 0 where
  pub name : List ℕ
  pub reader : Reader
