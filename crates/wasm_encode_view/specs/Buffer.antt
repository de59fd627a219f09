-- What contracts say of a buffer.
use Rattle.std.specs.Prelude.{ℕ, List}

-- The bytes that were written, in order.
pub record Written : Type 0 where
  pub items : List ℕ
