-- Specification: Binary Format and Structure, Control Instructions. Proposal legacy exception
-- handling.
use Rattle.std.specs.Prelude.{ℕ}

-- A construct with one body, which an `end` closes.
pub data Nest : Type 0 where
  block loop try_table : Nest

-- An operator's part in a tree. Plain and opening ones carry an `A`, `turns_catch` a tag's index,
-- `delegates` a depth.
pub data Role (A : Type 0) : Type 0 where
  plain : A → Role A
  opens : Nest → A → Role A
  opens_if : A → Role A
  opens_try : A → Role A
  turns_else : Role A
  turns_catch : ℕ → Role A
  turns_catch_all : Role A
  delegates : ℕ → Role A
  ends : Role A
