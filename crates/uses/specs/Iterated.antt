-- Specification: Binary Format, Instructions; Appendix, Validation Algorithm.
use Rattle.std.specs.Prelude.{[], ◌∷◌, IsSome}
use Rattle.wasm_operators.specs.below.Source.{Source}
use Rattle.wasm_operators.specs.grammar.declared.frame_kind.FrameKind.TheVariants as frame
use Rattle.wasm_operators.specs.grammar.Beginning.{BeginsWalk}
use Rattle.wasm_operators.specs.grammar.Frames.{frames_along}
use Rattle.wasm_operators.specs.instr.Roles.{roles_of}
use Rattle.wasm_operators.specs.Expression.{Placed, operators, LaidOut}

-- All of the bytes encode these operators, which the frames of an expression allow, and which begin
-- one.
pub record AreAllAllowed (s : Source) (placed : Placed) : Type 0 where
  pub laid : LaidOut s.features s.offset s.bytes placed
  pub allowed : IsSome (frames_along (frame.Block ∷ []) (roles_of (operators placed)))
  pub begins : BeginsWalk (roles_of (operators placed))
