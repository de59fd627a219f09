-- Prefixes of expressions, by the frames alone. Specification: Validation, Control Instructions;
-- Appendix, Validation Algorithm. Proposal legacy exception handling.
use Rattle.std.specs.Prelude.{◌≡◌, ℕ, List, [], ◌∷◌, ◌++◌, IsSome}
use Rattle.wasm_below.specs.Source.{Source}
use Rattle.wasm_grammar.specs.declared.frame_kind.FrameKind.{FrameKind}
use Rattle.wasm_grammar.specs.declared.frame_kind.FrameKind.TheVariants as frame
use Rattle.wasm_grammar.specs.Frames.{frames_along}
use Rattle.wasm_instr.specs.Roles.{roles_of}
use Rattle.wasm_operators.specs.Expression.{Placed, IsAny, operators, LaidOut, Longest}

-- A prefix of the bytes encodes these operators, and the frames allow them step by step.
pub record IsAllowedFrom (frames : List FrameKind) (s : Source) (placed : Placed) : Type 0 where
  pub beginning : List ℕ
  pub more : List ℕ
  pub parts : s.bytes ≡ beginning ++ more
  pub laid : LaidOut s.features s.offset beginning placed
  pub allowed : IsSome (frames_along frames (roles_of (operators placed)))

-- The longest list that the bytes start with and the frames allow.
abbrev pub IsFlatFrom : List FrameKind → Source → Placed → Type 0
IsFlatFrom frames s placed = Longest (IsAllowedFrom frames s) IsAny placed

-- As `IsFlatFrom`, for the one frame of an expression.
abbrev pub IsFlatBeginning : Source → Placed → Type 0
IsFlatBeginning s placed = IsFlatFrom (frame.Block ∷ []) s placed
