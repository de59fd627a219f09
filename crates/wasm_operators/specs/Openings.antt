-- Specification: Binary Format, Control Instructions. Proposal legacy exception handling.
use Rattle.std.specs.Prelude.{ℕ, ◌+◌, List, [], ◌∷◌, length, max, Option, Some, None}
use Rattle.wasm_grammar.specs.declared.frame_kind.FrameKind.{FrameKind}
use Rattle.wasm_grammar.specs.Frames.{change_of, frames_after, opened}
use Rattle.wasm_instr.specs.declared.operator.Operator.{Operator}
use Rattle.wasm_instr.specs.Roles.{role_of}
use Rattle.wasm_operators.specs.Expression.{Placed}

-- How many frames an operator opens.
abbrev pub opened_by : Operator → ℕ
opened_by op = opened (change_of (role_of op))

abbrev pub opened_along : Placed → ℕ
opened_along [] = 0
opened_along (p ∷ ps) = opened_by p.0 + opened_along ps

-- The most frames that are open at once along these operators. `None`, after an operator that the
-- frames do not allow, counts 0.
abbrev pub most_open : Option (List FrameKind) → Placed → ℕ
most_open None ps = 0
most_open (Some frames) [] = length frames
most_open (Some frames) (p ∷ ps) = max (length frames) (most_open (frames_after frames (role_of p.0)) ps)
