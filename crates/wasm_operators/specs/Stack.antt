-- Specification: Appendix, Validation Algorithm.
use Rattle.std.specs.Prelude.{◌≡◌, ℕ, ◌+◌, ◌-◌, ◌*◌, ◌<◌, ◌≤◌, List, [], length, max, ◌⊎◌}
use Rattle.wasm_grammar.specs.declared.frame_kind.FrameKind.{FrameKind}

-- The open frames, the outermost first, and how many more can be opened without allocating.
pub record OpenFrames : Type 0 where
  pub frames : List FrameKind
  pub room : ℕ

-- One more frame can be opened without allocating.
abbrev pub HasRoom : OpenFrames → Type 0
HasRoom s = (s.frames ≡ []) ⊎ (0 < s.room)

-- How many frames the memory has space for, apart from the innermost.
abbrev pub frame_memory : List FrameKind → ℕ → ℕ
frame_memory frames room = (length frames - 1) + room

-- There is space for at most max(before, 2 * frames + more) frames.
abbrev pub IsLittleMemory : ℕ → ℕ → ℕ → ℕ → Type 0
IsLittleMemory before frames more now = now ≤ max before (2 * frames + more)

-- There is space for at most max(m, 2 * (f + needed) + 8) frames: before, there was space for m, f
-- were open, and `needed` more are wanted.
abbrev pub GrowsByDoubling : ℕ → OpenFrames → OpenFrames → Type 0
GrowsByDoubling needed old new =
    IsLittleMemory (frame_memory old.frames old.room) (length old.frames + needed) 8 (frame_memory new.frames new.room)

-- Frame memory has the same size.
abbrev pub IsSameMemory : OpenFrames → OpenFrames → Type 0
IsSameMemory old new = frame_memory new.frames new.room ≡ frame_memory old.frames old.room

-- There is space for twice the frames that were open, apart from the innermost.
abbrev pub HoldsTwice : OpenFrames → OpenFrames → Type 0
HoldsTwice old new = 2 * (length old.frames - 1) ≤ frame_memory new.frames new.room

-- Frame memory has the same size; or it had no space for `needed` more, and `HoldsTwice`.
abbrev pub GrowsIfFull : ℕ → OpenFrames → OpenFrames → Type 0
GrowsIfFull needed old new = IsSameMemory old new ⊎ ((old.room < needed) × HoldsTwice old new)
