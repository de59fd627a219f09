-- The locals that operators set, for each control frame, the innermost first. The locals that were set
-- last are first. WebAssembly Core Specification 3.0: Appendix, Validation Algorithm.
use Rattle.std.specs.Prelude.{◌≡◌, ℕ, ◌-◌, ◌<◌, ◌≤◌, List, [], ◌∷◌, length, drop, get_or, Option}
use Rattle.std.specs.Option.{option_map}
use Rattle.wasm_typing.specs.Checking.{state}
use Rattle.wasm_typing.specs.Steps.{Frame, with_now}

-- The locals that are set in each frame, if the frames started when so many were set.
abbrev pub set_lists : List ℕ → List ℕ → List (List ℕ)
set_lists [] set = []
set_lists (height ∷ heights) set = set ∷ set_lists heights (drop (length set - height) set)

-- Each frame started with at most as many as are set in it.
abbrev pub AreHeights : List ℕ → List ℕ → Type 0
AreHeights [] set = set ≡ []
AreHeights (height ∷ heights) set = (height ≤ length set) × AreHeights heights (drop (length set - height) set)

-- The locals that are set in the innermost frame.
abbrev pub set_now : List (List ℕ) → List ℕ
set_now [] = []
set_now (set ∷ outer) = set

-- The lists of the frames around the innermost.
abbrev pub set_outside : List (List ℕ) → List (List ℕ)
set_outside [] = []
set_outside (set ∷ outer) = outer

-- One more local is set in the innermost frame.
abbrev pub set_also : ℕ → List (List ℕ) → List (List ℕ)
set_also x sets = (x ∷ set_now sets) ∷ set_outside sets

-- An else starts with the locals that are set around its if. Without a frame around it, none is set.
abbrev pub set_in_else : List Frame → List (List ℕ) → List (List ℕ)
set_in_else [] sets = [] ∷ []
set_in_else (f ∷ outer) sets = set_now (set_outside sets) ∷ set_outside sets

-- The frames, with these locals set in them.
abbrev pub with_set : List Frame → List (List ℕ) → List Frame
with_set [] sets = []
with_set (f ∷ outer) sets = with_now f (state f.now.operands f.now.unreachable (set_now sets)) ∷ with_set outer (set_outside sets)

-- The next frames, if there are any, with these locals set in them.
abbrev pub next_with : List (List ℕ) → Option (List Frame) → Option (List Frame)
next_with sets next = option_map (λ frames. with_set frames sets) next

-- Each local of the list has a place: its first in the list. Places of other locals mean nothing.
abbrev pub ArePlaced : List ℕ → List ℕ → Type 0
ArePlaced locals places = (i : ℕ) → i < length locals →
    (get_or locals i 0 < length places) × (get_or places (get_or locals i 0) 0 ≤ i) × (get_or locals (get_or places (get_or locals i 0) 0) 0 ≡ get_or locals i 0)
