-- Frames are listed from the outermost. Specification: Validation, Control Instructions; Appendix,
-- Validation Algorithm. Proposal legacy exception handling.
use Rattle.std.specs.Prelude.{Bool, true, false, if◌then◌else◌, ℕ, List, [], ◌∷◌, ◌++◌, Option, Some, None, IsSome}
use Rattle.std.specs.Option.{option_map, option_and_then}
use Rattle.wasm_grammar.specs.declared.frame_kind.FrameKind.{FrameKind}
use Rattle.wasm_grammar.specs.declared.frame_kind.FrameKind.TheVariants as frame
use Rattle.wasm_grammar.specs.declared.frame_change.FrameChange.{FrameChange}
use Rattle.wasm_grammar.specs.declared.frame_change.FrameChange.TheVariants as change
use Rattle.wasm_grammar.specs.Role.{Nest, block, loop, try_table, Role, plain, opens, opens_if, opens_try, turns_else, turns_catch, turns_catch_all, delegates, ends}

abbrev pub kind_of_nest : Nest → FrameKind
kind_of_nest block = frame.Block
kind_of_nest loop = frame.Loop
kind_of_nest try_table = frame.TryTable

-- What an operator with this role does to the frames.
abbrev pub change_of : {A : Type 0} → Role A → FrameChange
change_of (plain a) = change.Stays
change_of (opens n a) = change.Opens (kind_of_nest n)
change_of (opens_if a) = change.Opens frame.If
change_of (opens_try a) = change.Opens frame.LegacyTry
change_of turns_else = change.Turns frame.Else
change_of (turns_catch tag) = change.Turns frame.LegacyCatch
change_of turns_catch_all = change.Turns frame.LegacyCatchAll
change_of (delegates depth) = change.Closes
change_of ends = change.Closes

-- What a change puts in place of an innermost frame of this kind.
abbrev pub replaced : FrameKind → FrameChange → List FrameKind
replaced kind change.Stays = kind ∷ []
replaced kind (change.Opens inner) = kind ∷ inner ∷ []
replaced kind (change.Turns other) = other ∷ []
replaced kind change.Closes = []

abbrev pub is_allowed : {A : Type 0} → FrameKind → Role A → Bool
is_allowed kind (plain a) = true
is_allowed kind (opens n a) = true
is_allowed kind (opens_if a) = true
is_allowed kind (opens_try a) = true
is_allowed kind ends = true
is_allowed frame.If turns_else = true
is_allowed frame.LegacyTry (turns_catch tag) = true
is_allowed frame.LegacyCatch (turns_catch tag) = true
is_allowed frame.LegacyTry turns_catch_all = true
is_allowed frame.LegacyCatch turns_catch_all = true
is_allowed frame.LegacyTry (delegates depth) = true
is_allowed _ _ = false

-- What replaces the innermost frame after a role; `None` if not allowed.
abbrev pub replacement : {A : Type 0} → FrameKind → Role A → Option (List FrameKind)
replacement kind role = if is_allowed kind role then Some (replaced kind (change_of role)) else None

-- An innermost frame of this kind allows the role.
abbrev pub Allows : {A : Type 0} → FrameKind → Role A → Type 0
Allows kind role = IsSome (replacement kind role)

abbrev pub frames_after_in : {A : Type 0} → FrameKind → List FrameKind → Role A → Option (List FrameKind)
frames_after_in kind [] role = replacement kind role
frames_after_in kind (next ∷ inside) role = option_map (λ frames. kind ∷ frames) (frames_after_in next inside role)

-- The frames after a role; `None` if no innermost frame allows it.
abbrev pub frames_after : {A : Type 0} → List FrameKind → Role A → Option (List FrameKind)
frames_after [] role = None
frames_after (kind ∷ inside) role = frames_after_in kind inside role

-- The frames after several roles; `None` if one is not allowed.
abbrev pub frames_along : {A : Type 0} → List FrameKind → List (Role A) → Option (List FrameKind)
frames_along frames [] = Some frames
frames_along frames (role ∷ roles) = option_and_then (λ next. frames_along next roles) (frames_after frames role)

abbrev pub innermost_in : FrameKind → List FrameKind → FrameKind
innermost_in kind [] = kind
innermost_in kind (next ∷ inside) = innermost_in next inside

-- The innermost frame; `None` if none is open.
abbrev pub innermost : List FrameKind → Option FrameKind
innermost [] = None
innermost (kind ∷ inside) = Some (innermost_in kind inside)

abbrev pub without_innermost_in : FrameKind → List FrameKind → List FrameKind
without_innermost_in kind [] = []
without_innermost_in kind (next ∷ inside) = kind ∷ without_innermost_in next inside

-- The frames without the innermost.
abbrev pub without_innermost : List FrameKind → List FrameKind
without_innermost [] = []
without_innermost (kind ∷ inside) = without_innermost_in kind inside

-- The frames after a change.
abbrev pub frames_changed : List FrameKind → FrameChange → List FrameKind
frames_changed frames change.Stays = frames
frames_changed frames (change.Opens kind) = frames ++ kind ∷ []
frames_changed frames (change.Turns kind) = without_innermost frames ++ kind ∷ []
frames_changed frames change.Closes = without_innermost frames

abbrev pub OpensFrame : FrameChange → Type 0
OpensFrame (change.Opens kind) = Unit {0}
OpensFrame _ = ⊥

-- How many frames a change opens.
abbrev pub opened : FrameChange → ℕ
opened (change.Opens kind) = 1
opened _ = 0
