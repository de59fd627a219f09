-- How far roles have come in a tree. Specification: Structure, Control Instructions and
-- Expressions; Appendix, Validation Algorithm. Proposal legacy exception handling.
use Rattle.std.specs.Prelude.{◌≡◌, ℕ, List, [], ◌∷◌, ◌++◌}
use Rattle.wasm_grammar.specs.declared.frame_kind.FrameKind.{FrameKind}
use Rattle.wasm_grammar.specs.declared.frame_kind.FrameKind.TheVariants as frame
use Rattle.wasm_grammar.specs.Role.{Nest, Role, opens, opens_if, opens_try, turns_else, turns_catch, turns_catch_all}
use Rattle.wasm_grammar.specs.Tree.{Instructions, walk_instructions}
use Rattle.wasm_grammar.specs.Beginning.{IsWalk}
use Rattle.wasm_grammar.specs.Frames.{kind_of_nest}

-- Complete handlers of a try, each a tag and a body.
abbrev pub Parts : Type 0 → Type 0
Parts A = List (ℕ × Instructions A)

abbrev pub walk_parts : {A : Type 0} → Parts A → List (Role A)
walk_parts [] = []
walk_parts (part ∷ parts) = turns_catch part.0 ∷ (walk_instructions part.1 ++ walk_parts parts)

-- An instruction up to its open body: the construct, and its complete bodies.
pub data Head (A : Type 0) : Type 0 where
  of_nest : Nest → A → Head A
  of_if : A → Head A
  of_else : A → Instructions A → Head A
  of_try : A → Head A
  of_catch : A → Instructions A → Parts A → ℕ → Head A
  of_catch_all : A → Instructions A → Parts A → Head A

abbrev pub kind_of_head : {A : Type 0} → Head A → FrameKind
kind_of_head (of_nest n a) = kind_of_nest n
kind_of_head (of_if a) = frame.If
kind_of_head (of_else a body) = frame.Else
kind_of_head (of_try a) = frame.LegacyTry
kind_of_head (of_catch a body parts tag) = frame.LegacyCatch
kind_of_head (of_catch_all a body parts) = frame.LegacyCatchAll

abbrev pub walk_head : {A : Type 0} → Head A → List (Role A)
walk_head (of_nest n a) = opens n a ∷ []
walk_head (of_if a) = opens_if a ∷ []
walk_head (of_else a body) = opens_if a ∷ (walk_instructions body ++ turns_else ∷ [])
walk_head (of_try a) = opens_try a ∷ []
walk_head (of_catch a body parts tag) = opens_try a ∷ (walk_instructions body ++ (walk_parts parts ++ turns_catch tag ∷ []))
walk_head (of_catch_all a body parts) = opens_try a ∷ (walk_instructions body ++ (walk_parts parts ++ turns_catch_all ∷ []))

-- Roles in a body: complete instructions, then for each frame a head of its kind and what its body
-- holds.
abbrev pub OpenPathIn : {A : Type 0} → List (Role A) → List FrameKind → Type 0
OpenPathIn {A} roles [] = (whole : Instructions A) × (roles ≡ walk_instructions whole)
OpenPathIn {A} roles (kind ∷ frames) =
    (whole : Instructions A) × (head : Head A) × (inner : List (Role A)) × (kind_of_head head ≡ kind)
    × (roles ≡ walk_instructions whole ++ (walk_head head ++ inner)) × OpenPathIn inner frames

-- The roles begin an expression with these open frames; without frames, they are one.
abbrev pub OpenPath : {A : Type 0} → List (Role A) → List FrameKind → Type 0
OpenPath roles [] = IsWalk roles
OpenPath roles (kind ∷ frames) = (kind ≡ frame.Block) × OpenPathIn roles frames
