-- Specification: Binary Format and Structure, Control Instructions and Expressions. Proposal legacy
-- exception handling.
use Rattle.std.specs.Prelude.{ℕ, List, [], ◌∷◌, ◌++◌}
use Rattle.wasm_grammar.specs.Role.{Nest, Role, plain, opens, opens_if, opens_try, turns_else, turns_catch, turns_catch_all, delegates, ends}

mutual
  -- A plain operator; a block, loop or try_table; an if; a try with handlers or a depth. A is what
  -- its operator carries.
  pub data Instruction (A : Type 0) : Type 0 where
    single : A → Instruction A
    nest : Nest → A → Instructions A → Instruction A
    if_one : A → Instructions A → Instruction A
    if_two : A → Instructions A → Instructions A → Instruction A
    try_handle : A → Instructions A → Handlers A → Instruction A
    try_delegate : A → Instructions A → ℕ → Instruction A

  pub data Instructions (A : Type 0) : Type 0 where
    nil : Instructions A
    cons : Instruction A → Instructions A → Instructions A

  -- What follows the body of a try: bodies for one tag each, then at most one for all tags.
  pub data Handlers (A : Type 0) : Type 0 where
    no_more : Handlers A
    for_all : Instructions A → Handlers A
    for_tag : ℕ → Instructions A → Handlers A → Handlers A

-- Instructions, without the `end` of the binary format.
abbrev pub Expression : Type 0 → Type 0
Expression A = Instructions A

-- The roles of the operators of a tree, in the order of the binary format.
abbrev mutual
  pub walk_instruction : {A : Type 0} → Instruction A → List (Role A)
  walk_instruction (single a) = plain a ∷ []
  walk_instruction (nest n a body) = opens n a ∷ (walk_instructions body ++ ends ∷ [])
  walk_instruction (if_one a body) = opens_if a ∷ (walk_instructions body ++ ends ∷ [])
  walk_instruction (if_two a body other) = opens_if a ∷ (walk_instructions body ++ turns_else ∷ (walk_instructions other ++ ends ∷ []))
  walk_instruction (try_handle a body handlers) = opens_try a ∷ (walk_instructions body ++ walk_handlers handlers)
  walk_instruction (try_delegate a body depth) = opens_try a ∷ (walk_instructions body ++ delegates depth ∷ [])

  pub walk_instructions : {A : Type 0} → Instructions A → List (Role A)
  walk_instructions nil = []
  walk_instructions (cons i is) = walk_instruction i ++ walk_instructions is

  pub walk_handlers : {A : Type 0} → Handlers A → List (Role A)
  walk_handlers no_more = ends ∷ []
  walk_handlers (for_all body) = turns_catch_all ∷ (walk_instructions body ++ ends ∷ [])
  walk_handlers (for_tag tag body more) = turns_catch tag ∷ (walk_instructions body ++ walk_handlers more)

-- An expression's roles, with its `end`.
abbrev pub walk : {A : Type 0} → Expression A → List (Role A)
walk tree = walk_instructions tree ++ ends ∷ []
