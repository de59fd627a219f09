-- The frame rules accept each walk, and close its frames.
use Rattle.std.proofs.Common.{◌≡◌, ℕ, List, [], ◌∷◌, ◌++◌, Some, refl, sym, ap, ◌∙◌, append_assoc}
use Rattle.std.specs.Option.{option_map, option_and_then}
use Rattle.wasm_grammar.specs.declared.frame_kind.FrameKind.{FrameKind}
use Rattle.wasm_grammar.specs.declared.frame_kind.FrameKind.TheVariants as frame
use Rattle.wasm_grammar.specs.Role.{Role, plain, opens, opens_if, opens_try, turns_else, turns_catch, turns_catch_all, delegates, ends}
use Rattle.wasm_grammar.specs.Tree.{Instruction, single, nest, if_one, if_two, try_handle, try_delegate, Instructions, nil, cons, Handlers, no_more, for_all, for_tag, walk_instruction, walk_instructions, walk_handlers, Expression, walk}
use Rattle.wasm_grammar.specs.Frames.{kind_of_nest, replacement, frames_after, frames_along}

pub frames_after_at : {A : Type 0} (outer : List FrameKind) (kind : FrameKind) (role : Role A) (next : List FrameKind) →
    replacement kind role ≡ Some next → frames_after (outer ++ kind ∷ []) role ≡ Some (outer ++ next)
frames_after_at [] kind role next e = e
frames_after_at (first ∷ []) kind role next e = ap (option_map (λ (frames : List FrameKind). first ∷ frames)) e
frames_after_at (first ∷ second ∷ outer) kind role next e =
    ap (option_map (λ (frames : List FrameKind). first ∷ frames)) (frames_after_at (second ∷ outer) kind role next e)

pub run_role : {A : Type 0} (outer : List FrameKind) (kind : FrameKind) (role : Role A) (next : List FrameKind)
    (rest : List (Role A)) →
    replacement kind role ≡ Some next →
    frames_along (outer ++ kind ∷ []) (role ∷ rest) ≡ frames_along (outer ++ next) rest
run_role outer kind role next rest e =
    ap (option_and_then (λ frames. frames_along frames rest)) (frames_after_at outer kind role next e)

pub run_inner_role : {A : Type 0} (outer : List FrameKind) (kind inner : FrameKind) (role : Role A)
    (next : List FrameKind) (rest : List (Role A)) →
    replacement inner role ≡ Some next →
    frames_along (outer ++ kind ∷ inner ∷ []) (role ∷ rest) ≡ frames_along (outer ++ kind ∷ next) rest
run_inner_role outer kind inner role next rest e =
    ap (λ frames. frames_along frames (role ∷ rest)) (sym (append_assoc outer (kind ∷ []) (inner ∷ []))) ∙
    run_role (outer ++ kind ∷ []) inner role next rest e ∙ ap (λ frames. frames_along frames rest) (append_assoc outer (kind ∷ []) next)

pub run_body : {A : Type 0} (outer : List FrameKind) (kind inner : FrameKind) (body close rest : List (Role A)) →
    frames_along ((outer ++ kind ∷ []) ++ inner ∷ []) (body ++ (close ++ rest)) ≡ frames_along ((outer ++ kind ∷ []) ++ inner ∷ []) (close ++ rest) →
    frames_along (outer ++ kind ∷ inner ∷ []) ((body ++ close) ++ rest) ≡ frames_along (outer ++ kind ∷ inner ∷ []) (close ++ rest)
run_body outer kind inner body close rest e =
    ap (frames_along (outer ++ kind ∷ inner ∷ [])) (append_assoc body close rest)
    ∙ ap (λ frames. frames_along frames (body ++ (close ++ rest))) (sym (append_assoc outer (kind ∷ []) (inner ∷ [])))
    ∙ e
    ∙ ap (λ frames. frames_along frames (close ++ rest)) (append_assoc outer (kind ∷ []) (inner ∷ []))

pub record Handles (A : Type 0) (inner : FrameKind) : Type 0 where
  pub tags : (tag : ℕ) → replacement {A = A} inner (turns_catch tag) ≡ Some (frame.LegacyCatch ∷ [])
  pub all : replacement {A = A} inner turns_catch_all ≡ Some (frame.LegacyCatchAll ∷ [])

pub handles_try : (A : Type 0) → Handles A frame.LegacyTry
handles_try A = record { tags = λ tag. refl; all = refl }

pub handles_catch : (A : Type 0) → Handles A frame.LegacyCatch
handles_catch A = record { tags = λ tag. refl; all = refl }

-- a complete tree leaves the frames unchanged, and the handlers of a try close its frame
mutual
  run_instruction : {A : Type 0} (instruction : Instruction A) (outer : List FrameKind) (kind : FrameKind)
      (rest : List (Role A)) →
      frames_along (outer ++ kind ∷ []) (walk_instruction instruction ++ rest) ≡ frames_along (outer ++ kind ∷ []) rest
  run_instruction (single a) outer kind rest = run_role outer kind (plain a) (kind ∷ []) rest refl
  run_instruction (nest n a body) outer kind rest =
      run_role outer kind (opens n a) (kind ∷ kind_of_nest n ∷ []) ((walk_instructions body ++ ends ∷ []) ++ rest) refl
      ∙ run_body outer kind (kind_of_nest n) (walk_instructions body) (ends ∷ []) rest
      (run_instructions body (outer ++ kind ∷ []) (kind_of_nest n) (ends ∷ rest))
      ∙ run_inner_role outer kind (kind_of_nest n) ends [] rest refl
  run_instruction (if_one a body) outer kind rest =
      run_role outer kind (opens_if a) (kind ∷ frame.If ∷ []) ((walk_instructions body ++ ends ∷ []) ++ rest) refl
      ∙ run_body outer kind frame.If (walk_instructions body) (ends ∷ []) rest (run_instructions body (outer ++ kind ∷ []) frame.If (ends ∷ rest))
      ∙ run_inner_role outer kind frame.If ends [] rest refl
  run_instruction (if_two a body other) outer kind rest =
      run_role outer kind (opens_if a) (kind ∷ frame.If ∷ []) ((walk_instructions body ++ turns_else ∷ (walk_instructions other ++ ends ∷ [])) ++ rest) refl
      ∙ run_body outer kind frame.If (walk_instructions body) (turns_else ∷ (walk_instructions other ++ ends ∷ [])) rest
      (run_instructions body (outer ++ kind ∷ []) frame.If (turns_else ∷ ((walk_instructions other ++ ends ∷ []) ++ rest)))
      ∙ run_inner_role outer kind frame.If turns_else (frame.Else ∷ []) ((walk_instructions other ++ ends ∷ []) ++ rest) refl
      ∙ run_body outer kind frame.Else (walk_instructions other) (ends ∷ []) rest (run_instructions other (outer ++ kind ∷ []) frame.Else (ends ∷ rest))
      ∙ run_inner_role outer kind frame.Else ends [] rest refl
  run_instruction {A} (try_handle a body handlers) outer kind rest =
      run_role outer kind (opens_try a) (kind ∷ frame.LegacyTry ∷ []) ((walk_instructions body ++ walk_handlers handlers) ++ rest) refl
      ∙ run_body outer kind frame.LegacyTry (walk_instructions body) (walk_handlers handlers) rest
      (run_instructions body (outer ++ kind ∷ []) frame.LegacyTry (walk_handlers handlers ++ rest))
      ∙ run_handlers handlers outer kind frame.LegacyTry rest (handles_try A)
  run_instruction (try_delegate a body depth) outer kind rest =
      run_role outer kind (opens_try a) (kind ∷ frame.LegacyTry ∷ []) ((walk_instructions body ++ delegates depth ∷ []) ++ rest) refl
      ∙ run_body outer kind frame.LegacyTry (walk_instructions body) (delegates depth ∷ []) rest
      (run_instructions body (outer ++ kind ∷ []) frame.LegacyTry (delegates depth ∷ rest))
      ∙ run_inner_role outer kind frame.LegacyTry (delegates depth) [] rest refl

  pub run_instructions : {A : Type 0} (body : Instructions A) (outer : List FrameKind) (kind : FrameKind)
      (rest : List (Role A)) →
      frames_along (outer ++ kind ∷ []) (walk_instructions body ++ rest) ≡ frames_along (outer ++ kind ∷ []) rest
  run_instructions nil outer kind rest = refl
  run_instructions (cons instruction body) outer kind rest =
      ap (frames_along (outer ++ kind ∷ [])) (append_assoc (walk_instruction instruction) (walk_instructions body) rest) ∙
      run_instruction instruction outer kind (walk_instructions body ++ rest) ∙ run_instructions body outer kind rest

  run_handlers : {A : Type 0} (handlers : Handlers A) (outer : List FrameKind) (kind inner : FrameKind)
      (rest : List (Role A)) →
      Handles A inner →
      frames_along (outer ++ kind ∷ inner ∷ []) (walk_handlers handlers ++ rest) ≡ frames_along (outer ++ kind ∷ []) rest
  run_handlers no_more outer kind inner rest handles = run_inner_role outer kind inner ends [] rest refl
  run_handlers (for_all body) outer kind inner rest handles =
      run_inner_role outer kind inner turns_catch_all (frame.LegacyCatchAll ∷ []) ((walk_instructions body ++ ends ∷ []) ++ rest) handles.all
      ∙ run_body outer kind frame.LegacyCatchAll (walk_instructions body) (ends ∷ []) rest
      (run_instructions body (outer ++ kind ∷ []) frame.LegacyCatchAll (ends ∷ rest))
      ∙ run_inner_role outer kind frame.LegacyCatchAll ends [] rest refl
  run_handlers {A} (for_tag tag body handlers) outer kind inner rest handles =
      run_inner_role outer kind inner (turns_catch tag) (frame.LegacyCatch ∷ []) ((walk_instructions body ++ walk_handlers handlers) ++ rest)
      (handles.tags tag)
      ∙ run_body outer kind frame.LegacyCatch (walk_instructions body) (walk_handlers handlers) rest
      (run_instructions body (outer ++ kind ∷ []) frame.LegacyCatch (walk_handlers handlers ++ rest))
      ∙ run_handlers handlers outer kind frame.LegacyCatch rest (handles_catch A)

pub run_walk : {A : Type 0} (tree : Expression A) → frames_along (frame.Block ∷ []) (walk tree) ≡ Some []
run_walk tree = run_instructions tree [] frame.Block (ends ∷ [])
