-- Along an open path the frame rules lead to its frames.
use Rattle.std.proofs.Common.{◌≡◌, List, [], ◌∷◌, ◌++◌, Option, Some, refl, sym, ap, ◌∙◌, append_assoc}
use Rattle.std.proofs.lemmas.List.{append-nil}
use Rattle.wasm_grammar.specs.declared.frame_kind.FrameKind.{FrameKind}
use Rattle.wasm_grammar.specs.declared.frame_kind.FrameKind.TheVariants as frame
use Rattle.wasm_grammar.specs.Role.{Role, opens, opens_if, opens_try, turns_else, turns_catch, turns_catch_all}
use Rattle.wasm_grammar.specs.Tree.{Instructions, walk_instructions}
use Rattle.wasm_grammar.specs.Frames.{kind_of_nest, replacement, frames_along}
use Rattle.wasm_grammar.specs.OpenPath.{Parts, walk_parts, Head, of_nest, of_if, of_else, of_try, of_catch, of_catch_all, kind_of_head, walk_head, OpenPathIn, OpenPath}
use Rattle.wasm_grammar.proofs.Accepts.{run_role, run_inner_role, run_body, Handles, handles_try, handles_catch, run_instructions, run_walk}

abbrev some : {X : Type 0} → X → Option X
some x = Some x

run_parts : {A : Type 0} (parts : Parts A) (outer : List FrameKind) (kind inner : FrameKind) (role : Role A)
    (next : FrameKind) (rest : List (Role A)) →
    Handles A inner → replacement inner role ≡ Some (next ∷ []) →
    replacement frame.LegacyCatch role ≡ Some (next ∷ []) →
    frames_along (outer ++ kind ∷ inner ∷ []) (walk_parts parts ++ role ∷ rest) ≡ frames_along (outer ++ kind ∷ next ∷ []) rest
run_parts [] outer kind inner role next rest handles at_inner at_catch =
    run_inner_role outer kind inner role (next ∷ []) rest at_inner
run_parts {A} (part ∷ parts) outer kind inner role next rest handles at_inner at_catch =
    run_inner_role outer kind inner (turns_catch part.0) (frame.LegacyCatch ∷ []) ((walk_instructions part.1 ++ walk_parts parts) ++ role ∷ rest)
    (handles.tags part.0)
    ∙ run_body outer kind frame.LegacyCatch (walk_instructions part.1) (walk_parts parts) (role ∷ rest)
    (run_instructions part.1 (outer ++ kind ∷ []) frame.LegacyCatch (walk_parts parts ++ role ∷ rest))
    ∙ run_parts parts outer kind frame.LegacyCatch role next rest (handles_catch A) at_catch at_catch

run_tries : {A : Type 0} (a : A) (body : Instructions A) (parts : Parts A) (role : Role A) (next : FrameKind)
    (outer : List FrameKind) (kind : FrameKind) (rest : List (Role A)) →
    replacement frame.LegacyTry role ≡ Some (next ∷ []) → replacement frame.LegacyCatch role ≡ Some (next ∷ []) →
    frames_along (outer ++ kind ∷ []) (opens_try a ∷ ((walk_instructions body ++ (walk_parts parts ++ role ∷ [])) ++ rest)) ≡ frames_along
    (outer ++ kind ∷ next ∷ []) rest
run_tries {A} a body parts role next outer kind rest at_try at_catch =
    run_role outer kind (opens_try a) (kind ∷ frame.LegacyTry ∷ []) ((walk_instructions body ++ (walk_parts parts ++ role ∷ [])) ++ rest) refl
    ∙ run_body outer kind frame.LegacyTry (walk_instructions body) (walk_parts parts ++ role ∷ []) rest
    (run_instructions body (outer ++ kind ∷ []) frame.LegacyTry ((walk_parts parts ++ role ∷ []) ++ rest))
    ∙ ap (frames_along (outer ++ kind ∷ frame.LegacyTry ∷ [])) (append_assoc (walk_parts parts) (role ∷ []) rest)
    ∙ run_parts parts outer kind frame.LegacyTry role next rest (handles_try A) at_try at_catch

run_head : {A : Type 0} (head : Head A) (outer : List FrameKind) (kind : FrameKind) (rest : List (Role A)) →
    frames_along (outer ++ kind ∷ []) (walk_head head ++ rest) ≡ frames_along (outer ++ kind ∷ kind_of_head head ∷ []) rest
run_head (of_nest n a) outer kind rest = run_role outer kind (opens n a) (kind ∷ kind_of_nest n ∷ []) rest refl
run_head (of_if a) outer kind rest = run_role outer kind (opens_if a) (kind ∷ frame.If ∷ []) rest refl
run_head (of_try a) outer kind rest = run_role outer kind (opens_try a) (kind ∷ frame.LegacyTry ∷ []) rest refl
run_head (of_else a body) outer kind rest =
    run_role outer kind (opens_if a) (kind ∷ frame.If ∷ []) ((walk_instructions body ++ turns_else ∷ []) ++ rest) refl
    ∙ run_body outer kind frame.If (walk_instructions body) (turns_else ∷ []) rest (run_instructions body (outer ++ kind ∷ []) frame.If (turns_else ∷ rest))
    ∙ run_inner_role outer kind frame.If turns_else (frame.Else ∷ []) rest refl
run_head (of_catch a body parts tag) outer kind rest =
    run_tries a body parts (turns_catch tag) frame.LegacyCatch outer kind rest refl refl
run_head (of_catch_all a body parts) outer kind rest =
    run_tries a body parts turns_catch_all frame.LegacyCatchAll outer kind rest refl refl

run_in : {A : Type 0} (frames outer : List FrameKind) (kind : FrameKind) (roles : List (Role A)) →
    OpenPathIn roles frames → frames_along (outer ++ kind ∷ []) roles ≡ Some ((outer ++ kind ∷ []) ++ frames)
run_in [] outer kind roles (whole, e) =
    ap (frames_along (outer ++ kind ∷ [])) (e ∙ sym (append-nil (walk_instructions whole)))
    ∙ run_instructions whole outer kind []
    ∙ ap (λ (x : List FrameKind). some x) (sym (append-nil (outer ++ kind ∷ [])))
run_in (next ∷ frames) outer kind roles (whole, head, inner, kind_is, roles_are, path) =
    ap (frames_along (outer ++ kind ∷ [])) roles_are
    ∙ run_instructions whole outer kind (walk_head head ++ inner)
    ∙ run_head head outer kind inner
    ∙ ap (λ x. frames_along (outer ++ kind ∷ x ∷ []) inner) kind_is
    ∙ ap (λ x. frames_along x inner) (sym (append_assoc outer (kind ∷ []) (next ∷ [])))
    ∙ run_in frames (outer ++ kind ∷ []) next inner path
    ∙ ap (λ (x : List FrameKind). some x) (append_assoc (outer ++ kind ∷ []) (next ∷ []) frames)

pub run_path : {A : Type 0} (frames : List FrameKind) (roles : List (Role A)) →
    OpenPath roles frames → frames_along (frame.Block ∷ []) roles ≡ Some frames
run_path [] roles (tree, e) = ap (frames_along (frame.Block ∷ [])) e ∙ run_walk tree
run_path (kind ∷ frames) roles (kind_is, path) =
    run_in frames [] frame.Block roles path ∙ ap (λ (x : FrameKind). some (x ∷ frames)) (sym kind_is)

pub some_is : {X : Type 0} {x y : X} → Some x ≡ Some y → x ≡ y
some_is e = cc

pub same_frames : {A : Type 0} (first second : List FrameKind) (roles : List (Role A)) →
    OpenPath roles first → OpenPath roles second → first ≡ second
same_frames first second roles p q = some_is (sym (run_path first roles p) ∙ run_path second roles q)
