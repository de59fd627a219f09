use Rattle.std.proofs.Common.{◌≡◌, List, [], ◌∷◌, ◌++◌, Result, Ok, Err, Some, IfOk, refl, sym, ap, subst}
use Rattle.wasm_operators.specs.below.declared.error.Error.{Error}
use Rattle.wasm_operators.specs.grammar.declared.frame_kind.FrameKind.{FrameKind}
use Rattle.wasm_operators.specs.grammar.Frames.{frames_after}
use Rattle.wasm_operators.specs.grammar.OpenPath.{OpenPath}
use Rattle.wasm_operators.specs.grammar.Role.{Role}
use Rattle.wasm_operators.specs.instr.declared.operator.Operator.{Operator}
use Rattle.wasm_operators.specs.instr.Roles.{role_of, roles_of}
use Rattle.wasm_operators.specs.Next.{ReadsNext}
use Rattle.wasm_operators.specs.Reading.{State}

-- What the law `step_keeps_path` states of operators.
abbrev pub KeepsPath : Type 0
KeepsPath = (roles : List (Role Operator)) (frames : List FrameKind) (role : Role Operator) (next : List FrameKind) → OpenPath roles frames →
    frames_after frames role ≡ Some next → OpenPath (roles ++ role ∷ []) next

roles_more : (before : List Operator) (op : Operator) → roles_of (before ++ op ∷ []) ≡ roles_of before ++ role_of op ∷ []
roles_more [] op = refl
roles_more (first ∷ before) op = ap (λ roles. role_of first ∷ roles) (roles_more before op)

pub path_grows : (result : Result Operator Error) (old new : State) → KeepsPath → ReadsNext result old new →
    IfOk result (λ op. (before : List Operator) → OpenPath (roles_of before) old.frames → OpenPath (roles_of (before ++ op ∷ [])) new.frames)
path_grows (Ok op) old new keeps taken = λ before path.
    subst (λ roles. OpenPath roles new.frames) (sym (roles_more before op)) (keeps (roles_of before) old.frames (role_of op) new.frames path taken.frames)
path_grows (Err e) old new keeps stopped = tt
