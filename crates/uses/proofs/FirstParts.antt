-- The operators that were read are the longest prefix of an expression, and `end`s complete them.
use Rattle.std.proofs.Common.{◌≡◌, ℕ, List, [], ◌∷◌, ◌++◌, length, replicate, zero, suc, Some, refl, ap}
use Rattle.wasm_operators.specs.below.declared.message.Message.{Message}
use Rattle.wasm_operators.specs.below.declared.message.Message.TheVariants as message
use Rattle.wasm_operators.specs.below.Source.{Reader, source_of}
use Rattle.wasm_operators.specs.grammar.declared.frame_kind.FrameKind.{FrameKind}
use Rattle.wasm_operators.specs.grammar.declared.frame_kind.FrameKind.TheVariants as frame
use Rattle.wasm_operators.specs.grammar.Role.{Role, ends}
use Rattle.wasm_operators.specs.grammar.Beginning.{IsWalk}
use Rattle.wasm_operators.specs.grammar.Frames.{frames_along}
use Rattle.wasm_operators.specs.instr.declared.operator.Operator.{Operator}
use Rattle.wasm_operators.specs.instr.declared.operator.Operator.TheVariants as operator
use Rattle.wasm_operators.specs.instr.Roles.{role_of, roles_of}
use Rattle.wasm_operators.specs.Expression.{Placed, AreWalk, IsAny, IsLongestBeginning}
use Rattle.wasm_operators.specs.MainTheorem.{BeginningAt}
use Rattle.uses.specs.Frames.{open_after}
use Rattle.uses.proofs.Opened.{open_along}

pub longest_at : (m : Message) (r : Reader) (placed : Placed) → (m ≡ message.OutOfMemory → ⊥) → BeginningAt IsAny m [] r placed →
    IsLongestBeginning (source_of r) placed
longest_at message.OutOfMemory r placed other h = absurd (other refl)
longest_at _ r placed other h = h

roles_ended : (ops : List Operator) (n : ℕ) → roles_of (ops ++ replicate n operator.End) ≡ roles_of ops ++ replicate n ends
roles_ended [] zero = refl
roles_ended [] (suc n) = ap (λ roles. ends ∷ roles) (roles_ended [] n)
roles_ended (op ∷ ops) n = ap (λ roles. role_of op ∷ roles) (roles_ended ops n)

pub ends_complete : (ops : List Operator) (frames : List FrameKind) →
    ((roles : List (Role Operator)) (next : List FrameKind) → frames_along (frame.Block ∷ []) roles ≡ Some next → IsWalk (roles ++ replicate (length next) ends)) →
    frames_along (frame.Block ∷ []) (roles_of ops) ≡ Some frames → AreWalk (ops ++ replicate (open_after 1 ops) operator.End)
ends_complete ops frames law along =
    let count = open_along ops (frame.Block ∷ []) frames along in
    rw (count, roles_ended ops (length frames)) (law (roles_of ops) frames along)
