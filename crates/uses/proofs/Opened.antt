use Rattle.std.proofs.Common.{◌≡◌, ℕ, ◌+◌, ◌-◌, List, [], ◌∷◌, length, Option, Some, None, refl, sym, ap, subst, ◌∙◌, arith}
use Rattle.std.specs.Option.{option_map}
use Rattle.std.proofs.lemmas.Option.{option_and_then_some}
use Rattle.wasm_operators.specs.grammar.declared.frame_kind.FrameKind.{FrameKind}
use Rattle.wasm_operators.specs.grammar.declared.frame_kind.FrameKind.TheVariants as frame
use Rattle.wasm_operators.specs.grammar.Role.{Role, plain, opens, opens_if, opens_try, turns_else, turns_catch, turns_catch_all, delegates, ends}
use Rattle.wasm_operators.specs.grammar.Frames.{replacement, frames_after_in, frames_after, frames_along}
use Rattle.wasm_operators.specs.instr.declared.operator.Operator.{Operator}
use Rattle.wasm_operators.specs.instr.declared.operator.Operator.TheVariants as operator
use Rattle.wasm_operators.specs.instr.Roles.{role_of, roles_of}
use Rattle.uses.specs.Frames as count

abbrev opened : {A : Type 0} → Role A → ℕ
opened (opens n a) = 1
opened (opens_if a) = 1
opened (opens_try a) = 1
opened _ = 0

abbrev closed : {A : Type 0} → Role A → ℕ
closed ends = 1
closed (delegates depth) = 1
closed _ = 0

abbrev one : Option (List FrameKind) → ℕ → ℕ → Type 0
one None n m = Unit {0}
one (Some out) n m = length out + m ≡ 1 + n

replaced : {A : Type 0} (kind : FrameKind) (role : Role A) → one (replacement kind role) (opened role) (closed role)
replaced kind (plain a) = refl
replaced kind (opens n a) = refl
replaced kind (opens_if a) = refl
replaced kind (opens_try a) = refl
replaced kind ends = refl
replaced frame.If turns_else = refl
replaced frame.LegacyTry (turns_catch tag) = refl
replaced frame.LegacyCatch (turns_catch tag) = refl
replaced frame.LegacyTry turns_catch_all = refl
replaced frame.LegacyCatch turns_catch_all = refl
replaced frame.LegacyTry (delegates depth) = refl
replaced _ _ = tt

after_in : {A : Type 0} (kind : FrameKind) (inside : List FrameKind) (role : Role A) (next : List FrameKind) →
    frames_after_in kind inside role ≡ Some next → length next + closed role ≡ length (kind ∷ inside) + opened role
after_in kind [] role next is =
    let h : one (Some next) (opened role) (closed role) = subst (λ o. one o (opened role) (closed role)) is (replaced kind role) in
    h
after_in kind (inner ∷ inside) role next is =
    map_some (frames_after_in inner inside role) is (λ after there same.
    let rest = after_in inner inside role after there in
    let all : length next ≡ length after + 1 = ap length (sym same) ∙ omega arith in
    omega (arith, rest, all))
  where
    map_some : {P : Type 0} (o : Option (List FrameKind)) → option_map (λ frames. kind ∷ frames) o ≡ Some next →
        ((after : List FrameKind) → o ≡ Some after → kind ∷ after ≡ next → P) → P
    map_some None e k = absurd (cc)
    map_some (Some after) e k = k after refl cc

after : {A : Type 0} (frames : List FrameKind) (role : Role A) (next : List FrameKind) → frames_after frames role ≡ Some next →
    length next + closed role ≡ length frames + opened role
after [] role next is = absurd (cc)
after (kind ∷ inside) role next is = after_in kind inside role next is

by_role : (op : Operator) → (opened (role_of op) ≡ count.opens op) × (closed (role_of op) ≡ count.closes op)
by_role (operator.Block _) = (refl, refl)
by_role (operator.Loop _) = (refl, refl)
by_role (operator.If _) = (refl, refl)
by_role (operator.Try _) = (refl, refl)
by_role (operator.TryTable _) = (refl, refl)
by_role operator.Else = (refl, refl)
by_role (operator.Catch _) = (refl, refl)
by_role operator.CatchAll = (refl, refl)
by_role operator.End = (refl, refl)
by_role (operator.Delegate _) = (refl, refl)
by_role _ = (refl, refl)

pub open_along : (ops : List Operator) (frames next : List FrameKind) → frames_along frames (roles_of ops) ≡ Some next →
    count.open_after (length frames) ops ≡ length next
open_along [] frames next is = ap length some
  where
    some : frames ≡ next
    some = cc
open_along (op ∷ ops) frames next is =
    option_and_then_some _ (frames_after frames (role_of op)) next is (λ between there later.
    let step = after frames (role_of op) between there in
    let same = by_role op in
    let now : length frames + count.opens op - count.closes op ≡ length between = omega (arith, step, same.0, same.1) in
    ap (λ n. count.open_after n ops) now ∙ open_along ops between next later)
