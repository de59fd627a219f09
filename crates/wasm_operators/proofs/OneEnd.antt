use Rattle.std.proofs.Common.{◌≡◌, ℕ, ◌+◌, List, [], ◌∷◌, ◌++◌, length, drop, Option, Some, None, refl, sym, subst, ap, ◌∙◌, append_assoc}
use Rattle.std.specs.Option.{option_map}
use Rattle.wasm_below.specs.declared.features.WasmFeatures.{WasmFeatures}
use Rattle.wasm_below.specs.Source.{Reader, rest, offset_of}
use Rattle.wasm_grammar.specs.declared.frame_kind.FrameKind.{FrameKind}
use Rattle.wasm_grammar.specs.declared.frame_kind.FrameKind.TheVariants as frame
use Rattle.wasm_grammar.specs.Role.{Role, plain, opens, opens_if, opens_try, turns_else, turns_catch, turns_catch_all, delegates, ends}
use Rattle.wasm_grammar.specs.Frames.{kind_of_nest, replacement, frames_after_in, frames_after, frames_along}
use Rattle.wasm_grammar.proofs.Runs.{bound}
use Rattle.wasm_instr.specs.declared.operator.Operator.{Operator}
use Rattle.wasm_instr.specs.declared.operator.Operator.TheVariants as operator
use Rattle.wasm_instr.specs.Encoding.{EncodesOperator}
use Rattle.wasm_instr.specs.Roles.{role_of, roles_of}
use Rattle.wasm_operators.specs.Expression.{Placed, operators, LaidOut, AreWalk, IsBeginningOf}
use Rattle.wasm_operators.proofs.LayoutLemmas.{operators-append}
use Rattle.wasm_operators.specs.Constant.{HasNoEnd, EndsOnce, EncodesConstantReader}
use Rattle.wasm_grammar.proofs.Paths.{some_is}

no_end_push : (ops : List Operator) (op : Operator) → HasNoEnd ops → (op ≡ operator.End → ⊥) → HasNoEnd (ops ++ op ∷ [])
no_end_push [] op h other = (other, tt)
no_end_push (x ∷ xs) op h other = (h.0, no_end_push xs op h.1 other)

pub passed_more : (placed : Placed) (op : Operator) (at : ℕ) → HasNoEnd (operators placed) → (op ≡ operator.End → ⊥) →
    HasNoEnd (operators (placed ++ (op, at) ∷ []))
passed_more placed op at h other = subst HasNoEnd (sym (operators-append placed ((op, at) ∷ []))) (no_end_push (operators placed) op h other)

pub passed_end : (placed : Placed) (op : Operator) (at : ℕ) → HasNoEnd (operators placed) → op ≡ operator.End → EndsOnce (operators (placed ++ (op, at) ∷ []))
passed_end placed op at h is = (operators placed, operators-append placed ((op, at) ∷ []) ∙ ap (λ (o : Operator). operators placed ++ o ∷ []) is, h)

has_end : (before more : List Operator) → HasNoEnd (before ++ operator.End ∷ more) → ⊥
has_end [] more h = h.0 refl
has_end (x ∷ xs) more h = has_end xs more h.1

pub not_beginning : (whole placed : Placed) → EndsOnce (operators whole) → HasNoEnd (operators placed) → IsBeginningOf whole placed → ⊥
not_beginning whole placed (before, e, n) h (more, eq) =
    let ops : operators placed ≡ before ++ operator.End ∷ operators more = ap operators eq ∙ operators-append whole more ∙ ap (λ z. z ++ operators more) e ∙
    append_assoc before (operator.End ∷ []) (operators more) in
    has_end before (operators more) (subst HasNoEnd ops h)

no_list : (xs ys : List Operator) (op : Operator) → xs ++ op ∷ ys ≡ [] → ⊥
no_list [] ys op e = cc e
no_list (x ∷ xs) ys op e = cc e

end_inside : (xs before ys : List Operator) (next : Operator) → xs ++ operator.End ∷ next ∷ ys ≡ before ++ operator.End ∷ [] → HasNoEnd before → ⊥
end_inside [] [] ys next e h = let t : next ∷ ys ≡ [] = cc e in cc t
end_inside (x ∷ xs) [] ys next e h = no_list xs (next ∷ ys) operator.End (cc e)
end_inside [] (b ∷ bs) ys next e h = h.0 (cc e)
end_inside (x ∷ xs) (b ∷ bs) ys next e h = end_inside xs bs ys next (cc e) h.1

pub not_longer : (placed whole others : Placed) (next : Operator × ℕ) → EndsOnce (operators placed) → EndsOnce (operators whole) →
    whole ≡ placed ++ next ∷ others → ⊥
not_longer placed whole others next (first, d, m) (before, e, n) eq =
    let ops : first ++ operator.End ∷ next.0 ∷ operators others ≡ before ++ operator.End ∷ [] =
    sym (append_assoc first (operator.End ∷ []) (next.0 ∷ operators others)) ∙ ap (λ z. z ++ next.0 ∷ operators others) (sym d) ∙
    sym (operators-append placed (next ∷ others)) ∙ ap operators (sym eq) ∙ e in
    end_inside first before (operators others) next.0 ops n

relocate : (f : WasmFeatures) (from to : ℕ) (ps : Placed) (bytes : List ℕ) → LaidOut f from bytes ps →
    (qs : Placed) × LaidOut f to bytes qs × (operators qs ≡ operators ps)
relocate f from to [] bytes l = ([], l, refl)
relocate f from to (p ∷ ps) bytes (at, text, more, parts, encodes, l) =
    let r = relocate f (from + length text) (to + length text) ps more l in
    ((p.0, to) ∷ r.0, (refl, text, more, parts, encodes, r.1), ap (λ (ops : List Operator). p.0 ∷ ops) r.2)

pub constant_at : (f : WasmFeatures) (text : List ℕ) (x : Reader) (offset : ℕ) → EncodesConstantReader f text x →
    (whole : Placed) × LaidOut f offset text whole × AreWalk (operators whole) × EndsOnce (operators whole)
constant_at f text x offset ((features, buffer, start, _), (placed, (laid, walked), once)) =
    let bytes : rest x ≡ text = ap (λ p. drop p x.buffer) start ∙ buffer in
    let here : LaidOut f (offset_of x) text placed =
    subst (λ bytes. LaidOut f (offset_of x) bytes placed) bytes (subst (λ g. LaidOut g (offset_of x) (rest x) placed) features laid) in
    let r = relocate f (offset_of x) offset placed text here in
    (r.0, r.1, subst AreWalk (sym r.2) walked, subst EndsOnce (sym r.2) once)

role_ends : (op : Operator) → role_of op ≡ ends → op ≡ operator.End
role_ends operator.End e = refl
role_ends _ e = absurd (cc e)

abbrev IsOpen : List FrameKind → Type 0
IsOpen frames = (inside : List FrameKind) × (frames ≡ frame.Block ∷ inside)

open_alone : {A : Type 0} (role : Role A) (next : List FrameKind) → (role ≡ ends → ⊥) → replacement frame.Block role ≡ Some next → IsOpen next
open_alone (plain a) next other e = ([], sym (some_is e))
open_alone (opens n a) next other e = (kind_of_nest n ∷ [], sym (some_is e))
open_alone (opens_if a) next other e = (frame.If ∷ [], sym (some_is e))
open_alone (opens_try a) next other e = (frame.LegacyTry ∷ [], sym (some_is e))
open_alone ends next other e = absurd (other refl)
open_alone turns_else next other e = absurd (cc e)
open_alone (turns_catch tag) next other e = absurd (cc e)
open_alone turns_catch_all next other e = absurd (cc e)
open_alone (delegates depth) next other e = absurd (cc e)

open_around : (o : Option (List FrameKind)) (next : List FrameKind) → option_map (λ frames. frame.Block ∷ frames) o ≡ Some next → IsOpen next
open_around None next e = absurd (cc e)
open_around (Some inside) next e = (inside, sym (some_is e))

open_step : {A : Type 0} (inside next : List FrameKind) (role : Role A) → (role ≡ ends → ⊥) → frames_after (frame.Block ∷ inside) role ≡ Some next → IsOpen next
open_step [] next role other e = open_alone role next other e
open_step (kind ∷ inside) next role other e = open_around (frames_after_in kind inside role) next e

open_along : (ops : List Operator) (inside frames : List FrameKind) → HasNoEnd ops →
    frames_along (frame.Block ∷ inside) (roles_of ops) ≡ Some frames → IsOpen frames
open_along [] inside frames h e = (inside, sym (some_is e))
open_along (op ∷ ops) inside frames h e =
    let b = bound (λ next. frames_along next (roles_of ops)) (frames_after (frame.Block ∷ inside) (role_of op)) frames e in
    let o = open_step inside b.0 (role_of op) (λ is. h.0 (role_ends op is)) b.1 in
    open_along ops o.0 frames h.1 (ap (λ next. frames_along next (roles_of ops)) (sym o.1) ∙ b.2)

pub stays_open : (ops : List Operator) (frames : List FrameKind) → HasNoEnd ops → frames_along (frame.Block ∷ []) (roles_of ops) ≡ Some frames → frames ≡ [] → ⊥
stays_open ops frames h e none = let o = open_along ops [] frames h e in cc (none, o.1)

pub end_byte : (f : WasmFeatures) (text : List ℕ) → EncodesOperator f text operator.End → text ≡ 0x0b ∷ []
end_byte f text s = s.parts ∙ ap (λ head. head ++ s.after) s.code ∙ ap (λ (after : List ℕ). 0x0b ∷ after) s.immediates
