-- Operands of one type, as many as a number, and any operands in unreachable code.
use Rattle.std.proofs.Common.{◌≡◌, ℕ, ◌+◌, ◌-◌, ◌<◌, ◌≤◌, true, List, [], ◌∷◌, length, reverse, replicate, Option, Some, None, refl, sym, ap, ◌∙◌, arith}
use Rattle.std.specs.Option.{option_map, option_and_then}
use Rattle.std.proofs.lemmas.List.{replicate-append-replicate, replicate_more}
use Rattle.wasm_typing.specs.declared.value_type.ValueType.{ValueType}
use Rattle.wasm_typing.specs.Types.{Stack}
use Rattle.wasm_typing.specs.Matching.{TypeOrder}
use Rattle.wasm_typing.specs.Checking.{state, pop}
use Rattle.wasm_typing.specs.Steps.{Frame, with_now}
use Rattle.wasm_check_control.specs.Segments.{innermost}
use Rattle.wasm_check_control.specs.State.{frame_of, frames_with, frames_of, taken}
use Rattle.wasm_check_control.specs.declared.frame.Frame as control
use Rattle.wasm_check_control.proofs.Taking.{taken-append}

module _ (O : TypeOrder) (v : ValueType) (before now : List Frame) (i n : ℕ) (within : i ≤ n) (is : taken O (replicate i v) before ≡ Some now) where
  rest_taken : taken O (replicate n v) before ≡ taken O (replicate (n - i) v) now
  rest_taken =
      ap (λ k. taken O (replicate k v) before) (let e : n ≡ i + (n - i) = omega (arith, within) in e) ∙
      ap (λ s. taken O s before) (sym (replicate-append-replicate i (n - i) v)) ∙
      taken-append O (replicate i v) (replicate (n - i) v) before ∙ ap (option_and_then (taken O (replicate (n - i) v))) is

  -- Any operands are there.
  pub any_taken : ((s : Stack) → taken O s now ≡ Some now) → taken O (replicate n v) before ≡ Some now
  any_taken any = rest_taken ∙ any (replicate (n - i) v)

pub one_more_taken : (O : TypeOrder) (v : ValueType) (before now : List Frame) (i : ℕ) (next : Option (List Frame)) → taken O (replicate i v) before ≡ Some now → taken O (v ∷ []) now ≡ next →
    taken O (replicate (i + 1) v) before ≡ next
one_more_taken O v before now i next is e =
    ap (λ s. taken O s before) (sym (replicate_more i v)) ∙ taken-append O (replicate i v) (v ∷ []) before ∙ ap (option_and_then (taken O (v ∷ []))) is ∙ e

pub none_more_taken : (O : TypeOrder) (v : ValueType) (before now : List Frame) (i n : ℕ) → i < n → taken O (replicate i v) before ≡ Some now → taken O (v ∷ []) now ≡ None →
    taken O (replicate n v) before ≡ None
none_more_taken O v before now i n p is e =
    ap (λ k. taken O (replicate k v) before) (let e : n ≡ (i + 1) + (n - (i + 1)) = omega (arith, p) in e) ∙
    ap (λ s. taken O s before) (sym (replicate-append-replicate (i + 1) (n - (i + 1)) v)) ∙
    taken-append O (replicate (i + 1) v) (replicate (n - (i + 1)) v) before ∙
    ap (option_and_then (taken O (replicate (n - (i + 1)) v))) (one_more_taken O v before now i None is e)

module _ (O : TypeOrder) where
  pop_any : (s : Stack) → pop O s [] true ≡ Some []
  pop_any [] = refl
  pop_any (v ∷ s) = pop_any s

  -- In unreachable code without an operand, any are there.
  pub any_here : (current : Option control.Frame) (around : List control.Frame) (segs : List Stack) (old : List Frame) (f : control.Frame) → current ≡ Some f → f.unreachable ≡ true →
      length (frames_of current around) ≡ length segs → frames_with (frames_of current around) segs ≡ old → innermost segs ≡ [] → (s : Stack) → taken O s old ≡ Some old
  any_here None around segs old f e u n is none s = absurd (cc e)
  any_here (Some g) around [] old f e u n is none s = absurd (omega (arith, n))
  any_here (Some g) around (ks ∷ segs) old f e u n is none s =
      let same : g ≡ f = cc e in
      ap (taken O s) (sym is) ∙
      ap (option_map (λ rest. with_now (frame_of g ks) (state rest g.unreachable []) ∷ frames_with (reverse around) segs))
      (ap (λ x. pop O s x g.unreachable) none ∙ ap (pop O s []) (ap (λ (x : control.Frame). x.unreachable) same ∙ u) ∙ pop_any s ∙ ap (λ x. Some x) (sym none)) ∙
      ap (λ fs. Some fs) is
