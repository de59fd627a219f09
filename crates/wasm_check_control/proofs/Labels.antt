-- The labels of the control frames, by their depth.
use Rattle.std.proofs.Common.{◌≡◌, ℕ, zero, suc, ◌-◌, ◌<◌, ◌≤◌, List, [], ◌∷◌, length, map, reverse, get_or, Option, Some, None, refl, sym, ap, ◌∙◌, arith}
use Rattle.std.proofs.lemmas.List.{get_or-reverse, length-reverse}
use Rattle.wasm_typing.specs.Types.{Stack}
use Rattle.wasm_typing.specs.Rules.{at}
use Rattle.wasm_typing.specs.Steps.{frame_label, labels_of}
use Rattle.wasm_typing.specs.Steps as steps
use Rattle.wasm_check_control.specs.declared.frame.Frame.{Frame}
use Rattle.wasm_check_control.specs.State.{construct_of, type_of_frame, frames_with, frames_of, StandsAlone}
use Rattle.wasm_check_control.specs.State.{around as outside}

unfoldable pub label_of_frame : Frame → Stack
label_of_frame f = frame_label (construct_of f.kind) (type_of_frame f)

labels_map : (fs : List Frame) (ss : List Stack) → length fs ≡ length ss → labels_of (frames_with fs ss) ≡ map label_of_frame fs
unfolding label_of_frame
labels_map [] ss e = refl
labels_map (f ∷ fs) [] e = absurd (omega (arith, e))
labels_map (f ∷ fs) (s ∷ ss) e = ap (λ l. label_of_frame f ∷ l) (labels_map fs ss (omega (arith, e)))

at_map : (fs : List Frame) (k : ℕ) (x : Frame) → k < length fs → at (map label_of_frame fs) k ≡ Some (label_of_frame (get_or fs k x))
at_map [] k x p = absurd (omega (arith, p))
at_map (f ∷ fs) zero x p = refl
at_map (f ∷ fs) (suc k) x p = at_map fs k x (omega (arith, p))

at_past : (ls : List Stack) (k : ℕ) → length ls ≤ k → at ls k ≡ None
at_past [] k p = refl
at_past (l ∷ ls) zero p = absurd (omega (arith, p))
at_past (l ∷ ls) (suc k) p = at_past ls k (omega (arith, p))

map_length : (fs : List Frame) → length (map label_of_frame fs) ≡ length fs
map_length [] = refl
map_length (f ∷ fs) = ap suc (map_length fs)

around_at : (around : List Frame) (depth : ℕ) (x f : Frame) → (depth ≡ 0 → ⊥) → depth ≤ length around →
    at (map label_of_frame (f ∷ reverse around)) depth ≡ Some (label_of_frame (get_or around (length around - depth) x))
around_at around zero x f nonzero p = absurd (nonzero refl)
around_at around (suc k) x f nonzero p =
    at_map (reverse around) k x (let n = length-reverse around in omega (arith, p, n)) ∙
    ap (λ y. Some (label_of_frame y)) (get_or-reverse around k x (omega (arith, p)) ∙
    ap (λ j. get_or around j x) (let e : length around - 1 - k ≡ length around - suc k = omega arith in e))

pub label_there : (current : Option Frame) (around : List Frame) (ss : List Stack) (old : List steps.Frame) →
    length (frames_of current around) ≡ length ss → StandsAlone current around → frames_with (frames_of current around) ss ≡ old →
    (depth : ℕ) (x : Frame) → (depth ≡ 0 → ⊥) → depth ≤ length around →
    at (labels_of old) depth ≡ Some (label_of_frame (get_or around (length around - depth) x))
label_there None around ss old e alone is depth x nonzero p = absurd (nonzero (let n : length around ≡ 0 = ap length alone in omega (arith, n, p)))
label_there (Some f) around ss old e alone is depth x nonzero p =
    ap (λ o. at (labels_of o) depth) (sym is) ∙ ap (λ l. at l depth) (labels_map (f ∷ reverse around) ss e) ∙ around_at around depth x f nonzero p

pub label_past : (current : Option Frame) (around : List Frame) (ss : List Stack) (old : List steps.Frame) →
    length (frames_of current around) ≡ length ss → StandsAlone current around → frames_with (frames_of current around) ss ≡ old →
    (depth : ℕ) → (depth ≡ 0 → ⊥) → length around < depth → at (labels_of old) depth ≡ None
label_past None around ss old e alone is depth nonzero p = ap (λ o. at (labels_of o) depth) (sym is)
label_past (Some f) around ss old e alone is depth nonzero p =
    ap (λ o. at (labels_of o) depth) (sym is) ∙ ap (λ l. at l depth) (labels_map (f ∷ reverse around) ss e) ∙
    at_past (map label_of_frame (f ∷ reverse around)) depth
    (let n = map_length (f ∷ reverse around) in let m = length-reverse around in omega (arith, n, m, p))

-- Whether a frame is around the innermost.
frames_none : (fs : List Frame) (ss : List Stack) → length fs ≡ length ss → frames_with fs ss ≡ [] → fs ≡ []
frames_none [] ss n e = refl
frames_none (f ∷ fs) [] n e = absurd (omega (arith, n))
frames_none (f ∷ fs) (s ∷ ss) n e = absurd (cc e)

none_reversed : (fs : List Frame) → reverse fs ≡ [] → fs ≡ []
none_reversed [] e = refl
none_reversed (f ∷ fs) e = let n = length-reverse (f ∷ fs) in let z : length (reverse (f ∷ fs)) ≡ 0 = ap length e in absurd (omega (arith, n, z))

pub outermost_there : (current : Option Frame) (around : List Frame) (ss : List Stack) (old : List steps.Frame) →
    length (frames_of current around) ≡ length ss → StandsAlone current around → frames_with (frames_of current around) ss ≡ old →
    (around ≡ [] → outside old ≡ []) × (outside old ≡ [] → around ≡ [])
outermost_there None around ss old n alone is = (λ e. ap outside (sym is), λ e. alone)
outermost_there (Some f) around [] old n alone is = absurd (omega (arith, n))
outermost_there (Some f) around (s ∷ ss) old n alone is = (
  λ e. ap outside (sym is) ∙ ap (λ a. frames_with (reverse a) ss) e,
  λ e. none_reversed around (frames_none (reverse around) ss (omega (arith, n)) (ap outside is ∙ e)),
)
