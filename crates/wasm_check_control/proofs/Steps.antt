-- The steps of the algorithm, in the form of the program.
use Rattle.std.proofs.Common.{◌≡◌, Bool, true, false, if◌then◌else◌, List, [], ◌∷◌, ◌++◌, Option, Some, None, refl, sym, ap, ◌∙◌}
use Rattle.std.specs.Option.{option_map, option_and_then}
use Rattle.std.proofs.lemmas.List.{append-nil}
use Rattle.wasm_grammar.specs.Role.{Role, plain, opens, opens_if, opens_try, turns_else, turns_catch, turns_catch_all, delegates, ends}
use Rattle.wasm_typing.specs.declared.value_type.ValueType.TheVariants.{I32}
use Rattle.wasm_typing.specs.Types.{Stack, FunctionType}
use Rattle.wasm_typing.specs.Matching.{TypeOrder}
use Rattle.wasm_typing.specs.Rules.{Rule, invalid}
use Rattle.wasm_typing.specs.Checking.{State, state, pop, closes, run_rule}
use Rattle.wasm_typing.specs.Steps.{Construct, of_nest, of_if, Frame, opened, with_now, labels_of, may_end, receives, turned, step}
use Rattle.wasm_check_control.specs.State.{outermost, all_set, by_rule, opens_by, step_by}

opening : (construct : Construct) (f : FunctionType) (frame : Frame) (outer : List Frame) (o : Option Stack) →
    option_map (λ rest. opened construct f frame.now.set ∷ with_now frame (state rest frame.now.unreachable frame.now.set) ∷ outer) o ≡
    option_map (λ fs. opened construct f frame.now.set ∷ fs) (option_map (λ rest. with_now frame (state rest frame.now.unreachable frame.now.set) ∷ outer) o)
opening construct f frame outer None = refl
opening construct f frame outer (Some rest) = refl

none_opens : (O : TypeOrder) (construct : Construct) (first : Stack) (o : Option FunctionType) → opens_by O construct first o [] ≡ None
none_opens O construct first None = refl
none_opens O construct first (Some f) = refl

each : {A B : Type 0} (o : Option A) (f g : A → Option B) → ((a : A) → f a ≡ g a) → option_and_then f o ≡ option_and_then g o
each None f g e = refl
each (Some a) f g e = e a

turning : (frame : Frame) (outer : List Frame) (test : Bool) → (if test then turned frame.construct frame.type outer else None) ≡
    option_and_then (λ (e : Construct × FunctionType × List Frame). turned e.0 e.1 e.2) (if test then Some (frame.construct, frame.type, outer) else None)
turning frame outer true = refl
turning frame outer false = refl

closing : (O : TypeOrder) (frame : Frame) (outer : List Frame) (test : Bool) →
    (if test then (if may_end O frame.construct frame.type then Some (receives frame.type.leaves outer) else None) else None) ≡
    option_and_then (λ (e : Construct × FunctionType × List Frame). if may_end O e.0 e.1 then Some (receives e.1.leaves e.2) else None) (if test then Some (frame.construct, frame.type, outer) else None)
closing O frame outer true = refl
closing O frame outer false = refl

plainly : (frame : Frame) (outer : List Frame) (o : Option State) →
    option_map (λ now. with_now frame now ∷ outer) (option_map (λ (next : State). state next.operands next.unreachable frame.now.set) o) ≡
    option_map (λ (now : State). with_now frame (state now.operands now.unreachable frame.now.set) ∷ outer) o
plainly frame outer None = refl
plainly frame outer (Some next) = refl

module _ {A : Type 0} (O : TypeOrder) (rule : List Stack → A → Rule) (type : List Stack → A → Option FunctionType) where
  outside : (frames : List Frame) → labels_of frames ++ [] ≡ labels_of frames
  outside frames = append-nil (labels_of frames)

  pub step_is : (frames : List Frame) (role : Role A) → step (outermost (all_set O rule type)) frames role ≡ step_by (all_set O rule type) frames role
  step_is [] (plain op) = refl
  step_is (frame ∷ outer) (plain op) =
      plainly frame outer (run_rule O (rule (labels_of (frame ∷ outer) ++ []) op) frame.now) ∙
      ap (λ ls. by_rule O (rule ls op) (frame ∷ outer)) (outside (frame ∷ outer))
  step_is [] (opens n op) = sym (none_opens O (of_nest n) [] (type [] op))
  step_is (frame ∷ outer) (opens n op) =
      each (type (labels_of (frame ∷ outer) ++ []) op) _ _ (λ f. opening (of_nest n) f frame outer (pop O f.takes frame.now.operands frame.now.unreachable)) ∙
      ap (λ ls. opens_by O (of_nest n) [] (type ls op) (frame ∷ outer)) (outside (frame ∷ outer))
  step_is [] (opens_if op) = sym (none_opens O of_if (I32 ∷ []) (type [] op))
  step_is (frame ∷ outer) (opens_if op) =
      each (type (labels_of (frame ∷ outer) ++ []) op) _ _ (λ f. opening of_if f frame outer (pop O (I32 ∷ f.takes) frame.now.operands frame.now.unreachable)) ∙
      ap (λ ls. opens_by O of_if (I32 ∷ []) (type ls op) (frame ∷ outer)) (outside (frame ∷ outer))
  step_is [] turns_else = refl
  step_is (frame ∷ outer) turns_else = turning frame outer (closes O frame.type.leaves frame.now)
  step_is [] ends = refl
  step_is (frame ∷ outer) ends = closing O frame outer (closes O frame.type.leaves frame.now)
  step_is [] (opens_try op) = refl
  step_is (frame ∷ outer) (opens_try op) = refl
  step_is [] (turns_catch tag) = refl
  step_is (frame ∷ outer) (turns_catch tag) = refl
  step_is [] turns_catch_all = refl
  step_is (frame ∷ outer) turns_catch_all = refl
  step_is [] (delegates depth) = refl
  step_is (frame ∷ outer) (delegates depth) = refl

pub nothing : (O : TypeOrder) (frames : List Frame) → by_rule O invalid frames ≡ None
nothing O [] = refl
nothing O (f ∷ outer) = refl
