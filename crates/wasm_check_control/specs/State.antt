-- The state of the algorithm as a program keeps it, and what operators do to it.
-- WebAssembly Core Specification 3.0: Appendix, Validation Algorithm.
use Rattle.std.specs.Prelude.{◌≡◌, if◌then◌else◌, Bool, true, false, List, [], ◌∷◌, ◌++◌, reverse, Option, Some, None}
use Rattle.std.specs.Option.{option_map, option_and_then}
use Rattle.wasm_below.specs.declared.types.ValType.{ValType}
use Rattle.wasm_grammar.specs.Role.{block, loop, try_table, Role, plain, opens, opens_if, turns_else, ends}
use Rattle.wasm_typing.specs.declared.value_type.ValueType.{ValueType}
use Rattle.wasm_typing.specs.declared.value_type.ValueType.TheVariants.{I32}
use Rattle.wasm_typing.specs.declared.value_type.Heap.{Heap}
use Rattle.wasm_typing.specs.Types.{Stack, FunctionType}
use Rattle.wasm_typing.specs.Matching.{TypeOrder}
use Rattle.wasm_typing.specs.Checking.{state, pop, take_one, heap_of, closes, run_rule}
use Rattle.wasm_typing.specs.Rules.{Rule, Rules, Context}
use Rattle.wasm_typing.specs.Steps.{Construct, of_nest, of_if, of_else, with_now}
use Rattle.wasm_typing.specs.Steps as steps
use Rattle.wasm_check_control.specs.Environment.{stack_of}
use Rattle.wasm_check_control.specs.declared.frame.FrameKind.{FrameKind}
use Rattle.wasm_check_control.specs.declared.frame.FrameKind.TheVariants as kind
use Rattle.wasm_check_control.specs.declared.frame.Frame.{Frame}

-- The construct of a kind of frame.
abbrev pub construct_of : FrameKind → Construct
construct_of kind.Block = of_nest block
construct_of kind.Loop = of_nest loop
construct_of kind.If = of_if
construct_of kind.Else = of_else
construct_of kind.TryTable = of_nest try_table

-- One operand of this type, or with None, operands of these types.
abbrev pub results_of : Option ValueType → List ValType → Stack
results_of (Some ty) types = ty ∷ []
results_of None types = stack_of types

-- The type of the construct of a frame.
abbrev pub type_of_frame : Frame → FunctionType
type_of_frame f = record { takes = stack_of f.takes.now; leaves = results_of f.one f.leaves.now }

-- A frame with its operands. Only the locals of the start are set.
abbrev pub frame_of : Frame → Stack → steps.Frame
frame_of f s = record { construct = construct_of f.kind; type = type_of_frame f; now = state s f.unreachable [] }

abbrev pub frames_with : List Frame → List Stack → List steps.Frame
frames_with [] segments = []
frames_with (f ∷ fs) [] = []
frames_with (f ∷ fs) (s ∷ ss) = frame_of f s ∷ frames_with fs ss

-- The frames, if the innermost is kept apart from those around it.
abbrev pub frames_of : Option Frame → List Frame → List Frame
frames_of None around = []
frames_of (Some f) around = f ∷ reverse around

abbrev pub StandsAlone : Option Frame → List Frame → Type 0
StandsAlone None around = around ≡ []
StandsAlone (Some f) around = Unit {0}

-- The frames after operands of these types are taken from the innermost.
abbrev pub taken : TypeOrder → Stack → List steps.Frame → Option (List steps.Frame)
taken O takes [] = None
taken O takes (f ∷ outer) = option_map (λ rest. with_now f (state rest f.now.unreachable f.now.set) ∷ outer) (pop O takes f.now.operands f.now.unreachable)

-- The result says whether there are next frames, and if so, they are the new ones.
abbrev pub Answers : Bool → Option (List steps.Frame) → List steps.Frame → Type 0
Answers true next new = next ≡ Some new
Answers false next new = next ≡ None

-- The operand on top of the innermost frame, and the frames after it is taken.
abbrev pub took : List steps.Frame → Option (ValueType × List steps.Frame)
took [] = None
took (f ∷ outer) = option_map (λ (p : ValueType × Stack). (p.0, with_now f (state p.1 f.now.unreachable f.now.set) ∷ outer)) (take_one f.now.operands f.now.unreachable)

-- The heap type of the reference on top of the innermost frame, and the frames after it is taken.
abbrev pub took_ref : List steps.Frame → Option (Heap × List steps.Frame)
took_ref frames = option_and_then (λ (p : ValueType × List steps.Frame). option_map (λ (h : Heap). (h, p.1)) (heap_of p.0)) (took frames)

-- The frames after a jump.
abbrev pub jumped : List steps.Frame → List steps.Frame
jumped [] = []
jumped (f ∷ outer) = with_now f (state [] true f.now.set) ∷ outer

-- The frames around the innermost.
abbrev pub around : List steps.Frame → List steps.Frame
around [] = []
around (f ∷ outer) = outer

-- The innermost frame if it may end, and the frames around it.
abbrev pub ended : TypeOrder → List steps.Frame → Option (Construct × FunctionType × List steps.Frame)
ended O [] = None
ended O (f ∷ outer) = if closes O f.type.leaves f.now then Some (f.construct, f.type, outer) else None

-- The frames after a plain operator with this rule.
abbrev pub by_rule : TypeOrder → Rule → List steps.Frame → Option (List steps.Frame)
by_rule O r [] = None
by_rule O r (f ∷ outer) = option_map (λ now. with_now f (state now.operands now.unreachable f.now.set) ∷ outer) (run_rule O r f.now)

-- The frames after a construct of this type opens, which takes the operands `first` besides.
abbrev pub opens_by : TypeOrder → Construct → Stack → Option FunctionType → List steps.Frame → Option (List steps.Frame)
opens_by O construct first type frames =
    option_and_then (λ (f : FunctionType). option_map (λ fs. steps.opened construct f (steps.set_in frames) ∷ fs) (taken O (first ++ f.takes) frames)) type

-- The frames after an else.
abbrev pub turns_by : TypeOrder → List steps.Frame → Option (List steps.Frame)
turns_by O frames = option_and_then (λ (e : Construct × FunctionType × List steps.Frame). steps.turned e.0 e.1 e.2) (ended O frames)

-- The frames after an end.
abbrev pub ends_by : TypeOrder → List steps.Frame → Option (List steps.Frame)
ends_by O frames =
    option_and_then (λ (e : Construct × FunctionType × List steps.Frame). if steps.may_end O e.0 e.1 then Some (steps.receives e.1.leaves e.2) else None) (ended O frames)

-- What an if takes besides.
abbrev pub first_of : FrameKind → Stack
first_of kind.If = I32 ∷ []
first_of _ = []

-- The rules of a language in which every local is set at the start.
abbrev pub all_set : {A : Type 0} → TypeOrder → (List Stack → A → Rule) → (List Stack → A → Option FunctionType) → Rules A
all_set O rule type = record { order = O; rule = rule; type = type; is_set = λ x. true; needs = λ op. None; sets = λ op. [] }

-- The rules outside of every label.
abbrev pub outermost : {A : Type 0} → Rules A → Context A
outermost R = record { rules = R; labels = [] }

-- The frames after an operator with this role.
abbrev pub step_by : {A : Type 0} → Rules A → List steps.Frame → Role A → Option (List steps.Frame)
step_by R frames (plain op) = by_rule R.order (R.rule (steps.labels_of frames) op) frames
step_by R frames (opens n op) = opens_by R.order (of_nest n) [] (R.type (steps.labels_of frames) op) frames
step_by R frames (opens_if op) = opens_by R.order of_if (I32 ∷ []) (R.type (steps.labels_of frames) op) frames
step_by R frames turns_else = turns_by R.order frames
step_by R frames ends = ends_by R.order frames
step_by R frames _ = None
