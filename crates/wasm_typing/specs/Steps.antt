-- The validation algorithm along operators. WebAssembly Core Specification 3.0: Appendix, Validation
-- Algorithm.
use Rattle.std.specs.Prelude.{◌≡◌, ℕ, Bool, true, false, if◌then◌else◌, List, [], ◌∷◌, ◌++◌, map, Option, Some, None}
use Rattle.std.specs.Option.{option_map, option_and_then}
use Rattle.wasm_grammar.specs.Role.{Nest, block, Role, plain, opens, opens_if, turns_else, ends}
use Rattle.wasm_grammar.specs.Tree.{Expression, walk}
use Rattle.wasm_grammar.specs.declared.frame_kind.FrameKind.{FrameKind}
use Rattle.wasm_grammar.specs.declared.frame_kind.FrameKind.TheVariants as frame_kind
use Rattle.wasm_grammar.specs.Frames.{kind_of_nest}
use Rattle.wasm_typing.specs.declared.value_type.ValueType.TheVariants.{I32}
use Rattle.wasm_typing.specs.Types.{Stack, FunctionType}
use Rattle.wasm_typing.specs.Matching.{TypeOrder}
use Rattle.wasm_typing.specs.Rules.{jumps, Context, order_of, construct_type, label_of}
use Rattle.wasm_typing.specs.Typing.{ExpressionTyped}
use Rattle.wasm_typing.specs.Checking.{State, state, pop, run_plain, closes}

-- The construct of a control frame.
pub data Construct : Type 0 where
  of_nest : Nest → Construct
  of_if of_else : Construct

-- A control frame: its construct, the type of the construct, and the state in it.
pub record Frame : Type 0 where
  pub construct : Construct
  pub type : FunctionType
  pub now : State

-- The operands that a branch to the label of a frame takes.
abbrev pub frame_label : Construct → FunctionType → Stack
frame_label (of_nest n) f = label_of n f
frame_label of_if f = f.leaves
frame_label of_else f = f.leaves

-- The kind of the frame in the grammar.
abbrev pub kind_of : Construct → FrameKind
kind_of (of_nest n) = kind_of_nest n
kind_of of_if = frame_kind.If
kind_of of_else = frame_kind.Else

-- The kinds of frames, the outermost first. Other lists of frames have the innermost first.
abbrev pub kinds : List Frame → List FrameKind
kinds [] = []
kinds (f ∷ outer) = kinds outer ++ kind_of f.construct ∷ []

-- The operand types of the labels of frames, the innermost first.
abbrev pub labels_of : List Frame → List Stack
labels_of [] = []
labels_of (f ∷ outer) = frame_label f.construct f.type ∷ labels_of outer

-- The context with a label for each frame.
abbrev pub within : {A : Type 0} → Context A → List Frame → Context A
within C frames = record C { labels = labels_of frames ++ C.labels }

-- A frame at its start, where these locals are set.
abbrev pub opened : Construct → FunctionType → List ℕ → Frame
opened construct f set = record { construct = construct; type = f; now = state f.takes false set }

abbrev pub with_now : Frame → State → Frame
with_now f now = record f { now = now }

-- The locals that are set in the innermost frame.
abbrev pub set_in : List Frame → List ℕ
set_in [] = []
set_in (f ∷ outer) = f.now.set

-- An if without else may end if an empty else may.
abbrev pub may_end : TypeOrder → Construct → FunctionType → Bool
may_end O of_if f = closes O f.leaves (state f.takes false [])
may_end O _ f = true

-- The frames around a frame that ended. What it set is not set after it.
abbrev pub receives : Stack → List Frame → List Frame
receives leaves [] = []
receives leaves (f ∷ outer) = with_now f (state (leaves ++ f.now.operands) f.now.unreachable f.now.set) ∷ outer

-- The frames after the else of an if.
abbrev pub turned : Construct → FunctionType → List Frame → Option (List Frame)
turned of_if f outer = Some (opened of_else f (set_in outer) ∷ outer)
turned _ f outer = None

-- The frames after a construct opens that takes these.
abbrev pub entered : TypeOrder → Construct → Stack → FunctionType → Frame → List Frame → Option (List Frame)
entered O construct takes f frame outer =
    option_map (λ rest. opened construct f frame.now.set ∷ with_now frame (state rest frame.now.unreachable frame.now.set) ∷ outer)
    (pop O takes frame.now.operands frame.now.unreachable)

-- The frames after an operator; `None` if no expression with such a prefix is typed.
abbrev pub step : {A : Type 0} → Context A → List Frame → Role A → Option (List Frame)
step C [] role = None
step C (frame ∷ outer) (plain op) = option_map (λ now. with_now frame now ∷ outer) (run_plain (within C (frame ∷ outer)) op frame.now)
step C (frame ∷ outer) (opens n op) =
    option_and_then (λ f. entered (order_of C) (of_nest n) f.takes f frame outer) (construct_type (within C (frame ∷ outer)) op)
step C (frame ∷ outer) (opens_if op) =
    option_and_then (λ f. entered (order_of C) of_if (I32 ∷ f.takes) f frame outer) (construct_type (within C (frame ∷ outer)) op)
step C (frame ∷ outer) turns_else =
    if closes (order_of C) frame.type.leaves frame.now then turned frame.construct frame.type outer else None
step C (frame ∷ outer) ends =
    if closes (order_of C) frame.type.leaves frame.now
    then (if may_end (order_of C) frame.construct frame.type then Some (receives frame.type.leaves outer) else None) else None
step C (frame ∷ outer) _ = None

-- The frames after several operators.
abbrev pub steps : {A : Type 0} → Context A → List Frame → List (Role A) → Option (List Frame)
steps C frames [] = Some frames
steps C frames (role ∷ roles) = option_and_then (λ next. steps C next roles) (step C frames role)

-- The frame of an expression with these results.
abbrev pub started : Stack → List Frame
started results = opened (of_nest block) (record { takes = []; leaves = results }) [] ∷ []

-- The algorithm accepts these operators, which close the frame of the expression.
abbrev pub Accepts : {A : Type 0} → Context A → Stack → List (Role A) → Type 0
Accepts C results roles = steps C (started results) roles ≡ Some []

-- An operator that leads to the end of an expression.
pub data Ending : Type 0 where
  jump turn close : Ending

abbrev pub role_of_ending : {A : Type 0} → A → Ending → Role A
role_of_ending op jump = plain op
role_of_ending op turn = turns_else
role_of_ending op close = ends

-- The operator takes nothing, jumps and needs no local, as unreachable does.
pub record IsJump {A : Type 0} (C : Context A) (op : A) : Type 0 where
  pub jumps_always : (labels : List Stack) → C.rules.rule labels op ≡ jumps []
  pub needs_none : C.rules.needs op ≡ None

-- These operators, and then some of the jump `op`, `else` and `end`, are accepted.
abbrev pub Continues : {A : Type 0} → Context A → A → Stack → List (Role A) → Type 0
Continues C op results roles = (more : List Ending) × Accepts C results (roles ++ map (role_of_ending op) more)

-- No typed expression begins with these operators.
abbrev pub BeginsNone : {A : Type 0} → Context A → Stack → List (Role A) → Type 0
BeginsNone {A} C results roles = (more : List (Role A)) (tree : Expression A) → roles ++ more ≡ walk tree → ExpressionTyped C tree results → ⊥
