-- The validation algorithm on trees. WebAssembly Core Specification 3.0: Appendix, Validation
-- Algorithm.
use Rattle.std.specs.Prelude.{◌≡◌, ℕ, Bool, true, false, if◌then◌else◌, List, [], ◌∷◌, ◌++◌, Option, Some, None}
use Rattle.std.specs.Option.{option_map, option_and_then}
use Rattle.wasm_below.specs.declared.types.HeapType.{HeapType}
use Rattle.wasm_grammar.specs.Tree.{Instruction, single, nest, if_one, if_two, Instructions, nil, cons, try_handle, try_delegate}
use Rattle.wasm_typing.specs.declared.value_type.ValueType.{ValueType}
use Rattle.wasm_typing.specs.declared.value_type.ValueType.TheVariants.{I32, Ref, Bottom}
use Rattle.wasm_typing.specs.declared.value_type.Heap.{Heap}
use Rattle.wasm_typing.specs.declared.value_type.Heap.TheVariants.{Known, Unknown}
use Rattle.wasm_typing.specs.Types.{is_number, Stack}
use Rattle.wasm_typing.specs.Matching.{TypeOrder, Matches, matches, heap_matches}
use Rattle.wasm_typing.specs.Rules.{Rule, fixed, jumps, drops, selects, tests_null, makes_non_null, invalid, branches_on_null, converts, switches, Context, order_of, rule_of, construct_type, needs, sets, label_of, inside, is_ready}

-- What the algorithm knows in the innermost frame: the operands above the frame's height, whether
-- the code is unreachable, and the locals that are set.
pub record State : Type 0 where
  pub operands : Stack
  pub unreachable : Bool
  pub set : List ℕ

-- The state with these parts.
abbrev pub state : Stack → Bool → List ℕ → State
state operands unreachable set = record { operands = operands; unreachable = unreachable; set = set }

-- In a state with these operands, the frame may hold these: each operand matches its counterpart,
-- and in unreachable code any operands are below.
abbrev pub Holds : TypeOrder → Stack → Bool → Stack → Type 0
Holds O [] true vs = Unit {0}
Holds O [] false vs = vs ≡ []
Holds O (k ∷ ks) any [] = ⊥
Holds O (k ∷ ks) any (v ∷ vs) = Matches O k v × Holds O ks any vs

-- The operands that are left after operands of these types are taken; `None` if the stack holds no such operands.
abbrev pub pop : TypeOrder → Stack → Stack → Bool → Option Stack
pop O [] ks any = Some ks
pop O (v ∷ vs) [] true = pop O vs [] true
pop O (v ∷ vs) [] false = None
pop O (v ∷ vs) (k ∷ ks) any = if matches O k v then pop O vs ks any else None

-- The top operand, and what is below.
abbrev pub take_one : Stack → Bool → Option (ValueType × Stack)
take_one [] true = Some (Bottom, [])
take_one [] false = None
take_one (k ∷ ks) any = Some (k, ks)

-- The heap type of a reference, or of bot.
abbrev pub heap_of : ValueType → Option Heap
heap_of (Ref n h) = Some h
heap_of Bottom = Some Unknown
heap_of _ = None

-- The heap type of the top operand, and what is below.
abbrev pub take_ref : Stack → Bool → Option (Heap × Stack)
take_ref ks any = option_and_then (λ (p : ValueType × Stack). option_map (λ (h : Heap). (h, p.1)) (heap_of p.0)) (take_one ks any)

-- As many operands as the first list has, of any types.
abbrev pub take_like : Stack → Stack → Bool → Option Stack
take_like [] ks any = Some []
take_like (v ∷ vs) [] true = option_map (λ r. Bottom ∷ r) (take_like vs [] true)
take_like (v ∷ vs) [] false = None
take_like (v ∷ vs) (k ∷ ks) any = option_map (λ r. k ∷ r) (take_like vs ks any)

abbrev pub all_match : TypeOrder → Stack → Stack → Bool
all_match O [] [] = true
all_match O (k ∷ ks) (v ∷ vs) = if matches O k v then all_match O ks vs else false
all_match O _ _ = false

abbrev pub match_each : TypeOrder → Stack → List Stack → Bool
match_each O ks [] = true
match_each O ks (s ∷ ss) = if all_match O ks s then match_each O ks ss else false

-- The type of a select of these two: the other if one is bot.
abbrev pub joined : TypeOrder → ValueType → ValueType → Option ValueType
joined O x y = if matches O x y then Some y else (if matches O y x then Some x else None)

abbrev pub if_number : ValueType → Option ValueType
if_number v = if is_number v then Some v else None

abbrev pub select_of : TypeOrder → Stack → Bool → Option Stack
select_of O ks any =
    option_and_then (λ (p : ValueType × Stack). option_and_then (λ (q : ValueType × Stack).
    option_map (λ (v : ValueType). v ∷ q.1) (option_and_then if_number (joined O p.0 q.0)))
    (take_one p.1 any)) (take_one ks any)

-- The result of a conversion between two hierarchies. Of bot, it is not nullable.
abbrev pub converted : TypeOrder → HeapType → HeapType → ValueType → Option ValueType
converted O h g Bottom = Some (Ref false (Known g))
converted O h g (Ref n k) = if heap_matches O k (Known h) then Some (Ref n (Known g)) else None
converted O h g _ = None

-- The state after an operator with this rule; `None` if it has no type there.
abbrev pub run_rule : TypeOrder → Rule → State → Option State
run_rule O (fixed takes leaves) k = option_map (λ rest. state (leaves ++ rest) k.unreachable k.set) (pop O takes k.operands k.unreachable)
run_rule O (jumps takes) k = option_map (λ rest. state [] true k.set) (pop O takes k.operands k.unreachable)
run_rule O drops k = option_map (λ p. state p.1 k.unreachable k.set) (take_one k.operands k.unreachable)
run_rule O selects k =
    option_and_then (λ rest. option_map (λ s. state s k.unreachable k.set) (select_of O rest k.unreachable)) (pop O (I32 ∷ []) k.operands k.unreachable)
run_rule O tests_null k = option_map (λ p. state (I32 ∷ p.1) k.unreachable k.set) (take_ref k.operands k.unreachable)
run_rule O makes_non_null k = option_map (λ p. state (Ref false p.0 ∷ p.1) k.unreachable k.set) (take_ref k.operands k.unreachable)
run_rule O (branches_on_null s) k =
    option_and_then (λ p. option_map (λ rest. state (Ref false p.0 ∷ (s ++ rest)) k.unreachable k.set) (pop O s p.1 k.unreachable)) (take_ref k.operands k.unreachable)
run_rule O (converts h g) k =
    option_and_then (λ p. option_map (λ v. state (v ∷ p.1) k.unreachable k.set) (converted O h g p.0)) (take_one k.operands k.unreachable)
run_rule O (switches others last) k =
    option_and_then (λ rest. option_and_then (λ vs. if all_match O vs last then (if match_each O vs others then Some (state [] true k.set) else None) else None)
    (take_like last rest k.unreachable)) (pop O (I32 ∷ []) k.operands k.unreachable)
run_rule O invalid k = None

abbrev pub is_none_left : Option Stack → Bool
is_none_left (Some []) = true
is_none_left _ = false

-- The operands are these and no more.
abbrev pub closes : TypeOrder → Stack → State → Bool
closes O leaves k = is_none_left (pop O leaves k.operands k.unreachable)

-- Of a list of locals, those that are not in the list `set`.
abbrev pub unset : {A : Type 0} → Context A → List ℕ → List ℕ → List ℕ
unset C [] set = []
unset C (x ∷ xs) set = if is_ready C (Some x) set then unset C xs set else x ∷ unset C xs set

-- The state after a plain operator. A local that is set is not set once more.
abbrev pub run_plain : {A : Type 0} → Context A → A → State → Option State
run_plain C op k =
    if is_ready C (needs C op) k.set then option_map (λ next. state next.operands next.unreachable (unset C (sets C op) k.set ++ k.set)) (run_rule (order_of C) (rule_of C op) k) else None

-- The state after a construct that starts in `k`, if its body ends in `end`.
abbrev pub after : TypeOrder → Stack → Stack → State → State → Option State
after O leaves rest k end = if closes O leaves end then Some (state (leaves ++ rest) k.unreachable k.set) else None

abbrev mutual
  -- The state after an instruction. Legacy exception handling has no types.
  pub run_one : {A : Type 0} → Context A → Instruction A → State → Option State
  run_one C (single op) k = run_plain C op k
  run_one C (nest n op body) k =
      option_and_then (λ f. option_and_then (λ rest. option_and_then (after (order_of C) f.leaves rest k)
      (run_all (inside C (label_of n f)) body (state f.takes false k.set))) (pop (order_of C) f.takes k.operands k.unreachable)) (construct_type C op)
  run_one C (if_one op body) k =
      option_and_then (λ f. option_and_then (λ rest. option_and_then (λ end. if closes (order_of C) f.leaves (state f.takes false k.set) then after (order_of C) f.leaves rest k end else None)
      (run_all (inside C f.leaves) body (state f.takes false k.set))) (pop (order_of C) (I32 ∷ f.takes) k.operands k.unreachable)) (construct_type C op)
  run_one C (if_two op body other) k =
      option_and_then (λ f. option_and_then (λ rest. option_and_then (λ end. if closes (order_of C) f.leaves end then
      option_and_then (after (order_of C) f.leaves rest k) (run_all (inside C f.leaves) other (state f.takes false k.set)) else None)
      (run_all (inside C f.leaves) body (state f.takes false k.set))) (pop (order_of C) (I32 ∷ f.takes) k.operands k.unreachable)) (construct_type C op)
  run_one C (try_handle op body handlers) k = None
  run_one C (try_delegate op body depth) k = None

  -- The state after instructions; `None` if they have no type there.
  pub run_all : {A : Type 0} → Context A → Instructions A → State → Option State
  run_all C nil k = Some k
  run_all C (cons i is) k = option_and_then (λ next. run_all C is next) (run_one C i k)
