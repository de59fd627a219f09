-- The typing rules. WebAssembly Core Specification 3.0: Validation, Instructions.
use Rattle.std.specs.Prelude.{◌≡◌, ℕ, Bool, true, false, List, [], ◌∷◌, ◌++◌, Some}
use Rattle.wasm_grammar.specs.Role.{Nest}
use Rattle.wasm_grammar.specs.Tree.{Instruction, single, nest, if_one, if_two, Instructions, nil, cons, Expression}
use Rattle.wasm_typing.specs.declared.value_type.ValueType.{ValueType}
use Rattle.wasm_typing.specs.declared.value_type.ValueType.TheVariants.{I32, Ref}
use Rattle.wasm_typing.specs.declared.value_type.Heap.{Heap}
use Rattle.wasm_typing.specs.declared.value_type.Heap.TheVariants.{Known}
use Rattle.wasm_typing.specs.Types.{is_number, Stack, FunctionType}
use Rattle.wasm_typing.specs.Matching.{TypeOrder, AllMatch}
use Rattle.wasm_typing.specs.Rules.{Rule, fixed, jumps, drops, selects, tests_null, makes_non_null, invalid, branches_on_null, converts, switches, Context, order_of, rule_of, construct_type, needs, sets, label_of, inside, is_ready, SetsWithin}

-- The operands match the types of each label.
abbrev pub MatchEach : TypeOrder → Stack → List Stack → Type 0
MatchEach O vs [] = Unit {0}
MatchEach O vs (s ∷ ss) = AllMatch O vs s × MatchEach O vs ss

-- An operator with this rule takes `from` and leaves `to`.
abbrev pub RuleTypes : TypeOrder → Rule → Stack → Stack → Type 0
-- The types are determined by the operator and its immediates.
RuleTypes O (fixed takes leaves) from to = (from ≡ takes) × (to ≡ leaves)
-- Stack-polymorphic: unreachable, br, return, throw, throw_ref, return_call, return_call_indirect, return_call_ref.
RuleTypes O (jumps takes) from to = (below : Stack) × (from ≡ takes ++ below)
-- drop.
RuleTypes O drops from to = (v : ValueType) × (from ≡ v ∷ []) × (to ≡ [])
-- select without a type: of numbers, vectors or bot.
RuleTypes O selects from to = (v : ValueType) × (is_number v ≡ true) × (from ≡ I32 ∷ v ∷ v ∷ []) × (to ≡ v ∷ [])
-- ref.is_null.
RuleTypes O tests_null from to = (h : Heap) × (from ≡ Ref true h ∷ []) × (to ≡ I32 ∷ [])
-- ref.as_non_null.
RuleTypes O makes_non_null from to = (h : Heap) × (from ≡ Ref true h ∷ []) × (to ≡ Ref false h ∷ [])
-- br_on_null.
RuleTypes O (branches_on_null label) from to = (h : Heap) × (from ≡ Ref true h ∷ label) × (to ≡ Ref false h ∷ label)
-- any.convert_extern, extern.convert_any: null is kept.
RuleTypes O (converts h g) from to = (n : Bool) × (from ≡ Ref n (Known h) ∷ []) × (to ≡ Ref n (Known g) ∷ [])
-- br_table: operands of the same types match each label.
RuleTypes O (switches others last) from to =
    (vs below : Stack) × (from ≡ I32 ∷ (vs ++ below)) × MatchEach O vs others × AllMatch O vs last
RuleTypes O invalid from to = ⊥

mutual
  -- If the locals `set` are set, an instruction takes `from`, leaves `to` and sets the locals `xs`.
  pub data Typed {A : Type 0} : Context A → List ℕ → Instruction A → Stack → List ℕ → Stack → Type 0 where
    by_rule : {C : Context A} {set : List ℕ} {op : A} {from to : Stack} → RuleTypes (order_of C) (rule_of C op) from to → is_ready C (needs C op) set ≡ true →
        Typed C set (single op) from (sets C op) to
    -- block, loop, try_table. What the body sets is not set after it.
    of_nest : {C : Context A} {set : List ℕ} {n : Nest} {op : A} {body : Instructions A} (f : FunctionType) (xs : List ℕ) →
        construct_type C op ≡ Some f → AllTyped (inside C (label_of n f)) set body f.takes xs f.leaves →
        Typed C set (nest n op body) f.takes [] f.leaves
    -- if without else: as with an empty one.
    of_if_one : {C : Context A} {set : List ℕ} {op : A} {body : Instructions A} (f : FunctionType) (xs ys : List ℕ) →
        construct_type C op ≡ Some f → AllTyped (inside C f.leaves) set body f.takes xs f.leaves → AllTyped (inside C f.leaves) set nil f.takes ys f.leaves →
        Typed C set (if_one op body) (I32 ∷ f.takes) [] f.leaves
    of_if_two : {C : Context A} {set : List ℕ} {op : A} {body other : Instructions A} (f : FunctionType) (xs ys : List ℕ) →
        construct_type C op ≡ Some f → AllTyped (inside C f.leaves) set body f.takes xs f.leaves → AllTyped (inside C f.leaves) set other f.takes ys f.leaves →
        Typed C set (if_two op body other) (I32 ∷ f.takes) [] f.leaves

  -- The same for a sequence. Section Instruction Sequences.
  pub data AllTyped {A : Type 0} : Context A → List ℕ → Instructions A → Stack → List ℕ → Stack → Type 0 where
    none : {C : Context A} {set : List ℕ} → AllTyped C set nil [] [] []
    one : {C : Context A} {set : List ℕ} {i : Instruction A} {from to : Stack} {xs : List ℕ} → Typed C set i from xs to → AllTyped C set (cons i nil) from xs to
    more : {C : Context A} {set : List ℕ} {i : Instruction A} {is : Instructions A} {from between to : Stack} {xs ys : List ℕ} →
        AllTyped C set (cons i nil) from xs between → AllTyped C (xs ++ set) is between ys to → AllTyped C set (cons i is) from (ys ++ xs) to
    frame : {C : Context A} {set : List ℕ} {is : Instructions A} {from to : Stack} {xs : List ℕ} (below : Stack) →
        AllTyped C set is from xs to → AllTyped C set is (from ++ below) xs (to ++ below)
    subsumed : {C : Context A} {set : List ℕ} {is : Instructions A} {from to : Stack} {xs : List ℕ} (least most : Stack) (ys : List ℕ) →
        AllMatch (order_of C) least from → AllTyped C set is from xs to → AllMatch (order_of C) to most → SetsWithin C (ys ++ set) (xs ++ set) → AllTyped C set is least ys most

-- An expression with its label leaves these operands. Section Expressions.
abbrev pub ExpressionTyped : {A : Type 0} → Context A → Expression A → Stack → Type 0
ExpressionTyped C tree results = (xs : List ℕ) × AllTyped (inside C results) [] tree [] xs results
