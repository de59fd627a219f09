-- The rules of operators, for operators of any type `A`: a language of operators is a value of
-- `Rules A`. WebAssembly Core Specification 3.0: Validation, Conventions, Contexts; Instructions.
use Rattle.std.specs.Prelude.{◌≡◌, zero, suc, ℕ, Bool, true, false, ◌||◌, nat_eq, List, [], ◌∷◌, Option, Some, None}
use Rattle.wasm_below.specs.declared.types.HeapType.{HeapType}
use Rattle.wasm_grammar.specs.Role.{Nest, block, loop, try_table}
use Rattle.wasm_typing.specs.Types.{Stack, FunctionType}
use Rattle.wasm_typing.specs.Matching.{TypeOrder}

-- How a plain operator is typed.
--   fixed takes leaves: it has this type.
--   jumps takes: it takes these above any operands and leaves any, such as br.
--   drops, selects: drop, and select without a type.
--   tests_null, makes_non_null: ref.is_null and ref.as_non_null.
--   branches_on_null label: br_on_null.
--   converts from to: any.convert_extern and extern.convert_any.
--   switches others last: br_table.
--   invalid: it has no type.
pub data Rule : Type 0 where
  fixed : Stack → Stack → Rule
  jumps : Stack → Rule
  drops selects tests_null makes_non_null invalid : Rule
  branches_on_null : Stack → Rule
  converts : HeapType → HeapType → Rule
  switches : List Stack → Stack → Rule

-- The element at an index.
abbrev pub at : {A : Type 0} → List A → ℕ → Option A
at [] index = None
at (a ∷ as_) zero = Some a
at (a ∷ as_) (suc index) = at as_ index

-- An immediate that the module or the function does not have makes an operator invalid.
abbrev pub or_invalid : {A : Type 0} → (A → Rule) → Option A → Rule
or_invalid f None = invalid
or_invalid f (Some a) = f a

-- The part of a context that a function body does not change, as far as operators ask for it. Both
-- functions get the operand types of each label, the innermost first.
--   order: matching of the module's types.
--   rule: the rule of a plain operator.
--   type: the type of the construct that an operator opens; `None` if it has none.
--   is_set: the locals that are set at the start.
--   needs: the local that must be set before this operator.
--   sets: the locals that are set after it.
pub record Rules (A : Type 0) : Type 0 where
  pub order : TypeOrder
  pub rule : List Stack → A → Rule
  pub type : List Stack → A → Option FunctionType
  pub is_set : ℕ → Bool
  pub needs : A → Option ℕ
  pub sets : A → List ℕ

-- The context of an instruction: the part that a body does not change, and the operand types of each
-- label, the innermost first.
pub record Context (A : Type 0) : Type 0 where
  pub rules : Rules A
  pub labels : List Stack

-- The matching of the types of the module.
abbrev pub order_of : {A : Type 0} → Context A → TypeOrder
order_of C = C.rules.order

abbrev pub rule_of : {A : Type 0} → Context A → A → Rule
rule_of C op = C.rules.rule C.labels op

abbrev pub construct_type : {A : Type 0} → Context A → A → Option FunctionType
construct_type C op = C.rules.type C.labels op

abbrev pub needs : {A : Type 0} → Context A → A → Option ℕ
needs C op = C.rules.needs op

abbrev pub sets : {A : Type 0} → Context A → A → List ℕ
sets C op = C.rules.sets op

-- The operands that a branch to the label of a construct takes.
abbrev pub label_of : Nest → FunctionType → Stack
label_of block f = f.leaves
label_of loop f = f.takes
label_of try_table f = f.leaves

-- The context with one more label.
abbrev pub inside : {A : Type 0} → Context A → Stack → Context A
inside C s = record C { labels = s ∷ C.labels }

abbrev pub is_member : ℕ → List ℕ → Bool
is_member x [] = false
is_member x (y ∷ ys) = nat_eq x y || is_member x ys

-- The local is set, if `set` lists the locals that are set after the start.
abbrev pub is_ready : {A : Type 0} → Context A → Option ℕ → List ℕ → Bool
is_ready C None set = true
is_ready C (Some x) set = C.rules.is_set x || is_member x set

-- What is set by the first list is set by the second.
abbrev pub SetsWithin : {A : Type 0} → Context A → List ℕ → List ℕ → Type 0
SetsWithin C xs ys = (x : ℕ) → is_ready C (Some x) xs ≡ true → is_ready C (Some x) ys ≡ true
