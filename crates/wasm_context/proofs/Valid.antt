-- Components stay well-formed when something is added in which nothing is wrong.
use Rattle.std.proofs.Common.{◌≡◌, ℕ, zero, suc, ◌<◌, ◌≤◌, nat_lt, Bool, true, false, if◌then◌else◌, List, [], ◌∷◌, ◌++◌, length, Option, Some, None, Result, Ok, Err, OnOk, IfErr, refl, sym, ap, subst, ◌∙◌, length-append, arith}
use Rattle.std.proofs.lemmas.Bool.{ltb-true}
use Rattle.std.specs.List.{slice_get}
use Rattle.std.specs.Option.{option_map, option_and_then}
use Rattle.wasm_below.specs.Reference.{Reference}
use Rattle.wasm_below.specs.declared.types.HeapType.{HeapType}
use Rattle.wasm_below.specs.declared.types.HeapType.TheVariants as heap_type
use Rattle.wasm_below.specs.declared.types.ValType.{ValType}
use Rattle.wasm_below.specs.declared.types.ValType.TheVariants as value
use Rattle.wasm_externals.specs.declared.global_type.GlobalType.{GlobalType}
use Rattle.wasm_externals.specs.declared.table_type.TableType.{TableType}
use Rattle.wasm_externals.specs.declared.tag_type.TagType.{TagType}
use Rattle.wasm_types.specs.declared.composites.CompositeInnerType.{CompositeInnerType}
use Rattle.wasm_types.specs.declared.composites.CompositeInnerType.TheVariants as inner
use Rattle.wasm_typing.specs.Types.{FunctionType}
use Rattle.wasm_check_control.specs.Environment.{stack_of}
use Rattle.wasm_subtypes.specs.Composites.{HeapWithin, ValueWithin}
use Rattle.wasm_subtypes.specs.declared.defined.Defined.{Defined}
use Rattle.wasm_context.specs.declared.error.ContextError.{ContextError}
use Rattle.wasm_context.specs.declared.error.ContextError.TheVariants as error
use Rattle.wasm_context.specs.declared.function.Function.{Function}
use Rattle.wasm_context.specs.Components.{Components, with_types}
use Rattle.wasm_context.specs.Environment.{as_function, expanded, function_at}
use Rattle.wasm_context.specs.Faults.{or_else, index_fault, heap_index_fault, unsupported_fault, heap_fault, value_fault, use_fault, results_fault, tag_use_fault}
use Rattle.wasm_context.specs.Unsupported.{unsupported_heap}
use Rattle.wasm_context.specs.Validity.{Each, IsFunction, IsTag, IsWellFormed}

each_and : {A : Type 0} (P : A → Type 0) (xs : List A) (x : A) → Each P xs → P x → Each P (xs ++ x ∷ [])
each_and P [] x ps p = (p, tt)
each_and P (y ∷ xs) x ps p = (ps.0, each_and P xs x ps.1 p)

-- A call of `push` adds the element, or changes nothing.
pub pushed : {A : Type 0} (P : A → Type 0) (xs new : List A) (x : A) (r : Result Unit ContextError) → OnOk r (new ≡ xs ++ x ∷ []) → IfErr r (λ e. new ≡ xs) → Each P xs → P x → Each P new
pushed P xs new x (Ok u) more same ps p = subst (Each P) (sym more) (each_and P xs x ps p)
pushed P xs new x (Err e) more same ps p = subst (Each P) (sym same) ps

each_also : {A : Type 0} (P Q : A → Type 0) (xs : List A) → ((a : A) → P a → Q a) → Each P xs → Each Q xs
each_also P Q [] f ps = tt
each_also P Q (x ∷ xs) f ps = (f x ps.0, each_also P Q xs f ps.1)

pub first_none : (a b : Option ContextError) → or_else a b ≡ None → b ≡ None
first_none None b e = e
first_none (Some x) b e = absurd (cc e)

pub nothing_first : (a b : Option ContextError) → or_else a b ≡ None → a ≡ None
nothing_first None b e = refl
nothing_first (Some x) b e = absurd (cc e)

in_range : (n x : ℕ) (b : Bool) → nat_lt x n ≡ b → (if b then None else Some (error.UnknownType x)) ≡ None → x < n
in_range n x true p e = ltb-true x n p
in_range n x false p e = absurd (cc e)

index_within : (n x : ℕ) → index_fault n x ≡ None → x < n
index_within n x e = in_range n x (nat_lt x n) refl e

heap_index_within : (n : ℕ) (h : HeapType) → heap_index_fault n h ≡ None → HeapWithin n h
heap_index_within n (heap_type.Abstract s t) e = tt
heap_index_within n (heap_type.Concrete x) e = index_within n x e
heap_index_within n (heap_type.Exact x) e = index_within n x e

pub heap_within : (n : ℕ) (h : HeapType) → heap_fault n h ≡ None → HeapWithin n h
heap_within n h e = heap_index_within n h (first_none (unsupported_fault (unsupported_heap h)) (heap_index_fault n h) e)

pub value_within : (n : ℕ) (v : ValType) → value_fault n v ≡ None → ValueWithin n v
value_within n (value.Ref r) e = heap_within n r.heap_type e
value_within n value.I32 e = tt
value_within n value.I64 e = tt
value_within n value.F32 e = tt
value_within n value.F64 e = tt
value_within n value.V128 e = tt

pub heap_later : (n m : ℕ) (h : HeapType) → n ≤ m → HeapWithin n h → HeapWithin m h
heap_later n m (heap_type.Abstract s t) p w = tt
heap_later n m (heap_type.Concrete x) p w = omega (arith, p, w)
heap_later n m (heap_type.Exact x) p w = omega (arith, p, w)

pub value_later : (n m : ℕ) (v : ValType) → n ≤ m → ValueWithin n v → ValueWithin m v
value_later n m (value.Ref r) p w = heap_later n m r.heap_type p w
value_later n m value.I32 p w = tt
value_later n m value.I64 p w = tt
value_later n m value.F32 p w = tt
value_later n m value.F64 p w = tt
value_later n m value.V128 p w = tt

is_function : (x : ℕ) (o : Option CompositeInnerType) → use_fault x o ≡ None → (t : FunctionType) × (option_and_then as_function o ≡ Some t)
is_function x None e = absurd (cc e)
is_function x (Some (inner.Func f)) e = (_, refl)
is_function x (Some (inner.Array a)) e = absurd (cc e)
is_function x (Some (inner.Struct s)) e = absurd (cc e)
is_function x (Some (inner.Cont c)) e = absurd (cc e)

is_tag : (x : ℕ) (o : Option CompositeInnerType) → tag_use_fault x o ≡ None → (t : FunctionType) × (option_and_then as_function o ≡ Some t) × (t.leaves ≡ [])
is_tag x None e = absurd (cc e)
is_tag x (Some (inner.Func f)) e = (_, refl, no_results f.results e)
  where
    no_results : (ts : List ValType) → results_fault ts ≡ None → stack_of ts ≡ []
    no_results [] e = refl
    no_results (t ∷ ts) e = absurd (cc e)
is_tag x (Some (inner.Array a)) e = absurd (cc e)
is_tag x (Some (inner.Struct s)) e = absurd (cc e)
is_tag x (Some (inner.Cont c)) e = absurd (cc e)

at_front : (xs ys : List Defined) (x : ℕ) (d : Defined) → slice_get xs x ≡ Some d → slice_get (xs ++ ys) x ≡ Some d
at_front [] ys x d e = absurd (cc e)
at_front (a ∷ xs) ys zero d e = e
at_front (a ∷ xs) ys (suc x) d e = at_front xs ys x d e

function_later : (types more : List Defined) (x : ℕ) (t : FunctionType) → function_at types x ≡ Some t → function_at (types ++ more) x ≡ Some t
function_later types more x t e = later (slice_get types x) refl e
  where
    later : (o : Option Defined) → slice_get types x ≡ o → option_and_then as_function (option_map (λ (d : Defined). d.ty.composite_type.inner) o) ≡ Some t → function_at (types ++ more) x ≡ Some t
    later None p e = absurd (cc e)
    later (Some d) p e = ap (λ o. option_and_then as_function (option_map (λ (d : Defined). d.ty.composite_type.inner) o)) (at_front types more x d p) ∙ e

pub function_within : (types : List Defined) (x : ℕ) → use_fault x (expanded types x) ≡ None → IsFunction types x
function_within types x e = is_function x (expanded types x) e

pub tag_within : (types : List Defined) (x : ℕ) → tag_use_fault x (expanded types x) ≡ None → IsTag types x
tag_within types x e = is_tag x (expanded types x) e

pub types_later : (c : Components) (more : List Defined) → IsWellFormed c → IsWellFormed (with_types c (c.types ++ more))
types_later c more w =
    let new = c.types ++ more in
    let n = length-append c.types more in
    let longer : length c.types ≤ length new = omega (arith, n) in
    record {
      functions = each_also (λ (f : Function). IsFunction c.types f.type_index) (λ (f : Function). IsFunction new f.type_index) c.functions
          (λ f p. (p.0, function_later c.types more f.type_index p.0 p.1)) w.functions;
      tables = each_also (λ (t : TableType). HeapWithin (length c.types) t.element_type.heap_type) (λ (t : TableType). HeapWithin (length new) t.element_type.heap_type) c.tables
          (λ t p. heap_later (length c.types) (length new) t.element_type.heap_type longer p) w.tables;
      globals = each_also (λ (t : GlobalType). ValueWithin (length c.types) t.content_type) (λ (t : GlobalType). ValueWithin (length new) t.content_type) c.globals
          (λ t p. value_later (length c.types) (length new) t.content_type longer p) w.globals;
      tags = each_also (λ (t : TagType). IsTag c.types t.func_type_idx) (λ (t : TagType). IsTag new t.func_type_idx) c.tags
          (λ t p. (p.0, function_later c.types more t.func_type_idx p.0 p.1, p.2)) w.tags;
      elements = each_also (λ (t : Reference). HeapWithin (length c.types) t.heap_type) (λ (t : Reference). HeapWithin (length new) t.heap_type) c.elements
          (λ t p. heap_later (length c.types) (length new) t.heap_type longer p) w.elements;
    }
