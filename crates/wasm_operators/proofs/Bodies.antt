use Rattle.std.proofs.Common.{◌≡◌, ℕ, ◌+◌, List, [], ◌++◌, length, Ok, refl, sym, subst, ap, ◌∙◌, arith, inl, inr}
use Rattle.wasm_below.specs.declared.error.Error.{Error}
use Rattle.wasm_below.specs.declared.features.WasmFeatures.{WasmFeatures}
use Rattle.wasm_below.specs.Source.{Source, Reader, rest, offset_of, source_of, Takes}
use Rattle.wasm_below.proofs.Blocks.{refused_now}
use Rattle.wasm_below.proofs.TakesLemmas.{same_rest}
use Rattle.wasm_operators.specs.Expression.{Placed, EncodesExpression}
use Rattle.wasm_operators.specs.Reading.{Allocating, State, StopsRun}
use Rattle.wasm_operators.specs.MainTheorem.{ReadsTree, ReadsBeginning}
use Rattle.wasm_operators.specs.Next.{collecting, all_operators_if}
use Rattle.wasm_operators.specs.Locals.{Declaration, EncodesLocals, RefusesLocals, IsPastLocals}
use Rattle.wasm_operators.specs.Body.{source_after, EncodesBody, OpensBody, NoExpression, StopsBody}
use Rattle.wasm_operators.proofs.LocalsLemmas.{locals_prefix_code}

abbrev source : WasmFeatures → ℕ → List ℕ → Source
source features offset bytes = record { features = features; offset = offset; bytes = bytes }

source_of-after : (old new : Reader) (text : List ℕ) → Takes old new text → source_of new ≡ source_after (source_of old) text (rest new)
source_of-after old new text t =
    let features : new.features ≡ old.features = ap (λ (r : Reader). r.features) t.moved in
    let offset : offset_of new ≡ offset_of old + length text = ap offset_of t.moved ∙ omega arith in
    ap (λ f. source f (offset_of new) (rest new)) features ∙ ap (λ o. source old.features o (rest new)) offset

pub past_body : (body r : Reader) (declarations : List Declaration) (placed : Placed) → IsPastLocals declarations body r →
    EncodesExpression (source_of r) placed → EncodesBody (source_of body) declarations placed
past_body body r declarations placed (text, encodes, takes) h =
    record {
      locals = text;
      expression = rest r;
      parts = takes.parts;
      encodes_locals = encodes;
      encodes_expression = subst (λ s. EncodesExpression s placed) (source_of-after body r text takes) h;
    }

pub past_expression : (body r : Reader) (declarations others : List Declaration) (placed : Placed) → IsPastLocals declarations body r →
    EncodesBody (source_of body) others placed → (others ≡ declarations) × EncodesExpression (source_of r) placed
past_expression body r declarations others placed (text, encodes, takes) h =
    let whole : h.locals ++ h.expression ≡ text ++ rest r = sym h.parts ∙ takes.parts in
    let same = locals_prefix_code h.locals text h.expression (rest r) others declarations h.encodes_locals encodes whole in
    let left : h.expression ≡ rest r = same_rest h.locals text h.expression (rest r) same.0 whole in
    let moved : source_after (source_of body) h.locals h.expression ≡ source_of r =
    ap (λ t. source_after (source_of body) t h.expression) same.0 ∙ ap (source_after (source_of body) text) left ∙
    sym (source_of-after body r text takes) in
    (same.1, subst (λ s. EncodesExpression s placed) moved h.encodes_expression)

pub body_tree : (body : Reader) (opened new : State) (placed : Placed) → OpensBody (Ok opened) body → ReadsTree [] opened new placed →
    (declarations : List Declaration) × EncodesBody (source_of body) declarations placed
body_tree body opened new placed opens h = (opens.0.0, past_body body opened.reader opens.0.0 placed opens.0.1 h.encodes)

anywhere : (Allocates : Allocating) (e : Error) (s : State) → StopsRun (all_operators_if Allocates) e s → StopsRun collecting e s
anywhere Allocates e s (inl left) = inl left
anywhere Allocates e s (inr (some, inl none)) = inr (some, inl none)
anywhere Allocates e s (inr (some, inr (inl there))) = inr (some, inr (inl there))
anywhere Allocates e s (inr (some, inr (inr memory))) = inr (some, inr (inr (memory.0, memory.1, tt)))

pub body_beginning : (Allocates : Allocating) (e : Error) (body : Reader) (opened new : State) (placed : Placed) → OpensBody (Ok opened) body →
    ReadsBeginning (all_operators_if Allocates) [] e opened new placed → NoExpression e body placed
body_beginning Allocates e body opened new placed opens h =
    record {
      opened = opened;
      opens = opens;
      stopped = new;
      reads = record { at = h.at; text = h.text; takes = h.takes; laid = h.laid; read_so_far = h.read_so_far; stops = anywhere Allocates e new h.stops };
    }

pub no_body : (e : Error) (body : Reader) (declarations : List Declaration) (placed : Placed) → RefusesLocals e body →
    EncodesBody (source_of body) declarations placed → ⊥
no_body e body declarations placed h encodes =
    refused_now EncodesLocals e body h.refusal encodes.locals encodes.expression declarations encodes.encodes_locals encodes.parts

pub expression_after_locals : (body : Reader) (opened : State) (declarations : List Declaration) (placed : Placed) → OpensBody (Ok opened) body →
    EncodesBody (source_of body) declarations placed → EncodesExpression (source_of opened.reader) placed
expression_after_locals body opened declarations placed opens h = (past_expression body opened.reader opens.0.0 declarations placed opens.0.1 h).1

pub refused_stops : (e : Error) (body : Reader) → RefusesLocals e body → StopsBody e body []
refused_stops e body h = inl (record { refused = h; nothing = refl })
