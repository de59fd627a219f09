-- Two encodings of the same operators and locals are both typed, or both not.
use Rattle.std.proofs.Common.{◌≡◌, ◌↔◌, ℕ, ◌+◌, List, [], ◌∷◌, length, refl, sym, ap, subst, ◌∙◌}
use Rattle.wasm_below.specs.declared.features.WasmFeatures.{WasmFeatures}
use Rattle.wasm_below.specs.declared.types.ValType.{ValType}
use Rattle.wasm_below.specs.Source.{Source, Reader, rest, offset_of}
use Rattle.wasm_grammar.proofs.Unique.{one_tree}
use Rattle.wasm_instr.specs.declared.operator.Operator.{Operator}
use Rattle.wasm_instr.specs.Roles.{roles_of}
use Rattle.wasm_operators.specs.Body.{EncodesBody}
use Rattle.wasm_operators.specs.Expression.{Placed, operators, LaidOut, AreWalk}
use Rattle.wasm_operators.specs.Locals.{Declaration}
use Rattle.wasm_operators.proofs.Determined.{one_body_of}
use Rattle.wasm_typing.specs.Matching.{IsOrder}
use Rattle.wasm_typing.specs.Steps.{Frame, started, steps, Accepts}
use Rattle.wasm_typing.proofs.Shapes.{accepted_tree, tree_accepted}
use Rattle.wasm_check_control.specs.Environment.{Environment, stack_of}
use Rattle.wasm_check_control.specs.State.{outermost}
use Rattle.wasm_check_operators.specs.Language.{rules_of}
use Rattle.wasm_check_locals.specs.Locals.{locals_of, in_function}
use Rattle.wasm_check.specs.Bodies.{IsTypedBody}
use Rattle.wasm_compaction.specs.Compaction.{CompactsFunction}
use Rattle.wasm_validation.specs.Valid.{IsTypedFunction}
use Rattle.wasm_compaction_laws.specs.Sources.{source_from}
use Rattle.wasm_compaction_laws.proofs.Steps.{same_steps}

-- The same bytes at another offset encode the same operators.
moved : (f : WasmFeatures) (a b : ℕ) (ps : Placed) (bytes : List ℕ) → LaidOut f a bytes ps → (qs : Placed) × (operators qs ≡ operators ps) × LaidOut f b bytes qs
moved f a b [] bytes is = ([], refl, is)
moved f a b (p ∷ ps) bytes (at, text, more, parts, one, laid) =
    let (qs, same, next) = moved f (a + length text) (b + length text) ps more laid in
    ((p.0, b) ∷ qs, ap (λ ops. p.0 ∷ ops) same, (refl, text, more, parts, one, next))

moved_body : (f : WasmFeatures) (a b : ℕ) (bytes : List ℕ) (ds : List Declaration) (ps : Placed) → EncodesBody (source_from f a bytes) ds ps →
    (qs : Placed) × (operators qs ≡ operators ps) × EncodesBody (source_from f b bytes) ds qs
moved_body f a b bytes ds ps e =
    let (laid, walk) = e.encodes_expression in
    let (qs, same, next) = moved f (a + length e.locals) (b + length e.locals) ps e.expression laid in (
      qs,
      same,
      record {
        locals = e.locals;
        expression = e.expression;
        parts = e.parts;
        encodes_locals = e.encodes_locals;
        encodes_expression = (next, subst AreWalk (sym same) walk);
      },
    )

-- The algorithm takes the same steps along these operators, in any context.
abbrev AreSame : List Operator → List Operator → Type 0
AreSame ops others = (E : Environment) (frames : List Frame) → steps (outermost (rules_of E)) frames (roles_of ops) ≡ steps (outermost (rules_of E)) frames (roles_of others)

-- A body is typed if another with the same locals and such operators is.
typed_alike : (E : Environment) → IsOrder E.order → (params results : List ValType) (s z : Source) (ds : List Declaration) (first second : Placed) →
    EncodesBody s ds first → EncodesBody z ds second → AreSame (operators first) (operators second) → IsTypedBody E params results s → IsTypedBody E params results z
typed_alike E ok params results s z ds first second a b same typed =
    let one = one_body_of s typed.declarations ds typed.placed first typed.encodes a in
    let F = in_function E params results (locals_of typed.declarations) in
    let accepted : Accepts (outermost (rules_of F)) (stack_of results) (roles_of (operators typed.placed)) =
    tree_accepted (outermost (rules_of F)) ok (stack_of results) (roles_of (operators typed.placed)) typed.tree typed.only.0 typed.typed in
    let here = subst (λ ps. Accepts (outermost (rules_of F)) (stack_of results) (roles_of (operators ps))) one.1 accepted in
    let there : Accepts (outermost (rules_of F)) (stack_of results) (roles_of (operators second)) = sym (same F (started (stack_of results))) ∙ here in
    let (tree, walk, is) = accepted_tree (outermost (rules_of F)) ok (stack_of results) (roles_of (operators second)) there in
    record {
      declarations = typed.declarations;
      placed = second;
      tree = tree;
      encodes = subst (λ d. EncodesBody z d second) (sym one.0) b;
      may_declare = typed.may_declare;
      only = (walk, λ other w. one_tree other tree (sym w ∙ walk));
      typed = is;
    }

pub compacted_body : (E : Environment) (params results : List ValType) (f : WasmFeatures) (old new : List ℕ) (a b : ℕ) → IsOrder E.order → CompactsFunction f old new →
    (IsTypedBody E params results (source_from f a old) ↔ IsTypedBody E params results (source_from f b new))
compacted_body E params results f old new a b ok c =
    let (first, is_first, e) = c.encodes in
    let (second, is_second, e2) = c.encodes_again in
    let (ps, is_ps, here) = moved_body f 0 a old c.declarations first e in
    let (qs, is_qs, there) = moved_body f 0 b new c.declarations second e2 in
    let ops : operators ps ≡ c.ops = is_ps ∙ is_first in
    let others : operators qs ≡ c.others = is_qs ∙ is_second in
    let same : AreSame (operators ps) (operators qs) = λ F frames.
    ap (λ l. steps (outermost (rules_of F)) frames (roles_of l)) ops ∙ same_steps F frames c.ops c.others c.same ∙ ap (λ l. steps (outermost (rules_of F)) frames (roles_of l)) (sym others) in (
      typed_alike E ok params results (source_from f a old) (source_from f b new) c.declarations ps qs here there same,
      typed_alike E ok params results (source_from f b new) (source_from f a old) c.declarations qs ps there here (λ F frames. sym (same F frames)),
    )

pub compacted_function : (E : Environment) (x : ℕ) (body again : Reader) → IsOrder E.order → again.features ≡ body.features →
    CompactsFunction body.features (rest body) (rest again) → (IsTypedFunction E x body ↔ IsTypedFunction E x again)
compacted_function E x body again ok same c =
    let both = λ (ps rs : List ValType). compacted_body E ps rs body.features (rest body) (rest again) (offset_of body) (offset_of again) ok c in
    let back = λ (ps rs : List ValType). subst (λ f. IsTypedBody E ps rs (source_from f (offset_of again) (rest again))) same in
    let on = λ (ps rs : List ValType). subst (λ f. IsTypedBody E ps rs (source_from f (offset_of again) (rest again))) (sym same) in (
      λ (params, results, type, typed). (params, results, type, on params results ((both params results).0 typed)),
      λ (params, results, type, typed). (params, results, type, (both params results).1 (back params results typed)),
    )
