-- Bodies: the operators and locals that were read, and those that were written.
use Rattle.std.proofs.Common.{◌≡◌, ℕ, ◌+◌, ◌≤◌, inl, List, [], ◌∷◌, ◌++◌, length, refl, sym, ap, subst, ◌∙◌, arith, length-append}
use Rattle.wasm_below.specs.declared.features.WasmFeatures.{WasmFeatures}
use Rattle.wasm_below.specs.Source.{Source, Reader, rest, source_of}
use Rattle.wasm_instr.specs.declared.operator.Operator.{Operator}
use Rattle.wasm_operators.specs.Body.{EncodesBody}
use Rattle.wasm_operators.specs.Expression.{Placed, operators, LaidOut}
use Rattle.wasm_operators.specs.Locals.{Declaration}
use Rattle.wasm_encode.specs.Shortened.{AreEqualByTargets, AppendsBodyByTargets}
use Rattle.wasm_encode.specs.Writing.{EncodesOperators}
use Rattle.wasm_encode.proofs.Targets.{walk_by_targets}
use Rattle.wasm_compaction.specs.Compaction.{EncodesFunction, CompactsFunction}

-- The same bytes from another offset.
laid_at : (f : WasmFeatures) (from to : ℕ) (ps : Placed) (text : List ℕ) → LaidOut f from text ps → EncodesOperators f to text (operators ps)
laid_at f from to [] text e = ([], refl, e)
laid_at f from to (p ∷ ps) text (at, first, more, parts, one, l) =
    let (rest, same, laid) = laid_at f (from + length first) (to + length first) ps more l in
    ((p.0, to) ∷ rest, ap (λ z. p.0 ∷ z) same, (refl, first, more, parts, one, laid))

pub equal_itself : (ops : List Operator) → AreEqualByTargets ops ops
equal_itself [] = tt
equal_itself (op ∷ ops) = (inl refl, equal_itself ops)

equal_by_targets : (ops others : List Operator) → ops ≡ others → AreEqualByTargets ops others
equal_by_targets ops others e = subst (λ z. AreEqualByTargets ops z) e (equal_itself ops)

function_of : (s : Source) (ds : List Declaration) (placed : Placed) → EncodesBody s ds placed → EncodesFunction s.features s.bytes ds (operators placed)
function_of s ds placed e =
    let (again, same, laid) = laid_at s.features (s.offset + length e.locals) (0 + length e.locals) placed e.expression e.encodes_expression.0 in (
      again,
      same,
      record {
        locals = e.locals;
        expression = e.expression;
        parts = e.parts;
        encodes_locals = e.encodes_locals;
        encodes_expression = (laid, walk_by_targets (operators placed) (operators again) (equal_by_targets (operators placed) (operators again) (sym same)) e.encodes_expression.1);
      },
    )

pub function_compacted : (s : Source) (ds : List Declaration) (placed : Placed) (new : List ℕ) → EncodesBody s ds placed → AppendsBodyByTargets s.features ds (operators placed) [] new →
    CompactsFunction s.features s.bytes new
function_compacted s ds placed new e a =
    let (others, equal, (again, same, laid)) = a.expression.encodes (0 + length a.locals.text) in
    let whole : new ≡ a.locals.text ++ a.expression.text = a.expression.appended ∙ ap (λ z. z ++ a.expression.text) a.locals.appended in
    record {
      declarations = ds;
      ops = operators placed;
      others = others;
      encodes = function_of s ds placed e;
      encodes_again = (
        again,
        same,
        record {
          locals = a.locals.text;
          expression = a.expression.text;
          parts = whole;
          encodes_locals = a.locals.encodes;
          encodes_expression = (laid, walk_by_targets (operators placed) (operators again) (subst (λ z. AreEqualByTargets (operators placed) z) (sym same) equal) e.encodes_expression.1);
        },
      );
      same = equal;
      shortest = λ other more by (third, is, body).
          let s1 = a.locals.shortest body.locals body.encodes_locals in
          let s2 = a.expression.shortest (0 + length body.locals) body.expression (more, by, (third, is, body.encodes_expression.0)) in
          let l1 = ap length whole ∙ length-append a.locals.text a.expression.text in
          let l2 = ap length body.parts ∙ length-append body.locals body.expression in
          omega (arith, s1, s2, l1, l2);
    }

pub function_no_longer : (f : WasmFeatures) (old new : List ℕ) → CompactsFunction f old new → length new ≤ length old
function_no_longer f old new c = c.shortest old c.ops (equal_itself c.ops) c.encodes

-- What a call read and wrote, by equal features, declarations and operators.
pub body_compacted : (f : WasmFeatures) (body : Reader) (ds shown : List Declaration) (placed ops : Placed) (old new : List ℕ) → EncodesBody (source_of body) ds placed →
    f ≡ body.features → shown ≡ ds → ops ≡ placed → old ≡ [] → AppendsBodyByTargets f shown (operators ops) old new → CompactsFunction body.features (rest body) new
body_compacted f body ds shown placed ops old new e same_features same_locals same_operators empty a =
    let a1 = subst (λ g. AppendsBodyByTargets g shown (operators ops) old new) same_features a in
    let a2 = subst (λ z. AppendsBodyByTargets body.features z (operators ops) old new) same_locals a1 in
    let a3 = subst (λ p. AppendsBodyByTargets body.features ds (operators p) old new) same_operators a2 in
    function_compacted (source_of body) ds placed new e (subst (λ z. AppendsBodyByTargets body.features ds (operators placed) z new) empty a3)
