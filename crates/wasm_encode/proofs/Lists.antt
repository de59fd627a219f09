-- Lists of operators, with and without offsets.
use Rattle.std.proofs.Common.{◌≡◌, ℕ, zero, suc, ◌+◌, ◌<◌, List, [], ◌∷◌, ◌++◌, length, get_or, take, refl, sym, ap, subst, ◌∙◌, append_assoc, arith, length-append, ◌≢◌}
use Rattle.wasm_below.specs.declared.features.WasmFeatures.{WasmFeatures}
use Rattle.wasm_imm.specs.Lists.{EncodesEach}
use Rattle.wasm_instr.specs.declared.operator.Operator.{Operator}
use Rattle.wasm_instr.specs.Encoding.{EncodesOperator}
use Rattle.wasm_operators.specs.Expression.{Placed, operators, LaidOut, AreWalk, EncodesExpression}
use Rattle.wasm_operators.specs.Body.{EncodesBody}
use Rattle.wasm_operators.specs.Locals.{Declaration, EncodesDeclaration, EncodesLocals}
use Rattle.wasm_below.specs.declared.types.ValType.{ValType}
use Rattle.wasm_below.specs.Number.{EncodesUnsigned}
use Rattle.wasm_below.specs.TypeEncoding.{EncodesValType}
use Rattle.wasm_encode_numbers.specs.Appended.{Appends}
use Rattle.wasm_encode_immediates.specs.declared.unwritable.Unwritable.{Unwritable}
use Rattle.wasm_encode_immediates.specs.declared.unwritable.Unwritable.TheVariants as why
use Rattle.wasm_encode_operators.specs.Encoding.{IsUnwritable}
use Rattle.wasm_encode.specs.Writing.{EncodesOperators, AppendsOperators, AppendsBody, HasUnwritable, Rewrote, source_at}

-- An operator with an offset, which does not matter.
abbrev pub EncodesPlaced : WasmFeatures → List ℕ → Operator × ℕ → Type 0
EncodesPlaced f text p = EncodesOperator f text p.0

laid_from : (f : WasmFeatures) (offset : ℕ) (ps : Placed) (text : List ℕ) → EncodesEach (EncodesPlaced f) text ps → EncodesOperators f offset text (operators ps)
laid_from f offset [] text e = ([], refl, e)
laid_from f offset (p ∷ ps) text (first, more, parts, one, e) =
    let (rest, same, laid) = laid_from f (offset + length first) ps more e in
    ((p.0, offset) ∷ rest, ap (λ z. p.0 ∷ z) same, (refl, first, more, parts, one, laid))

each_from : (f : WasmFeatures) (offset : ℕ) (ps qs : Placed) (text : List ℕ) → operators qs ≡ operators ps → LaidOut f offset text qs → EncodesEach (EncodesPlaced f) text ps
each_from f offset [] [] text e l = l
each_from f offset (p ∷ ps) [] text e l = absurd (cc e)
each_from f offset [] (q ∷ qs) text e l = absurd (cc e)
each_from f offset (p ∷ ps) (q ∷ qs) text e (at, first, more, parts, one, l) =
    let head : q.0 ≡ p.0 = cc e in
    let tail : operators qs ≡ operators ps = cc e in
    (first, more, parts, subst (EncodesOperator f first) head one, each_from f (offset + length first) ps qs more tail l)

pub all_appended : (f : WasmFeatures) (ps : Placed) (old new : List ℕ) → Appends (EncodesEach (EncodesPlaced f)) ps old new → AppendsOperators f (operators ps) old new
all_appended f ps old new a =
    record {
      text = a.text;
      appended = a.appended;
      encodes = λ offset. laid_from f offset ps a.text a.encodes;
      shortest = λ offset other (qs, same, laid). a.shortest other (each_from f offset ps qs other same laid);
    }

pub one_unwritable : (f : WasmFeatures) (ps : Placed) (i : ℕ) (p : Operator × ℕ) (e : Unwritable) (text : List ℕ) → i < length ps → p ≡ get_or ps i p →
    EncodesEach (EncodesPlaced f) text (take i ps) → IsUnwritable f p.0 e → HasUnwritable f (operators ps) e
one_unwritable f [] i p e text lt is each u = absurd (omega (arith, lt))
one_unwritable f (q ∷ ps) zero p e text lt is each u =
    record { before = []; op = q.0; after = operators ps; parts = refl; encoded = tt; unwritable = subst (λ z. IsUnwritable f z.0 e) is u }
one_unwritable f (q ∷ ps) (suc i) p e text lt is (first, more, parts, one, each) u =
    let h = one_unwritable f ps i p e more (omega (arith, lt)) is each u in
    record { before = q.0 ∷ h.before; op = h.op; after = h.after; parts = ap (λ z. q.0 ∷ z) h.parts; encoded = ((first, one), h.encoded); unwritable = h.unwritable }

-- ---- expressions

pub rewritten : (f : WasmFeatures) (bytes old new : List ℕ) (placed : Placed) → EncodesExpression (source_at f bytes) placed → AppendsOperators f (operators placed) old new →
    Rewrote f bytes old new
rewritten f bytes old new placed e a =
    let (again, same, laid) = a.encodes 0 in
    record {
      placed = placed;
      again = again;
      text = a.text;
      encodes = e;
      appended = a.appended;
      encodes_again = (laid, subst AreWalk (sym same) e.1);
      same = same;
      no_longer = a.shortest 0 bytes (placed, refl, e.0);
    }

pub encodes_walk : (f : WasmFeatures) (ops : List Operator) (text : List ℕ) → AreWalk ops → EncodesOperators f 0 text ops → (placed : Placed) × (operators placed ≡ ops) × EncodesExpression (source_at f text) placed
encodes_walk f ops text walk (again, same, laid) = (again, same, (laid, subst AreWalk (sym same) walk))

-- A body that was appended to nothing is a body, if the operators are a walk.
pub encodes_body : (f : WasmFeatures) (ds : List Declaration) (ops : List Operator) (new : List ℕ) → AreWalk ops → AppendsBody f ds ops [] new →
    (placed : Placed) × (operators placed ≡ ops) × EncodesBody (source_at f new) ds placed
encodes_body f ds ops new walk a =
    let (again, same, laid) = a.expression.encodes (0 + length a.locals.text) in (
      again,
      same,
      record {
        locals = a.locals.text;
        expression = a.expression.text;
        parts = a.expression.appended ∙ ap (λ z. z ++ a.expression.text) a.locals.appended;
        encodes_locals = a.locals.encodes;
        encodes_expression = (laid, subst AreWalk (sym same) walk);
      },
    )

pub locals_appended : (ds : List Declaration) (n : ℕ) (old mid new : List ℕ) → length ds ≡ n → Appends (EncodesUnsigned 32) n old mid → Appends (EncodesEach EncodesDeclaration) ds mid new →
    Appends EncodesLocals ds old new
locals_appended ds n old mid new same a b =
    record {
      text = a.text ++ b.text;
      appended = b.appended ∙ ap (λ z. z ++ b.text) a.appended ∙ append_assoc old a.text b.text;
      encodes = (a.text, b.text, n, refl, a.encodes, (same, b.encodes));
      shortest = λ other (first, rest, k, e, size, many).
          let kn : k ≡ n = sym many.0 ∙ same in
          let x = a.shortest first (subst (EncodesUnsigned 32 first) kn size) in
          let y = b.shortest rest many.1 in
          let l = length-append a.text b.text in
          let m = ap length e ∙ length-append first rest in
          omega (arith, x, y, l, m);
    }

pub declaration_appended : (n : ℕ) (ty : ValType) (old mid new : List ℕ) → Appends (EncodesUnsigned 32) n old mid → Appends EncodesValType ty mid new → Appends EncodesDeclaration (n, ty) old new
declaration_appended n ty old mid new a b =
    record {
      text = a.text ++ b.text;
      appended = b.appended ∙ ap (λ z. z ++ b.text) a.appended ∙ append_assoc old a.text b.text;
      encodes = (a.text, b.text, refl, a.encodes, b.encodes);
      shortest = λ other (first, second, e, p, q).
          let x = a.shortest first p in
          let y = b.shortest second q in
          let l = length-append a.text b.text in
          let k = ap length e ∙ length-append first second in
          omega (arith, x, y, l, k);
    }

-- ---- what was read can be written

laid_has : (f : WasmFeatures) (offset : ℕ) (ps : Placed) (text : List ℕ) (before : List Operator) (op : Operator) (after : List Operator) → LaidOut f offset text ps →
    operators ps ≡ before ++ (op ∷ after) → (t : List ℕ) × EncodesOperator f t op
laid_has f offset [] text [] op after l e = absurd (cc e)
laid_has f offset [] text (b ∷ bs) op after l e = absurd (cc e)
laid_has f offset (p ∷ ps) text [] op after (at, first, more, parts, one, l) e = let head : p.0 ≡ op = cc e in (first, subst (EncodesOperator f first) head one)
laid_has f offset (p ∷ ps) text (b ∷ bs) op after (at, first, more, parts, one, l) e =
    let tail : operators ps ≡ bs ++ (op ∷ after) = cc e in
    laid_has f (offset + length first) ps more bs op after l tail

encoded : (f : WasmFeatures) (offset : ℕ) (ps : Placed) (text : List ℕ) (e : Unwritable) → LaidOut f offset text ps → HasUnwritable f (operators ps) e → ⊥
encoded f offset ps text e l h =
    let (t, p) = laid_has f offset ps text h.before h.op h.after l h.parts in
    h.unwritable.none t p

pub only_memory : (f : WasmFeatures) (offset : ℕ) (ps : Placed) (text : List ℕ) (e : Unwritable) → LaidOut f offset text ps → (e ≢ why.OutOfMemory → HasUnwritable f (operators ps) e) → e ≡ why.OutOfMemory
only_memory f offset ps text why.OutOfMemory l h = refl
only_memory f offset ps text (why.NeedsFeature g) l h = absurd (encoded f offset ps text (why.NeedsFeature g) l (h (λ q. cc q)))
only_memory f offset ps text why.Alignment l h = absurd (encoded f offset ps text why.Alignment l (h (λ q. cc q)))
only_memory f offset ps text why.NaturalAlignment l h = absurd (encoded f offset ps text why.NaturalAlignment l (h (λ q. cc q)))
only_memory f offset ps text why.WrongOrdering l h = absurd (encoded f offset ps text why.WrongOrdering l (h (λ q. cc q)))
only_memory f offset ps text why.TypeIndex l h = absurd (encoded f offset ps text why.TypeIndex l (h (λ q. cc q)))
only_memory f offset ps text why.TooMany l h = absurd (encoded f offset ps text why.TooMany l (h (λ q. cc q)))
only_memory f offset ps text why.SingleType l h = absurd (encoded f offset ps text why.SingleType l (h (λ q. cc q)))
