use Rattle.std.proofs.Common.{◌≡◌, ℕ, ◌+◌, ◌-◌, List, [], ◌∷◌, ◌++◌, length, take, Result, Ok, Err, IfOk, IfErr, refl, sym, subst, ap, ◌∙◌, arith}
use Rattle.std.proofs.Math.Seq.{take-append_seam}
use Rattle.wasm_below.specs.Source.{Reader, rest, offset_of, reader_of, Takes}
use Rattle.wasm_grammar.specs.OpenPath.{OpenPath}
use Rattle.wasm_instr.specs.declared.operator.Operator.{Operator}
use Rattle.wasm_instr.specs.declared.operator.Operator.TheVariants as operator
use Rattle.wasm_instr.specs.Roles.{roles_of}
use Rattle.wasm_decode_opcodes.specs.Allowed.{EncodesAllowed}
use Rattle.wasm_operators.proofs.DecoderPremises.{sound}
use Rattle.wasm_operators.specs.Expression.{Placed, operators, LaidOut, AreWalk}
use Rattle.wasm_operators.specs.Reading.{State, IsFresh, TakesOperators, TakesOperator}
use Rattle.wasm_operators.proofs.Runs.{ran_push, fresh_before, read_further}
use Rattle.wasm_operators.specs.Constant.{HasNoEnd, EncodesConstantReader}
use Rattle.wasm_operators.specs.Passing.{PassesEnd}
use Rattle.wasm_operators.proofs.OneEnd.{passed_end}

pub ok_more : {X E : Type 0} {P Q : X → Type 0} (r : Result X E) → ((x : X) → P x → Q x) → IfOk r P → IfOk r Q
ok_more (Ok x) f h = f x h
ok_more (Err e) f h = tt

pub err_more : {X E : Type 0} {P Q : E → Type 0} (r : Result X E) → ((e : E) → P e → Q e) → IfErr r P → IfErr r Q
err_more (Ok x) f h = tt
err_more (Err e) f h = f e h

pub end_passed : (s t u : State) (placed : Placed) (op : Operator) → TakesOperators s t placed → HasNoEnd (operators placed) → TakesOperator EncodesAllowed op t u →
    op ≡ operator.End → PassesEnd s u
end_passed s t u placed op r no_end k is =
    (placed ++ (op, offset_of t.reader) ∷ [], ran_push EncodesAllowed sound s t u placed op r k, passed_end placed op (offset_of t.reader) no_end is)

walk_passed : (s t : State) (placed : Placed) → IsFresh s → TakesOperators s t placed → t.frames ≡ [] → AreWalk (operators placed)
walk_passed s t placed fresh r closed = subst (OpenPath (roles_of (operators placed))) closed (read_further [] s t placed (fresh_before s fresh) r).path

take_first : (xs ys : List ℕ) (n : ℕ) → n ≡ length xs → take n (xs ++ ys) ≡ xs
take_first xs ys n e = ap (λ k. take k (xs ++ ys)) e ∙ take-append_seam xs ys

pub constant_there : (s t : State) (c : Reader) (bytes : List ℕ) → IsFresh s → PassesEnd s t → t.frames ≡ [] →
    bytes ≡ take (t.reader.position - s.reader.position) (rest s.reader) → c ≡ reader_of s.reader.features (offset_of s.reader) bytes →
    (text : List ℕ) × EncodesConstantReader s.reader.features text c × Takes s.reader t.reader text
constant_there s t c bytes fresh (placed, r, once) closed cut is =
    let f = s.reader.features in
    let o = offset_of s.reader in
    let position : t.reader.position ≡ s.reader.position + length r.text = ap (λ (z : Reader). z.position) r.takes.moved in
    let whole : bytes ≡ r.text = cut ∙ ap (take (t.reader.position - s.reader.position)) r.takes.parts ∙
    take_first r.text (rest t.reader) (t.reader.position - s.reader.position) (omega (arith, position)) in
    let same : reader_of f o r.text ≡ c = ap (reader_of f o) (sym whole) ∙ sym is in
    let offset : o ≡ o + 0 = omega arith in
    let laid : LaidOut f (o + 0) r.text placed = subst (λ n. LaidOut f n r.text placed) offset r.laid in
    (r.text, subst (EncodesConstantReader f r.text) same ((refl, refl, refl, refl), (placed, (laid, walk_passed s t placed fresh r closed), once)), r.takes)

pub constant_read : (old : Reader) (s t : State) (after c : Reader) (bytes : List ℕ) → s.reader ≡ old → IsFresh s → PassesEnd s t → t.frames ≡ [] →
    after ≡ t.reader → bytes ≡ take (after.position - old.position) (rest old) → c ≡ reader_of old.features (offset_of old) bytes →
    (text : List ℕ) × EncodesConstantReader old.features text c × Takes old after text
constant_read old s t after c bytes same fresh passed closed went cut is =
    let size : after.position - old.position ≡ t.reader.position - s.reader.position =
    ap (λ (r : Reader). r.position - old.position) went ∙ ap (λ (r : Reader). t.reader.position - r.position) (sym same) in
    let bytes_there : bytes ≡ take (t.reader.position - s.reader.position) (rest s.reader) =
    cut ∙ ap (λ n. take n (rest old)) size ∙ ap (λ r. take (t.reader.position - s.reader.position) (rest r)) (sym same) in
    let reader_there : c ≡ reader_of s.reader.features (offset_of s.reader) bytes =
    is ∙ ap (λ (r : Reader). reader_of r.features (offset_of r) bytes) (sym same) in
    let there = constant_there s t c bytes fresh passed closed bytes_there reader_there in (
      there.0,
      subst (λ (r : Reader). EncodesConstantReader r.features there.0 c) same there.1,
      subst (λ r. Takes r after there.0) same (subst (λ r. Takes s.reader r there.0) (sym went) there.2),
    )
