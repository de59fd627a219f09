-- Branch tables whose targets are written again.
use Rattle.std.proofs.Common.{◌≡◌, ℕ, ◌+◌, ◌≤◌, inl, inr, Option, Some, None, List, [], ◌∷◌, ◌++◌, length, refl, sym, ap, subst, ◌∙◌, append_assoc, append-nil, arith, length-append}
use Rattle.std.specs.Prelude.{option_map, option_and_then}
use Rattle.wasm_below.specs.declared.features.WasmFeatures.{WasmFeatures}
use Rattle.wasm_below.specs.Number.{EncodesUnsigned}
use Rattle.wasm_imm.specs.BranchTables.{BranchTable, AreTargets, max_targets, numbers_of}
use Rattle.wasm_imm.specs.Lists.{EncodesEach}
use Rattle.wasm_imm.proofs.BranchTables.{targets_encoded, numbers_are}
use Rattle.wasm_instr.specs.declared.operator.Operator.{Operator}
use Rattle.wasm_instr.specs.declared.operator.Operator.TheVariants as operator
use Rattle.wasm_instr.specs.Encoding.{EncodesOperator}
use Rattle.wasm_instr.specs.Roles.{role_of, roles_of}
use Rattle.wasm_grammar.specs.declared.frame_kind.FrameKind.{FrameKind}
use Rattle.wasm_grammar.specs.declared.frame_kind.FrameKind.TheVariants as frame
use Rattle.wasm_grammar.specs.Frames.{frames_after_in, frames_after, frames_along}
use Rattle.wasm_grammar.specs.Role.{Role, plain}
use Rattle.wasm_grammar.proofs.Runs.{tree_of, walk_runs_out}
use Rattle.wasm_operators.specs.Expression.{Placed, operators, LaidOut, AreWalk}
use Rattle.wasm_encode_numbers.specs.Appended.{Appends}
use Rattle.wasm_encode_immediates.proofs.ListTexts.{each_appended}
use Rattle.wasm_encode.specs.Shortened.{HaveSameTargets, EqualByTargets, AreEqualByTargets, EncodesSame, EncodesByTargets, AppendsByTargets}
use Rattle.wasm_encode.proofs.Lists.{EncodesPlaced}

-- ---- the targets of a table, one by one

-- Of all numbers, those before `now` were written. The bytes `left` encode the others.
pub record WritesOn (all now old new : List ℕ) : Type 0 where
  pub seen : List ℕ
  pub left : List ℕ
  pub parts : all ≡ seen ++ now
  pub written : Appends (EncodesEach (EncodesUnsigned 32)) seen old new
  pub encodes : EncodesEach (EncodesUnsigned 32) left now

pub none_written : (all left now old : List ℕ) → all ≡ now → EncodesEach (EncodesUnsigned 32) left now → (w : WritesOn all now old old) × (length w.left ≤ length left)
none_written all left now old same e = (
  record {
    seen = [];
    left = left;
    parts = same;
    written = record { text = []; appended = sym (append-nil old); encodes = refl; shortest = λ other p. omega arith };
    encodes = e;
  },
  omega arith,
)

pub next_written : (all now more old mid new : List ℕ) (label : ℕ) (w : WritesOn all now old mid) → now ≡ label ∷ more → (a : Appends (EncodesUnsigned 32) label mid new) →
    (v : WritesOn all more old new) × (length a.text + length v.left ≤ length w.left)
next_written all now more old mid new label w first a =
    let (head, rest, parts, one, others) = subst (EncodesEach (EncodesUnsigned 32) w.left) first w.encodes in
    let s = a.shortest head one in
    let l = ap length parts ∙ length-append head rest in (
      record {
        seen = w.seen ++ label ∷ [];
        left = rest;
        parts = w.parts ∙ ap (λ z. w.seen ++ z) first ∙ sym (append_assoc w.seen (label ∷ []) more);
        written = each_appended (EncodesUnsigned 32) w.seen label old mid new w.written a;
        encodes = others;
      },
      omega (arith, s, l),
    )

pub all_written : (all now old new : List ℕ) → WritesOn all now old new → now ≡ [] → Appends (EncodesEach (EncodesUnsigned 32)) all old new
all_written all now old new w none =
    subst (λ z. Appends (EncodesEach (EncodesUnsigned 32)) z old new) (sym (w.parts ∙ ap (λ z. w.seen ++ z) none ∙ append-nil w.seen)) w.written

-- ---- one operator

same_itself : (t : BranchTable) → AreTargets t.count t.targets → HaveSameTargets t t
same_itself t (numbers, e) = record { numbers = numbers; targets = e; others = e; default = refl }

-- An operator that equals a branch table by targets is one.
table_of : (t : BranchTable) (other : Operator) → AreTargets t.count t.targets → EqualByTargets (operator.BrTable t) other →
    (u : BranchTable) × (other ≡ operator.BrTable u) × HaveSameTargets t u
table_of t other are (inl e) = (t, sym e, same_itself t are)
table_of t other are (inr (s, u, e, is, same)) =
    let one : s ≡ t = cc e in
    (u, is, subst (λ z. HaveSameTargets z u) one same)

pub table_shortened : (f : WasmFeatures) (t : BranchTable) (old a b c new : List ℕ) → AreTargets t.count t.targets → t.count ≤ max_targets → a ≡ old ++ 0x0e ∷ [] →
    Appends (EncodesUnsigned 32) t.count a b → Appends (EncodesEach (EncodesUnsigned 32)) (numbers_of t.targets) b c → Appends (EncodesUnsigned 32) t.default c new →
    Appends (EncodesSame f) (operator.BrTable t) old new
table_shortened f t old a b c new are le code x y z =
    let many = targets_encoded t.count t.targets are in
    let u : BranchTable = record { count = t.count; targets = y.text; default = t.default } in
    let numbers = x.text ++ (y.text ++ z.text) in
    record {
      text = 0x0e ∷ numbers;
      appended = z.appended ∙ ap (λ w. w ++ z.text) (y.appended ∙ ap (λ w. w ++ y.text) (x.appended ∙ ap (λ w. w ++ x.text) code)) ∙
          append_assoc (((old ++ 0x0e ∷ []) ++ x.text)) y.text z.text ∙ append_assoc (old ++ 0x0e ∷ []) x.text (y.text ++ z.text) ∙ append_assoc old (0x0e ∷ []) numbers;
      encodes = (
        operator.BrTable u,
        inr (t, u, refl, refl, record { numbers = numbers_of t.targets; targets = many; others = (many.0, y.encodes); default = refl }),
        record {
          head = 0x0e ∷ [];
          after = numbers;
          parts = refl;
          code = refl;
          immediates = (numbers, [], sym (append-nil numbers), (x.text, z.text, refl, (x.encodes, le), (numbers_of t.targets, (many.0, y.encodes)), z.encodes), refl);
          enabled = tt;
        },
      );
      shortest = λ other (op, equal, e). no_longer f t x.text y.text z.text other op are x.shortest y.shortest z.shortest equal e;
    }
  where
    no_longer : (f : WasmFeatures) (t : BranchTable) (x y z other : List ℕ) (op : Operator) → AreTargets t.count t.targets →
        ((text : List ℕ) → EncodesUnsigned 32 text t.count → length x ≤ length text) →
        ((text : List ℕ) → EncodesEach (EncodesUnsigned 32) text (numbers_of t.targets) → length y ≤ length text) →
        ((text : List ℕ) → EncodesUnsigned 32 text t.default → length z ≤ length text) →
        EqualByTargets (operator.BrTable t) op → EncodesOperator f other op → length (0x0e ∷ (x ++ (y ++ z))) ≤ length other
    no_longer f t x y z other op are p q r equal e =
        let (u, is, same) = table_of t op are equal in
        let coded = subst (EncodesOperator f other) is e in
        let (first, more, parts, (count, default, split, size, targets, last), none) = coded.immediates in
        let n = p count (subst (EncodesUnsigned 32 count) (sym same.others.0 ∙ same.targets.0) size.0) in
        let m = q u.targets (subst (EncodesEach (EncodesUnsigned 32) u.targets) (sym (numbers_are t.targets same.numbers same.targets.1)) same.others.1) in
        let k = r default (subst (EncodesUnsigned 32 default) (sym same.default) last) in
        let l1 = length-append x (y ++ z) in
        let l2 = length-append y z in
        let l3 = ap length split ∙ length-append count (u.targets ++ default) in
        let l4 = length-append u.targets default in
        let l5 = ap length parts ∙ length-append first more in
        let l6 = ap length coded.parts ∙ length-append coded.head coded.after in
        let l7 = ap length coded.code in
        omega (arith, n, m, k, l1, l2, l3, l4, l5, l6, l7)

-- Only a branch table equals another operator by targets.
pub operator_same : (f : WasmFeatures) (op : Operator) (old new : List ℕ) → ((t : BranchTable) → op ≡ operator.BrTable t → ⊥) → Appends (EncodesOperator f) op old new →
    Appends (EncodesSame f) op old new
operator_same f op old new no_table a =
    record {
      text = a.text;
      appended = a.appended;
      encodes = (op, inl refl, a.encodes);
      shortest = λ other (op2, equal, e). a.shortest other (same f op other op2 no_table equal e);
    }
  where
    same : (f : WasmFeatures) (op : Operator) (text : List ℕ) (other : Operator) → ((t : BranchTable) → op ≡ operator.BrTable t → ⊥) → EqualByTargets op other →
        EncodesOperator f text other → EncodesOperator f text op
    same f op text other no_table (inl is) e = subst (EncodesOperator f text) (sym is) e
    same f op text other no_table (inr (t, u, is, more, targets)) e = absurd (no_table t is)

-- An operator has an encoding if one that equals it by targets has.
encodable : (f : WasmFeatures) (text : List ℕ) (op other : Operator) → EqualByTargets op other → EncodesOperator f text other → (t : List ℕ) × EncodesOperator f t op
encodable f text op other (inl is) e = (text, subst (EncodesOperator f text) (sym is) e)
encodable f text op other (inr (t, u, is, table, same)) e =
    let coded = subst (EncodesOperator f text) table e in
    let (first, more, parts, (count, default, split, size, targets, last), none) = coded.immediates in
    let counts : u.count ≡ t.count = sym same.others.0 ∙ same.targets.0 in
    let numbers = count ++ (t.targets ++ default) in (
      0x0e ∷ numbers,
      subst (EncodesOperator f (0x0e ∷ numbers)) (sym is)
          (record {
            head = 0x0e ∷ [];
            after = numbers;
            parts = refl;
            code = refl;
            immediates = (
              numbers,
              [],
              sym (append-nil numbers),
              (
                count,
                default,
                refl,
                (subst (EncodesUnsigned 32 count) counts size.0, subst (λ n. n ≤ max_targets) counts size.1),
                (same.numbers, same.targets),
                subst (EncodesUnsigned 32 default) (sym same.default) last,
              ),
              refl,
            );
            enabled = tt;
          }),
    )

-- ---- lists of operators

-- As `EncodesPlaced`, by targets.
abbrev pub EncodesSamePlaced : WasmFeatures → List ℕ → Operator × ℕ → Type 0
EncodesSamePlaced f text p = EncodesSame f text p.0

laid_from : (f : WasmFeatures) (offset : ℕ) (ps : Placed) (text : List ℕ) → EncodesEach (EncodesSamePlaced f) text ps → EncodesByTargets f offset text (operators ps)
laid_from f offset [] text e = ([], tt, ([], refl, e))
laid_from f offset (p ∷ ps) text (first, more, parts, (other, equal, one), e) =
    let (others, equals, (placed, same, laid)) = laid_from f (offset + length first) ps more e in
    (other ∷ others, (equal, equals), ((other, offset) ∷ placed, ap (λ z. other ∷ z) same, (refl, first, more, parts, one, laid)))

each_from : (f : WasmFeatures) (offset : ℕ) (ps qs : Placed) (others : List Operator) (text : List ℕ) → AreEqualByTargets (operators ps) others → operators qs ≡ others →
    LaidOut f offset text qs → EncodesEach (EncodesSamePlaced f) text ps
each_from f offset [] [] others text equal same l = l
each_from f offset [] (q ∷ qs) [] text equal same l = absurd (cc same)
each_from f offset [] (q ∷ qs) (other ∷ others) text equal same l = absurd equal
each_from f offset (p ∷ ps) qs [] text equal same l = absurd equal
each_from f offset (p ∷ ps) [] (other ∷ others) text equal same l = absurd (cc same)
each_from f offset (p ∷ ps) (q ∷ qs) (other ∷ others) text (equal, equals) same (at, first, more, parts, one, l) =
    let head : q.0 ≡ other = cc same in
    let tail : operators qs ≡ others = cc same in
    (first, more, parts, (other, equal, subst (EncodesOperator f first) head one), each_from f (offset + length first) ps qs others more equals tail l)

pub all_shortened : (f : WasmFeatures) (ps : Placed) (old new : List ℕ) → Appends (EncodesEach (EncodesSamePlaced f)) ps old new → AppendsByTargets f (operators ps) old new
all_shortened f ps old new a =
    record {
      text = a.text;
      appended = a.appended;
      encodes = λ offset. laid_from f offset ps a.text a.encodes;
      shortest = λ offset other (others, equal, (qs, same, laid)). a.shortest other (each_from f offset ps qs others other equal same laid);
    }

-- Each of the operators has an encoding.
pub each_encodable : (f : WasmFeatures) (ps : Placed) (text : List ℕ) → EncodesEach (EncodesSamePlaced f) text ps → (t : List ℕ) × EncodesEach (EncodesPlaced f) t ps
each_encodable f [] text e = (text, e)
each_encodable f (p ∷ ps) text (first, more, parts, (other, equal, one), e) =
    let (t, op) = encodable f first p.0 other equal one in
    let (ts, ops) = each_encodable f ps more e in
    (t ++ ts, (t, ts, refl, op, ops))

-- ---- expressions

plain_alike : {A : Type 0} (kind : FrameKind) (inside : List FrameKind) (a b : A) → frames_after_in kind inside (plain a) ≡ frames_after_in kind inside (plain b)
plain_alike kind [] a b = refl
plain_alike kind (next ∷ inside) a b = ap (option_map (λ frames. kind ∷ frames)) (plain_alike next inside a b)

one_alike : (frames : List FrameKind) (op other : Operator) → EqualByTargets op other → frames_after frames (role_of op) ≡ frames_after frames (role_of other)
one_alike frames op other (inl is) = ap (λ o. frames_after frames (role_of o)) is
one_alike [] op other (inr e) = refl
one_alike (kind ∷ inside) op other (inr (t, u, is, table, same)) =
    ap (λ o. frames_after (kind ∷ inside) (role_of o)) is ∙ plain_alike kind inside (operator.BrTable t) (operator.BrTable u) ∙ ap (λ o. frames_after (kind ∷ inside) (role_of o)) (sym table)

then_alike : (xs ys : List (Role Operator)) (o : Option (List FrameKind)) → ((next : List FrameKind) → frames_along next xs ≡ frames_along next ys) →
    option_and_then (λ next. frames_along next xs) o ≡ option_and_then (λ next. frames_along next ys) o
then_alike xs ys None h = refl
then_alike xs ys (Some next) h = h next

along_alike : (frames : List FrameKind) (ops others : List Operator) → AreEqualByTargets ops others → frames_along frames (roles_of ops) ≡ frames_along frames (roles_of others)
along_alike frames [] [] equal = refl
along_alike frames [] (other ∷ others) equal = absurd equal
along_alike frames (op ∷ ops) [] equal = absurd equal
along_alike frames (op ∷ ops) (other ∷ others) (one, more) =
    ap (option_and_then (λ next. frames_along next (roles_of ops))) (one_alike frames op other one) ∙
    then_alike (roles_of ops) (roles_of others) (frames_after frames (role_of other)) (λ next. along_alike next ops others more)

-- If the operators of an expression equal others by their targets, the others are an expression's too.
pub walk_by_targets : (ops others : List Operator) → AreEqualByTargets ops others → AreWalk ops → AreWalk others
walk_by_targets ops others equal walk =
    tree_of (roles_of others) (sym (along_alike (frame.Block ∷ []) ops others equal) ∙ walk_runs_out (roles_of ops) walk.0 walk.1)
