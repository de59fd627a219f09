-- The declarations that were read, and those that the bytes of a body encode.
use Rattle.std.proofs.Common.{◌≡◌, ℕ, ◌+◌, ◌-◌, ◌<◌, ◌≤◌, true, false, List, [], ◌∷◌, ◌++◌, length, replicate, Some, Ok, Err, refl, sym, ap, subst, ◌∙◌, append_assoc, append-nil, length-append, arith}
use Rattle.std.specs.Prelude.{Result, OnOk}
use Rattle.std.proofs.lemmas.List.{length-replicate}
use Rattle.wasm_below.specs.declared.error.Error.{Error}
use Rattle.wasm_below.specs.declared.message.Message.{Message}
use Rattle.wasm_below.specs.declared.message.Message.TheVariants as message
use Rattle.wasm_below.specs.declared.types.ValType.{ValType}
use Rattle.wasm_below.specs.Sequence.{PrefixCode}
use Rattle.wasm_below.specs.Source.{Reader, rest, source_of, MayFollow}
use Rattle.wasm_below.specs.Number.{EncodesUnsigned}
use Rattle.wasm_below.proofs.Blocks.{refused_now}
use Rattle.wasm_below.proofs.Steps.{number_prefix_code}
use Rattle.wasm_below.proofs.TakesLemmas.{same_rest}
use Rattle.wasm_imm.specs.Lists.{EncodesEach}
use Rattle.wasm_operators.specs.Body.{EncodesBody}
use Rattle.wasm_operators.specs.Expression.{Placed, operators, EncodesExpression}
use Rattle.wasm_operators.specs.Locals.{Declaration, EncodesDeclaration, IsPastLocals, Locals, LocalsLeft, OpensLocals, ReadsDeclaration, StepsLocals, StepsAlong, HasStepped, all_left}
use Rattle.wasm_typing.specs.Types.{value_type}
use Rattle.wasm_typing.specs.Matching.{TypeOrder}
use Rattle.wasm_typing.specs.Typing.{ExpressionTyped}
use Rattle.wasm_check_control.specs.Environment.{Environment, stack_of}
use Rattle.wasm_check_control.specs.State.{outermost}
use Rattle.wasm_check_operators.specs.Forms.{is_valid}
use Rattle.wasm_check_operators.specs.Language.{rules_of}
use Rattle.wasm_check_locals.specs.Locals.{locals_of, in_function}
use Rattle.wasm_check.specs.declared.error.CheckError.{CheckError}
use Rattle.wasm_check.specs.declared.error.CheckError.TheVariants as check
use Rattle.wasm_check.specs.Bodies.{max_function_locals, HaveValidTypes, MayDeclare, StopsLocals, ExplainsLocals, HasDeclared, EncodesTypedBody, IsTypedBody}
use Rattle.wasm_check.specs.Constants.{may_occur, IsTypedOf}
use Rattle.wasm_check.specs.Typed.{AreTyped, EncodesTyped, IsSaidOf}

-- After the declarations `before` of `all`, these are left.
pub record Remains (all before : List Declaration) (items : LocalsLeft) : Type 0 where
  pub more : List Declaration
  pub is : all ≡ before ++ more
  pub left : items.left ≡ length more
  pub text : List ℕ
  pub others : List ℕ
  pub encodes : EncodesEach EncodesDeclaration text more
  pub ahead : rest items.locals.reader ≡ text ++ others

remains_all : (all : List Declaration) (placed : Placed) (body : Reader) (unread : Locals) → EncodesBody (source_of body) all placed → OpensLocals (Ok unread) body →
    Remains all [] (all_left unread)
remains_all all placed body unread encodes (text, count, takes, none) =
    let (first, others, n, parts, number, (many, each)) = encodes.encodes_locals in
    let whole : text ++ rest unread.reader ≡ first ++ (others ++ encodes.expression) =
    sym takes.parts ∙ encodes.parts ∙ ap (λ z. z ++ encodes.expression) parts ∙ append_assoc first others encodes.expression in
    let same = number_prefix_code 32 text first (rest unread.reader) (others ++ encodes.expression) unread.count n count number whole in
    record {
      more = all;
      is = refl;
      left = same.1 ∙ sym many;
      text = others;
      others = encodes.expression;
      encodes = each;
      ahead = same_rest text first (rest unread.reader) (others ++ encodes.expression) same.0 whole;
    }

sizes : (before more : List Declaration) → length (locals_of (before ++ more)) ≡ length (locals_of before) + length (locals_of more)
sizes [] more = omega arith
sizes (d ∷ ds) more =
    let e = sizes ds more in
    let a = length-append (replicate d.0 d.1) (locals_of (ds ++ more)) in
    let b = length-append (replicate d.0 d.1) (locals_of ds) in
    omega (arith, e, a, b)

size_next : (before : List Declaration) (d : Declaration) (more : List Declaration) →
    length (locals_of (before ++ d ∷ more)) ≡ length (locals_of before) + d.0 + length (locals_of more)
size_next before d more =
    let e = sizes before (d ∷ more) in
    let a = length-append (replicate d.0 d.1) (locals_of more) in
    let b = length-replicate d.0 d.1 in
    omega (arith, e, a, b)

module _ (code : PrefixCode EncodesDeclaration) (all : List Declaration) where
  one_less : (before : List Declaration) (d : Declaration) (old new : LocalsLeft) → Remains all before old → StepsLocals (Some (Ok d)) old new → Remains all (before ++ d ∷ []) new
  one_less before d old new h step = go h.more h.is h.left h.text h.encodes h.ahead step
    where
      go : (more : List Declaration) → all ≡ before ++ more → old.left ≡ length more → (text : List ℕ) → EncodesEach EncodesDeclaration text more →
          rest old.locals.reader ≡ text ++ h.others → StepsLocals (Some (Ok d)) old new → Remains all (before ++ d ∷ []) new
      go [] is left text encodes ahead (less, ((taken, (encoded, fits), takes), count, sum)) = absurd (omega (arith, less, left))
      go (e ∷ es) is left text (first, others, parts, one, each) ahead (less, ((taken, (encoded, fits), takes), count, sum)) =
          let whole : taken ++ rest new.locals.reader ≡ first ++ (others ++ h.others) =
          sym takes.parts ∙ ahead ∙ ap (λ z. z ++ h.others) parts ∙ append_assoc first others h.others in
          let same = code taken first (rest new.locals.reader) (others ++ h.others) d e encoded one whole in
          record {
            more = es;
            is = is ∙ ap (λ x. before ++ x ∷ es) (sym same.1) ∙ sym (append_assoc before (d ∷ []) es);
            left = omega (arith, less, left);
            text = others;
            others = h.others;
            encodes = each;
            ahead = same_rest taken first (rest new.locals.reader) (others ++ h.others) same.0 whole;
          }

  along : (read before : List Declaration) (old new : LocalsLeft) → Remains all before old → StepsAlong read old new → Remains all (before ++ read) new
  along [] before old new h same =
      subst (λ items. Remains all (before ++ []) items) (sym same) (subst (λ ds. Remains all ds old) (sym (append-nil before)) h)
  along (d ∷ ds) before old new h (mid, step, steps) =
      subst (λ ds. Remains all ds new) (append_assoc before (d ∷ []) ds) (along ds (before ++ d ∷ []) mid new (one_less before d old mid h step) steps)

  pub remains : (placed : Placed) (body : Reader) (read : List Declaration) (items : LocalsLeft) → EncodesBody (source_of body) all placed → HasStepped read body items → Remains all read items
  remains placed body read items encodes (unread, opens, steps) = along read [] (all_left unread) items (remains_all all placed body unread encodes opens) steps

  follows : (m : Message) → (m ≡ message.OutOfMemory → ⊥) → MayFollow m []
  follows message.EndOfData n = refl
  follows message.OutOfMemory n = absurd (n refl)
  follows _ n = tt

  -- Reading the next declaration does not fail.
  pub none_stops : (O : TypeOrder) (params : ℕ) (before : List Declaration) (e : Error) (old new : LocalsLeft) → Remains all before old → MayDeclare O params all →
      old.locals.total ≡ length (locals_of before) → StepsLocals (Some (Err e)) old new → ⊥
  none_stops O params before e old new h few sum step = go h.more h.is h.left h.text h.encodes h.ahead step
    where
      go : (more : List Declaration) → all ≡ before ++ more → old.left ≡ length more → (text : List ℕ) → EncodesEach EncodesDeclaration text more →
          rest old.locals.reader ≡ text ++ h.others → StepsLocals (Some (Err e)) old new → ⊥
      go [] is left text encodes ahead (some, none, (same, refused, fault)) = absurd (omega (arith, some, left))
      go (d ∷ ds) is left text (first, others, parts, one, each) ahead (some, none, (same, refused, fault)) =
          let sums : length (locals_of all) ≡ length (locals_of before) + d.0 + length (locals_of ds) = ap (λ ds. length (locals_of ds)) is ∙ size_next before d ds in
          let limit = few.0 in
          refused.1.refuses [] (follows e.message (λ m. (refused.1.memory m).0)) first (others ++ h.others) d (one, omega (arith, limit, sum, sums))
          (append-nil (rest old.locals.reader) ∙ ahead ∙ ap (λ z. z ++ h.others) parts ∙ append_assoc first others h.others)

  valid_at : (O : TypeOrder) (before : List Declaration) (d : Declaration) (more : List Declaration) → HaveValidTypes O (before ++ d ∷ more) → is_valid O (value_type d.1) ≡ true
  valid_at O [] d more h = h.0
  valid_at O (x ∷ before) d more h = valid_at O before d more h.1

  -- The next declaration has a valid type, and is within the limit.
  pub is_next_valid : (O : TypeOrder) (params : ℕ) (before : List Declaration) (d : Declaration) (old new : LocalsLeft) → Remains all before old → MayDeclare O params all →
      StepsLocals (Some (Ok d)) old new → is_valid O (value_type d.1) ≡ true
  is_next_valid O params before d old new h may step =
      let next = one_less before d old new h step in
      valid_at O before d next.more (subst (HaveValidTypes O) (next.is ∙ append_assoc before (d ∷ []) next.more) may.1)

  pub is_next_within : (O : TypeOrder) (params : ℕ) (before : List Declaration) (d : Declaration) (old new : LocalsLeft) → Remains all before old → MayDeclare O params all →
      StepsLocals (Some (Ok d)) old new → params + length (locals_of before) + d.0 ≤ max_function_locals
  is_next_within O params before d old new h may step =
      let next = one_less before d old new h step in
      let e = ap (λ ds. length (locals_of ds)) (next.is ∙ append_assoc before (d ∷ []) next.more) ∙ size_next before d next.more in
      let limit = may.0 in
      omega (arith, e, limit)

-- The reader, with the declarations that are left.
abbrev pub items_of : Locals → ℕ → ℕ → LocalsLeft
items_of l count read = record { locals = l; left = count - read }

pub one_read : (old new : Locals) (count read : ℕ) (d : Declaration) → read < count → ReadsDeclaration (Ok d) old new →
    StepsLocals (Some (Ok d)) (items_of old count read) (items_of new count (read + 1))
one_read old new count read d some reads = (omega (arith, some), reads)

pub one_failed : (old new : Locals) (count read : ℕ) (e : Error) → read < count → ReadsDeclaration (Err e) old new →
    StepsLocals (Some (Err e)) (items_of old count read) (record { locals = new; left = 0 })
one_failed old new count read e some reads = (omega (arith, some), refl, reads)

-- The count of declarations is read.
pub no_count : (all : List Declaration) (placed : Placed) (body : Reader) (e : Error) → EncodesBody (source_of body) all placed → OpensLocals (Err e) body → ⊥
no_count all placed body e encodes (refusal, fault) =
    let (first, others, n, parts, number, many) = encodes.encodes_locals in
    refused_now (EncodesUnsigned 32) e body refusal first (others ++ encodes.expression) n number
    (encodes.parts ∙ ap (λ z. z ++ encodes.expression) parts ∙ append_assoc first others encodes.expression)

-- The error of the checker for an error in the locals.
pub said_locals : (O : TypeOrder) (params : ℕ) (body : Reader) (e : Error) (said : CheckError) → IsSaidOf e said → StopsLocals e body → ExplainsLocals O params body said
said_locals O params body e (check.Untyped offset mismatch) h s = elim h [ ]
said_locals O params body e (check.InvalidLocal offset ty) h s = elim h [ ]
said_locals O params body e (check.TooManyLocals offset) h s = elim h [ ]
said_locals O params body e (check.NotConstant offset) h s = elim h [ ]
said_locals O params body e (check.Decode d) h s = (subst (λ x. StopsLocals x body) (sym h.0) s, λ m. h.1 (ap (λ (x : Error). x.message) (sym h.0) ∙ m))
said_locals O params body e check.Memory h s = tt

-- A declaration that was added.
pub valid_more : (O : TypeOrder) (before : List Declaration) (d : Declaration) → HaveValidTypes O before → is_valid O (value_type d.1) ≡ true → HaveValidTypes O (before ++ d ∷ [])
valid_more O [] d h v = (v, tt)
valid_more O (x ∷ before) d h v = (h.0, valid_more O before d h.1 v)

pub locals_more : (before : List Declaration) (d : Declaration) → locals_of before ++ replicate d.0 d.1 ≡ locals_of (before ++ d ∷ [])
locals_more [] d = sym (append-nil (replicate d.0 d.1))
locals_more (x ∷ before) d =
    append_assoc (replicate x.0 x.1) (locals_of before) (replicate d.0 d.1) ∙ ap (λ ls. replicate x.0 x.1 ++ ls) (locals_more before d)

pub size_more : (locals : List ValType) (d : Declaration) → length (locals ++ replicate d.0 d.1) ≡ length locals + d.0
size_more locals d =
    length-append locals (replicate d.0 d.1) ∙ ap (λ n. length locals + n) (length-replicate d.0 d.1)

-- The expression after the locals of a body.
abbrev pub IsBody : Type 0
IsBody = (body r : Reader) (declarations : List Declaration) (placed : Placed) → IsPastLocals declarations body r → EncodesExpression (source_of r) placed →
    EncodesBody (source_of body) declarations placed

abbrev pub IsExpression : Type 0
IsExpression = (body r : Reader) (declarations others : List Declaration) (placed : Placed) → IsPastLocals declarations body r → EncodesBody (source_of body) others placed →
    (others ≡ declarations) × EncodesExpression (source_of r) placed

module _ (E : Environment) (params results locals : List ValType) (body r : Reader) (declared : HasDeclared E.order (length params) locals body r) where
  pub typed_body : (result : Result (Unit {0}) CheckError) → IsBody →
      OnOk result (IsTypedOf (may_occur false (in_function E params results locals)) (rules_of (in_function E params results locals)) (stack_of results) (source_of r)) →
      OnOk result (IsTypedBody E params results (source_of body))
  typed_body (Ok x) is h =
      record {
        declarations = declared.declarations;
        placed = h.expression.placed;
        tree = h.expression.tree;
        encodes = is body r declared.declarations h.expression.placed declared.past h.expression.encodes;
        may_declare = declared.may_declare;
        only = h.expression.only;
        typed = subst (λ ls. ExpressionTyped (outermost (rules_of (in_function E params results ls))) h.expression.tree (stack_of results)) declared.are h.expression.typed;
      }
  typed_body (Err e) is h = h

  pub typed_expression_of : (declarations : List Declaration) (placed : Placed) → IsExpression → EncodesTypedBody E params results (source_of body) declarations placed →
      EncodesTyped (rules_of (in_function E params results locals)) (stack_of results) (source_of r) placed
  typed_expression_of declarations placed is (encodes, may, typed) =
      let there = is body r declared.declarations declarations placed declared.past encodes in (
        there.1,
        subst (λ ls. AreTyped (rules_of (in_function E params results ls)) (stack_of results) (operators placed)) (ap locals_of there.0 ∙ sym declared.are) typed,
      )
