-- The algorithm along the operators that were read.
use Rattle.std.proofs.Common.{◌≡◌, ◌↔◌, ℕ, ◌+◌, ◌≤◌, Bool, true, false, List, [], ◌∷◌, ◌++◌, length, map, Option, Some, None, IsSome, refl, sym, ap, subst, ◌∙◌, append_assoc, append-nil, arith}
use Rattle.std.specs.Option.{option_and_then}
use Rattle.std.proofs.lemmas.List.{map-append}
use Rattle.wasm_below.specs.declared.features.WasmFeatures.{WasmFeatures}
use Rattle.wasm_below.specs.Source.{Source, Reader, rest, offset_of, source_of, Takes}
use Rattle.wasm_grammar.specs.declared.frame_kind.FrameKind.{FrameKind}
use Rattle.wasm_grammar.specs.declared.frame_kind.FrameKind.TheVariants as frame
use Rattle.wasm_grammar.specs.Role.{Role}
use Rattle.wasm_grammar.specs.Tree.{Expression, walk}
use Rattle.wasm_grammar.specs.Frames.{frames_along}
use Rattle.wasm_instr.specs.declared.operator.Operator.{Operator}
use Rattle.wasm_instr.specs.declared.operator.Operator.TheVariants as operator
use Rattle.wasm_instr.specs.Encoding.{EncodesOperator}
use Rattle.wasm_instr.specs.Roles.{role_of, roles_of}
use Rattle.wasm_operators.specs.opcodes.Allowed.{EncodesAllowed}
use Rattle.wasm_operators.specs.Expression.{Placed, operators, LaidOut, AreEncoded, EncodesRest, EncodesExpression, IsLongestAfter, IsLongestBeginning}
use Rattle.wasm_operators.specs.Flat.{IsFlatBeginning}
use Rattle.wasm_operators.specs.Laws.{TakesNone, TakesOneMore, LaysOutBoth, BeginsLonger}
use Rattle.wasm_operators.specs.MainTheorem.{ReadsTree, with_after}
use Rattle.wasm_operators.specs.Reading.{State, IsFresh, TakesOperator, TakesOperators}
use Rattle.wasm_typing.specs.Types.{Stack}
use Rattle.wasm_typing.specs.Rules.{Rules, Context}
use Rattle.wasm_typing.specs.Typing.{ExpressionTyped}
use Rattle.wasm_typing.specs.Steps.{Frame, Ending, jump, turn, close, role_of_ending, kinds, kind_of, step, steps, started, Accepts, Continues, BeginsNone}
use Rattle.wasm_check_control.specs.State.{outermost}
use Rattle.wasm_check.specs.Constants.{MayOccur, IsTypedOf, OccursNotAt}
use Rattle.wasm_check.specs.Typed.{AreTyped, EncodesTyped, CanBeTyped, with_bytes, IsUntypedAt}

-- What laws of `wasm_typing` state of operators.
abbrev pub StepsOn : Type 0
StepsOn = (C : Context Operator) (frames : List Frame) (first second : List (Role Operator)) →
    steps C frames (first ++ second) ≡ option_and_then (λ next. steps C next second) (steps C frames first)

abbrev pub AcceptsTyped : Rules Operator → Type 0
AcceptsTyped R = (results : Stack) (roles : List (Role Operator)) →
    Accepts (outermost R) results roles ↔ ((tree : Expression Operator) × (roles ≡ walk tree) × ExpressionTyped (outermost R) tree results)

abbrev pub Refuses : Rules Operator → Type 0
Refuses R = (results : Stack) (roles : List (Role Operator)) → steps (outermost R) (started results) roles ≡ None → BeginsNone (outermost R) results roles

abbrev pub GoesOn : Rules Operator → Type 0
GoesOn R = (results : Stack) (roles : List (Role Operator)) (frames : List Frame) →
    steps (outermost R) (started results) roles ≡ Some frames → Continues (outermost R) operator.Unreachable results roles

abbrev pub SameFrames : Type 0
SameFrames = (C : Context Operator) (results : Stack) (roles : List (Role Operator)) (frames : List Frame) →
    steps C (started results) roles ≡ Some frames → frames_along (frame.Block ∷ []) roles ≡ Some (kinds frames)

-- These operators were read and checked, one after another.
pub record HasChecked (may : Operator → Bool) (R : Rules Operator) (results : Stack) (fresh now : State) (control : List Frame) : Type 0 where
  pub placed : Placed
  pub taken : TakesOperators fresh now placed
  pub may_occur : MayOccur may (operators placed)
  pub stepped : steps (outermost R) (started results) (roles_of (operators placed)) ≡ Some control

pub roles-append : (first second : List Operator) → roles_of (first ++ second) ≡ roles_of first ++ roles_of second
roles-append [] second = refl
roles-append (op ∷ first) second = ap (λ roles. role_of op ∷ roles) (roles-append first second)

roles_one_more : (placed : Placed) (op : Operator) (at : ℕ) →
    roles_of (operators (placed ++ (op, at) ∷ [])) ≡ roles_of (operators placed) ++ role_of op ∷ []
roles_one_more placed op at =
    ap roles_of (map-append (λ (p : Operator × ℕ). p.0) placed ((op, at) ∷ [])) ∙ roles-append (operators placed) (op ∷ [])

last_of : (o : Option (List Frame)) → option_and_then (λ (next : List Frame). Some next) o ≡ o
last_of None = refl
last_of (Some next) = refl

pub steps_one_more : (R : Rules Operator) (results : Stack) (placed : Placed) (control : List Frame) (op : Operator) (at : ℕ) (next : Option (List Frame)) → StepsOn →
    steps (outermost R) (started results) (roles_of (operators placed)) ≡ Some control → step (outermost R) control (role_of op) ≡ next →
    steps (outermost R) (started results) (roles_of (operators (placed ++ (op, at) ∷ []))) ≡ next
steps_one_more R results placed control op at next on stepped is =
    ap (steps (outermost R) (started results)) (roles_one_more placed op at) ∙
    on (outermost R) (started results) (roles_of (operators placed)) (role_of op ∷ []) ∙
    ap (option_and_then (λ next. steps (outermost R) next (role_of op ∷ []))) stepped ∙
    last_of (step (outermost R) control (role_of op)) ∙ is

pub checked_none : (may : Operator → Bool) (R : Rules Operator) (results : Stack) (fresh : State) → TakesNone → HasChecked may R results fresh fresh (started results)
checked_none may R results fresh first = record { placed = []; taken = first fresh; may_occur = tt; stepped = refl }

one_more_occurs : (may : Operator → Bool) (placed : Placed) (op : Operator) (at : ℕ) → MayOccur may (operators placed) → may op ≡ true → MayOccur may (operators (placed ++ (op, at) ∷ []))
one_more_occurs may [] op at h good = (good, tt)
one_more_occurs may (p ∷ placed) op at h good = (h.0, one_more_occurs may placed op at h.1 good)

pub checked_more : (may : Operator → Bool) (R : Rules Operator) (results : Stack) (fresh mid new : State) (control next : List Frame) (op : Operator) → TakesOneMore → StepsOn →
    HasChecked may R results fresh mid control → TakesOperator EncodesAllowed op mid new → may op ≡ true → step (outermost R) control (role_of op) ≡ Some next →
    HasChecked may R results fresh new next
checked_more may R results fresh mid new control next op more on h takes good is =
    record {
      placed = h.placed ++ (op, offset_of mid.reader) ∷ [];
      taken = more fresh mid new h.placed op h.taken takes;
      may_occur = one_more_occurs may h.placed op (offset_of mid.reader) h.may_occur good;
      stepped = steps_one_more R results h.placed control op (offset_of mid.reader) (Some next) on h.stepped is;
    }

-- Operators that lead to the end, and their bytes.
op_of : Ending → Operator
op_of jump = operator.Unreachable
op_of turn = operator.Else
op_of close = operator.End

byte_of : Ending → ℕ
byte_of jump = 0x00
byte_of turn = 0x05
byte_of close = 0x0b

placed_to_end : ℕ → List Ending → Placed
placed_to_end offset [] = []
placed_to_end offset (e ∷ more) = (op_of e, offset) ∷ placed_to_end (offset + 1) more

encodes_one : (f : WasmFeatures) (e : Ending) → EncodesOperator f (byte_of e ∷ []) (op_of e)
unfolding op_of byte_of
encodes_one f jump = record { head = 0x00 ∷ []; after = []; parts = refl; code = refl; immediates = refl; enabled = tt }
encodes_one f turn = record { head = 0x05 ∷ []; after = []; parts = refl; code = refl; immediates = refl; enabled = tt }
encodes_one f close = record { head = 0x0b ∷ []; after = []; parts = refl; code = refl; immediates = refl; enabled = tt }

laid_to_end : (f : WasmFeatures) (offset : ℕ) (more : List Ending) → LaidOut f offset (map byte_of more) (placed_to_end offset more)
unfolding placed_to_end
laid_to_end f offset [] = refl
laid_to_end f offset (e ∷ more) = (refl, byte_of e ∷ [], map byte_of more, refl, encodes_one f e, laid_to_end f (offset + 1) more)

role_to_end : (e : Ending) → role_of (op_of e) ≡ role_of_ending operator.Unreachable e
unfolding op_of
role_to_end jump = refl
role_to_end turn = refl
role_to_end close = refl

roles_to_end : (offset : ℕ) (more : List Ending) → roles_of (operators (placed_to_end offset more)) ≡ map (role_of_ending operator.Unreachable) more
unfolding placed_to_end
roles_to_end offset [] = refl
roles_to_end offset (e ∷ more) =
    ap (λ role. role ∷ roles_of (operators (placed_to_end (offset + 1) more))) (role_to_end e) ∙
    ap (λ roles. role_of_ending operator.Unreachable e ∷ roles) (roles_to_end (offset + 1) more)

roles_both : (first second : Placed) → roles_of (operators (first ++ second)) ≡ roles_of (operators first) ++ roles_of (operators second)
roles_both first second = ap roles_of (map-append (λ (p : Operator × ℕ). p.0) first second) ∙ roles-append (operators first) (operators second)

-- If the algorithm continues, the bytes can be completed.
pub can_be_typed : (R : Rules Operator) (results : Stack) (s : Source) (placed : Placed) (beginning : List ℕ) (control : List Frame) →
    LaysOutBoth s.features → AcceptsTyped R → GoesOn R → LaidOut s.features s.offset beginning placed →
    steps (outermost R) (started results) (roles_of (operators placed)) ≡ Some control → CanBeTyped R results (with_bytes s beginning)
can_be_typed R results s placed beginning control joined accepts on laid stepped =
    let roles = roles_of (operators placed) in
    let rest = on results roles control stepped in
    let offset = s.offset + length beginning in
    let after = placed_to_end offset rest.0 in
    let same : roles_of (operators (placed ++ after)) ≡ roles ++ map (role_of_ending operator.Unreachable) rest.0 =
    roles_both placed after ∙ ap (λ more. roles ++ more) (roles_to_end offset rest.0) in
    let typed = (accepts results (roles ++ map (role_of_ending operator.Unreachable) rest.0)).0 rest.1 in
    let all = joined s.offset placed after beginning (map byte_of rest.0) laid (laid_to_end s.features offset rest.0) in
    (map byte_of rest.0, placed ++ after, ((all, (typed.0, same ∙ typed.1)), (typed.0, same ∙ typed.1, typed.2)))

none_typed : (R : Rules Operator) (results : Stack) (placed : Placed) (after : List Operator) → Refuses R →
    steps (outermost R) (started results) (roles_of (operators placed)) ≡ None → AreTyped R results (operators placed ++ after) → ⊥
none_typed R results placed after refuses stopped (tree, same, typed) =
    refuses results (roles_of (operators placed)) stopped (roles_of after) tree (sym (roles-append (operators placed) after) ∙ same) typed

-- What laws of `wasm_operators` state.
abbrev pub IsLongestIfWhole : Type 0
IsLongestIfWhole = (before : List Operator) (s : Source) (whole : Placed) → AreEncoded s.features before → EncodesRest before s whole → IsLongestAfter before s whole

abbrev pub SameLongest : Type 0
SameLongest = (s : Source) (placed : Placed) → IsFlatBeginning s placed ↔ IsLongestBeginning s placed

-- A whole expression starts with the operators that its first bytes encode.
whole_begins : (s : Source) (placed whole : Placed) (beginning more : List ℕ) (frames : List FrameKind) →
    BeginsLonger s.features → IsLongestIfWhole → SameLongest →
    LaidOut s.features s.offset beginning placed → frames_along (frame.Block ∷ []) (roles_of (operators placed)) ≡ Some frames →
    EncodesExpression (with_after (with_bytes s beginning) more) whole → (after : Placed) × (operators whole ≡ operators placed ++ operators after)
whole_begins s placed whole beginning more frames longer longest flat laid along encodes =
    let all : Source = with_after (with_bytes s beginning) more in
    let most = (flat all whole).1 (longest [] all whole tt encodes) in
    let few : length placed ≤ length whole =
    most.longest placed (record { beginning = beginning; more = more; parts = refl; laid = laid; allowed = subst IsSome (sym along) refl }) tt in
    let after = longer s.offset placed whole beginning (beginning ++ more) more [] laid encodes.0 (sym (append-nil (beginning ++ more))) few in
    (after.0, ap operators after.1 ∙ map-append (λ (p : Operator × ℕ). p.0) placed after.0)

-- If the algorithm fails at the last operator, the bytes can't be completed.
pub never_typed : (R : Rules Operator) (results : Stack) (s : Source) (placed : Placed) (beginning : List ℕ) (frames : List FrameKind) →
    Refuses R → BeginsLonger s.features → IsLongestIfWhole → SameLongest →
    LaidOut s.features s.offset beginning placed → frames_along (frame.Block ∷ []) (roles_of (operators placed)) ≡ Some frames →
    steps (outermost R) (started results) (roles_of (operators placed)) ≡ None → CanBeTyped R results (with_bytes s beginning) → ⊥
never_typed R results s placed beginning frames refuses longer longest flat laid along stopped (more, whole, (encodes, typed)) =
    let begins = whole_begins s placed whole beginning more frames longer longest flat laid along encodes in
    none_typed R results placed (operators begins.0) refuses stopped (subst (AreTyped R results) begins.1 typed)

pub offset_along : (old new : Reader) (text : List ℕ) → Takes old new text → offset_of new ≡ offset_of old + length text
offset_along old new text takes =
    let moved = ap (λ (r : Reader). r.position) takes.moved in
    let start = ap (λ (r : Reader). r.start) takes.moved in
    omega (arith, moved, start)

-- The algorithm fails at an operator.
pub untyped_at : (may : Operator → Bool) (R : Rules Operator) (results : Stack) (fresh mid new : State) (control : List Frame) (op : Operator) →
    TakesOneMore → StepsOn → AcceptsTyped R → GoesOn R → Refuses R → LaysOutBoth fresh.reader.features → BeginsLonger fresh.reader.features → IsLongestIfWhole → SameLongest →
    IsFresh fresh →
    HasChecked may R results fresh mid control → TakesOperator EncodesAllowed op mid new → step (outermost R) control (role_of op) ≡ None →
    IsUntypedAt R results (source_of fresh.reader) (offset_of mid.reader)
untyped_at may R results fresh mid new control op more on accepts goes refuses joined longer longest flat is_fresh h takes is =
    let s = source_of fresh.reader in
    let at = offset_of mid.reader in
    let place : at ≡ s.offset + length h.taken.text = offset_along fresh.reader mid.reader h.taken.text h.taken.takes in
    let features : mid.reader.features ≡ fresh.reader.features = ap (λ (r : Reader). r.features) h.taken.takes.moved in
    let encodes : EncodesOperator fresh.reader.features takes.text op = subst (λ f. EncodesOperator f takes.text op) features takes.encodes.0 in
    let one : LaidOut s.features (s.offset + length h.taken.text) takes.text ((op, at) ∷ []) =
    (place, takes.text, [], sym (append-nil takes.text), encodes, refl) in
    let laid = joined s.offset h.placed ((op, at) ∷ []) h.taken.text takes.text h.taken.laid one in
    let all = more fresh mid new h.placed op h.taken takes in
    let along : frames_along (frame.Block ∷ []) (roles_of (operators (h.placed ++ (op, at) ∷ []))) ≡ Some new.frames =
    ap (λ frames. frames_along frames (roles_of (operators (h.placed ++ (op, at) ∷ [])))) (sym is_fresh) ∙ all.frames in
    let stopped = steps_one_more R results h.placed control op at None on h.stepped is in
    record {
      before = h.placed;
      op = op;
      beginning = h.taken.text;
      text = takes.text;
      more = rest new.reader;
      parts = h.taken.takes.parts ∙ ap (λ bytes. h.taken.text ++ bytes) takes.takes.parts;
      laid = h.taken.laid;
      at = place;
      encodes = encodes;
      begun = can_be_typed R results s h.placed h.taken.text control joined accepts goes h.taken.laid h.stepped;
      none = never_typed R results s (h.placed ++ (op, at) ∷ []) (h.taken.text ++ takes.text) new.frames refuses longer longest flat laid along stopped;
    }

-- An operator that may not occur.
pub occurs_not_at : (may : Operator → Bool) (R : Rules Operator) (results : Stack) (fresh mid new : State) (control : List Frame) (op : Operator) →
    AcceptsTyped R → GoesOn R → LaysOutBoth fresh.reader.features →
    HasChecked may R results fresh mid control → TakesOperator EncodesAllowed op mid new → may op ≡ false →
    OccursNotAt may R results (source_of fresh.reader) (offset_of mid.reader)
occurs_not_at may R results fresh mid new control op accepts goes joined h takes none =
    let s = source_of fresh.reader in
    let features : mid.reader.features ≡ fresh.reader.features = ap (λ (r : Reader). r.features) h.taken.takes.moved in
    record {
      before = h.placed;
      op = op;
      beginning = h.taken.text;
      text = takes.text;
      more = rest new.reader;
      parts = h.taken.takes.parts ∙ ap (λ bytes. h.taken.text ++ bytes) takes.takes.parts;
      laid = h.taken.laid;
      at = offset_along fresh.reader mid.reader h.taken.text h.taken.takes;
      encodes = subst (λ f. EncodesOperator f takes.text op) features takes.encodes.0;
      begun = can_be_typed R results s h.placed h.taken.text control joined accepts goes h.taken.laid h.stepped;
      may_occur = h.may_occur;
      none = none;
    }

last_occurs : (may : Operator → Bool) (placed : Placed) (op : Operator) (at : ℕ) (after : List Operator) → MayOccur may (operators (placed ++ (op, at) ∷ []) ++ after) → may op ≡ true
last_occurs may [] op at after h = h.0
last_occurs may (p ∷ placed) op at after h = last_occurs may placed op at after h.1

-- Then the bytes encode no expression of operators that may occur.
pub none_occurs : (may : Operator → Bool) (R : Rules Operator) (results : Stack) (fresh mid new : State) (control : List Frame) (op : Operator) (whole : Placed) →
    TakesOneMore → LaysOutBoth fresh.reader.features → BeginsLonger fresh.reader.features → IsLongestIfWhole → SameLongest → IsFresh fresh →
    HasChecked may R results fresh mid control → TakesOperator EncodesAllowed op mid new → may op ≡ false →
    EncodesExpression (source_of fresh.reader) whole → MayOccur may (operators whole) → ⊥
none_occurs may R results fresh mid new control op whole more joined longer longest flat is_fresh h takes none encodes occur =
    let s = source_of fresh.reader in
    let at = offset_of mid.reader in
    let place : at ≡ s.offset + length h.taken.text = offset_along fresh.reader mid.reader h.taken.text h.taken.takes in
    let features : mid.reader.features ≡ fresh.reader.features = ap (λ (r : Reader). r.features) h.taken.takes.moved in
    let one : LaidOut s.features (s.offset + length h.taken.text) takes.text ((op, at) ∷ []) =
    (place, takes.text, [], sym (append-nil takes.text), subst (λ f. EncodesOperator f takes.text op) features takes.encodes.0, refl) in
    let laid = joined s.offset h.placed ((op, at) ∷ []) h.taken.text takes.text h.taken.laid one in
    let all = more fresh mid new h.placed op h.taken takes in
    let along : frames_along (frame.Block ∷ []) (roles_of (operators (h.placed ++ (op, at) ∷ []))) ≡ Some new.frames =
    ap (λ frames. frames_along frames (roles_of (operators (h.placed ++ (op, at) ∷ [])))) (sym is_fresh) ∙ all.frames in
    let bytes : s.bytes ≡ (h.taken.text ++ takes.text) ++ rest new.reader =
    h.taken.takes.parts ∙ ap (λ bytes. h.taken.text ++ bytes) takes.takes.parts ∙ sym (append_assoc h.taken.text takes.text (rest new.reader)) in
    let begins = whole_begins s (h.placed ++ (op, at) ∷ []) whole (h.taken.text ++ takes.text) (rest new.reader) new.frames longer longest flat laid along
    (subst (λ bytes. EncodesExpression (with_bytes s bytes) whole) bytes encodes) in
    let good = last_occurs may h.placed op at (operators begins.0) (subst (MayOccur may) begins.1 occur) in
    absurd (cc (sym good ∙ none))

-- Then the bytes encode no typed expression.
pub is_not_typed : (R : Rules Operator) (results : Stack) (s : Source) (offset : ℕ) (whole : Placed) → IsUntypedAt R results s offset → EncodesTyped R results s whole → ⊥
is_not_typed R results s offset whole u encodes =
    let bytes : s.bytes ≡ (u.beginning ++ u.text) ++ u.more = u.parts ∙ sym (append_assoc u.beginning u.text u.more) in
    u.none (u.more, whole, subst (λ bytes. EncodesTyped R results (with_bytes s bytes) whole) bytes encodes)

-- no control frame is open if no frame of the grammar is
some_left : {X : Type 0} (l : List X) (x : X) → l ++ x ∷ [] ≡ [] → ⊥
some_left [] x e = absurd (cc e)
some_left (y ∷ l) x e = absurd (cc e)

no_kinds : (control : List Frame) → kinds control ≡ [] → control ≡ []
no_kinds [] e = refl
no_kinds (f ∷ outer) e = absurd (some_left (kinds outer) (kind_of f.construct) e)

pub typed_expression : (may : Operator → Bool) (R : Rules Operator) (results : Stack) (fresh now : State) (control : List Frame) →
    AcceptsTyped R → SameFrames → IsFresh fresh →
    ((placed : Placed) → TakesOperators fresh now placed → now.frames ≡ [] → rest now.reader ≡ [] → ReadsTree [] fresh now placed) →
    HasChecked may R results fresh now control → now.frames ≡ [] → rest now.reader ≡ [] →
    IsTypedOf may R results (source_of fresh.reader)
typed_expression may R results fresh now control accepts same_frames is_fresh reads h closed all =
    let roles = roles_of (operators h.placed) in
    let along : frames_along fresh.frames roles ≡ Some now.frames = h.taken.frames in
    let kinds_are : frames_along (frame.Block ∷ []) roles ≡ Some (kinds control) = same_frames (outermost R) results roles control h.stepped in
    let open_now : kinds control ≡ now.frames = cc (sym kinds_are ∙ ap (λ frames. frames_along frames roles) (sym is_fresh) ∙ along) in
    let none = no_kinds control (open_now ∙ closed) in
    let typed = (accepts results roles).0 (h.stepped ∙ ap (λ l. Some l) none) in
    let there = reads h.placed h.taken closed all in
    record {
      expression = record {
        placed = h.placed;
        tree = there.tree;
        encodes = there.encodes;
        only = there.only;
        typed = subst (λ tree. ExpressionTyped (outermost R) tree results) (there.only.1 typed.0 typed.1) typed.2;
      };
      may_occur = h.may_occur;
    }
