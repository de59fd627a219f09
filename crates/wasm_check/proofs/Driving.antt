-- The loop of the checker.
use Rattle.std.proofs.Common.{◌≡◌, ◌↔◌, Bool, true, false, List, [], ◌∷◌, Some, inl, inr, Ok, Err, refl, sym, ap, subst, ◌∙◌}
use Rattle.std.specs.Prelude.{Result, IfOk, OnOk, IfErr, IsTrue}
use Rattle.std.specs.Result.{is_err}
use Rattle.wasm_below.specs.declared.error.Error.{Error}
use Rattle.wasm_below.specs.declared.message.Message.TheVariants as message
use Rattle.wasm_below.specs.Source.{Reader, rest, source_of}
use Rattle.wasm_instr.specs.declared.operator.Operator.{Operator}
use Rattle.wasm_instr.specs.declared.operator.Operator.TheVariants as operator
use Rattle.wasm_instr.specs.Roles.{role_of, roles_of}
use Rattle.wasm_operators.specs.Expression.{Placed, operators}
use Rattle.wasm_operators.specs.Laws.{LaysOutBoth}
use Rattle.wasm_operators.specs.Next.{collecting}
use Rattle.wasm_operators.specs.MainTheorem.{ReadsBeginning}
use Rattle.wasm_operators.specs.Reading.{State, IsUnchanged, FramesLeft, StopsRead, StopsRun}
use Rattle.wasm_typing.specs.Types.{Stack}
use Rattle.wasm_typing.specs.Rules.{Rules}
use Rattle.wasm_typing.specs.Steps.{Frame, step, steps, started}
use Rattle.wasm_check_control.specs.State.{Answers, outermost}
use Rattle.wasm_check.specs.declared.error.CheckError.{CheckError}
use Rattle.wasm_check.specs.declared.error.CheckError.TheVariants as check
use Rattle.wasm_check.specs.Constants.{MayOccur, ExplainsOf}
use Rattle.wasm_check.specs.Typed.{Explains, IsSaidOf, IsUndecoded, StepsOne}
use Rattle.wasm_check.proofs.Along.{AcceptsTyped, GoesOn, can_be_typed}

pub ok_of : {X E : Type 0} (r : Result X E) (P : Type 0) → OnOk r P → is_err r ≡ false → P
ok_of (Ok x) P h e = h
ok_of (Err x) P h e = absurd (cc e)

pub visited : {E : Type 0} (R : Rules Operator) (old new : List Frame) (op : Operator) (outcome : Result Bool E) (b truth : Bool) →
    StepsOne R old op outcome new → outcome ≡ Ok b → b ≡ truth → Answers truth (step (outermost R) old (role_of op)) new
visited R old new op outcome b truth h is test =
    subst (λ y. Answers y (step (outermost R) old (role_of op)) new) test (subst (λ o. IfOk o (λ y. Answers y (step (outermost R) old (role_of op)) new)) is h)

-- The error of the reader, as an error of the checker.
pub memory_said : (e : Error) (said : CheckError) → IsSaidOf e said → e.message ≡ message.OutOfMemory → said ≡ check.Memory
memory_said e (check.Untyped offset mismatch) h m = elim h [ ]
memory_said e (check.InvalidLocal offset ty) h m = elim h [ ]
memory_said e (check.TooManyLocals offset) h m = elim h [ ]
memory_said e (check.NotConstant offset) h m = elim h [ ]
memory_said e (check.Decode d) h m = absurd (h.1 m)
memory_said e check.Memory h m = refl

pub explained : (may : Operator → Bool) (R : Rules Operator) (results : Stack) (r : Reader) (e : Error) (said : CheckError) → IsSaidOf e said → IsUndecoded R results r e → ExplainsOf may R results r said
explained may R results r e (check.Untyped offset mismatch) h u = elim h [ ]
explained may R results r e (check.InvalidLocal offset ty) h u = elim h [ ]
explained may R results r e (check.TooManyLocals offset) h u = elim h [ ]
explained may R results r e (check.NotConstant offset) h u = elim h [ ]
explained may R results r e (check.Decode d) h u = (subst (IsUndecoded R results r) (sym h.0) u, λ m. h.1 (ap (λ (x : Error). x.message) (sym h.0) ∙ m))
explained may R results r e check.Memory h u = tt

-- If every operator may occur.
pub all_occur : (may : Operator → Bool) → ((op : Operator) → may op ≡ true) → (ops : List Operator) → MayOccur may ops
all_occur may all [] = tt
all_occur may all (op ∷ ops) = (all op, all_occur may all ops)

pub explained_all : (may : Operator → Bool) (R : Rules Operator) (results : Stack) (r : Reader) (result : Result (Unit {0}) CheckError) → ((op : Operator) → may op ≡ true) →
    IfErr result (λ e. ExplainsOf may R results r e) → IfErr result (λ e. Explains R results r e)
explained_all may R results r (Ok x) all h = h
explained_all may R results r (Err (check.Untyped offset mismatch)) all h = h
explained_all may R results r (Err (check.InvalidLocal offset ty)) all h = h
explained_all may R results r (Err (check.TooManyLocals offset)) all h = h
explained_all may R results r (Err (check.NotConstant offset)) all h = absurd (cc (sym (all h.op) ∙ h.none))
explained_all may R results r (Err (check.Decode d)) all h = h
explained_all may R results r (Err check.Memory) all h = h

-- The reader fails after what was checked.
pub undecoded : (R : Rules Operator) (results : Stack) (r : Reader) (fresh new : State) (placed : Placed) (control : List Frame) (e : Error) → fresh.reader ≡ r →
    LaysOutBoth fresh.reader.features → AcceptsTyped R → GoesOn R → steps (outermost R) (started results) (roles_of (operators placed)) ≡ Some control → ReadsBeginning collecting [] e fresh new placed →
    IsUndecoded R results r e
undecoded R results r fresh new placed control e from joined accepts goes stepped reads =
    subst (λ x. IsUndecoded R results x e) from (record {
      old = fresh;
      new = new;
      from = refl;
      placed = placed;
      reads = reads;
      begun = can_be_typed R results (source_of fresh.reader) placed reads.text control joined accepts goes reads.laid stepped;
    })

pub stops_at_read : (e : Error) (mid new : State) → (rest mid.reader ≡ [] → ⊥) → IsUnchanged mid new → StopsRead collecting e new → StopsRun collecting e new
stops_at_read e mid new some unchanged stops = inr (λ none. some (ap rest (sym unchanged.0) ∙ none), stops)

pub stops_at_end : (e : Error) (s : State) → FramesLeft e s → StopsRun collecting e s
stops_at_end e s left = inl left

pub not_ended : (b : Bool) (P : Type 0) → (IsTrue b ↔ P) → b ≡ false → P → ⊥
not_ended b P h e p = absurd (cc (sym e ∙ h.1 p))

pub has_ended : (b : Bool) (P : Type 0) → (IsTrue b ↔ P) → b ≡ true → P
has_ended b P h e = h.0 e
