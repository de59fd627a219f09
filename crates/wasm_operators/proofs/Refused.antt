-- Errors: from one operator to the constant expression.
use Rattle.std.proofs.Common.{◌≡◌, ℕ, List, [], ◌++◌, None, inl, inr, refl, sym, subst, ap, ◌∙◌, arith}
use Rattle.std.proofs.lemmas.List.{append-nil}
use Rattle.wasm_below.specs.declared.error.Error.{Error}
use Rattle.wasm_below.specs.declared.message.Message.TheVariants as message
use Rattle.wasm_below.specs.Fault.{HasFault}
use Rattle.wasm_below.specs.FromReader.{IsRefused}
use Rattle.wasm_below.specs.Source.{rest, offset_of, NoPrefix, MayFollow, IsAhead, BeginsWith}
use Rattle.wasm_below.proofs.TakesLemmas.{ahead_before}
use Rattle.wasm_grammar.specs.Frames.{frames_after}
use Rattle.wasm_instr.specs.declared.operator.Operator.{Operator}
use Rattle.wasm_instr.specs.declared.operator.Operator.TheVariants as operator
use Rattle.wasm_instr.specs.Encoding.{EncodesOperator}
use Rattle.wasm_instr.specs.Roles.{role_of}
use Rattle.wasm_decode_opcodes.specs.Allowed.{EncodesAllowed}
use Rattle.wasm_decode_opcodes.specs.OperatorFaults.{OperatorFault}
use Rattle.wasm_operators.specs.Next.{NextMayAllocate, all_operators}
use Rattle.wasm_operators.proofs.DecoderPremises.{takes_all, is_reading}
use Rattle.wasm_operators.specs.Expression.{Placed, operators}
use Rattle.wasm_operators.specs.Reading.{State, IsFresh, IsUnchanged, TakesOperators, TakesOperator, StopsRead}
use Rattle.wasm_operators.proofs.MemoryLemmas.{memory_needs}
use Rattle.wasm_operators.proofs.OneRead.{is_memory, may_end, refused_none}
use Rattle.wasm_operators.proofs.Runs.{ran_unchanged}
use Rattle.wasm_operators.specs.Constant.{HasNoEnd, EncodesConstantReader}
use Rattle.wasm_operators.specs.ConstantFaults.{ConstantFault, ConstantMayAllocate}
use Rattle.wasm_operators.proofs.OneEnd.{stays_open}
use Rattle.wasm_operators.proofs.Passed.{from_block, passes, none_follows, none_inside, inside_fault, within_data, before, ahead_after}

abbrev pub Stops : Error → State → Type 0
Stops e t = StopsRead all_operators e t

stuck : (e : Error) (t : State) (more : List ℕ) → Stops e t → MayFollow e.message more → (text after : List ℕ) (op : Operator) →
    EncodesOperator t.reader.features text op → rest t.reader ++ more ≡ text ++ after → frames_after t.frames (role_of op) ≡ None
stuck e t more (inl none) follow text after op encodes eq = ap (λ frames. frames_after frames (role_of op)) none.0
stuck e t more (inr (inl there)) follow text after op encodes eq =
    refused_none EncodesAllowed OperatorFault e t there more follow text after op
    (λ allows. takes_all t.reader.features there.kind text op encodes allows tt) eq
stuck e t more (inr (inr memory)) follow text after op encodes eq = absurd (subst (λ m. MayFollow m more) memory.0 follow)

some_byte : (t : State) → NextMayAllocate EncodesAllowed t → (byte : ℕ) × BeginsWith byte (rest t.reader)
some_byte t (inl room) = (room.2, room.3)
some_byte t (inr list) = (list.2.leads.0, list.2.leads.2)

there_fault : (e : Error) (s t : State) (placed : Placed) → IsFresh s → TakesOperators s t placed → HasNoEnd (operators placed) → Stops e t →
    (e.message ≡ message.OutOfMemory → ⊥) → ConstantFault e.message s.reader e.offset
there_fault e s t placed fresh r no_end (inl none) other = absurd (stays_open (operators placed) t.frames no_end (from_block s t placed fresh r) none.0)
there_fault e s t placed fresh r no_end (inr (inl there)) other =
    let none : NoPrefix (EncodesAllowed t.reader.features there.kind) (rest t.reader) =
    subst (NoPrefix (EncodesAllowed t.reader.features there.kind)) (append-nil (rest t.reader)) (there.refuses [] (may_end e.message other)) in
    (t.reader, t.frames, passes s t placed fresh r no_end, inl (there.kind, there.open_frame, none, there.fault))
there_fault e s t placed fresh r no_end (inr (inr memory)) other = absurd (other memory.0)

there_ahead : (e : Error) (offset : ℕ) (s t : State) (placed : Placed) → IsFresh s → TakesOperators s t placed → HasNoEnd (operators placed) → Stops e t →
    (e.message ≡ message.OutOfMemory → offset ≡ offset_of s.reader) → ((e.message ≡ message.OutOfMemory → ⊥) → offset ≡ e.offset) → IsAhead s.reader offset
there_ahead e offset s t placed fresh r no_end stops memory other = elim (is_memory e.message) [
  | inl is ↦ at_start is stops
  | inr not ↦ subst (IsAhead s.reader) (sym (other not)) (at_operator not stops)
]
  where
    at_start : e.message ≡ message.OutOfMemory → Stops e t → IsAhead s.reader offset
    at_start is (inl none) = absurd (stays_open (operators placed) t.frames no_end (from_block s t placed fresh r) none.0)
    at_start is (inr (inl there)) =
        let ahead = ahead_before s.reader t.reader r.text e.offset r.takes there.ahead in
        let at = memory is in
        (omega (arith, at), omega (arith, at, ahead.0, ahead.1))
    at_start is (inr (inr needs)) =
        let b = some_byte t needs.2 in
        let inside = within_data t.reader b.0 b.1.0 b.1.1 in
        let from = before s.reader t.reader r.text r.takes in
        let at = memory is in
        (omega (arith, at), omega (arith, at, from.0, from.1, inside))

    at_operator : (e.message ≡ message.OutOfMemory → ⊥) → Stops e t → IsAhead s.reader e.offset
    at_operator not (inl none) = absurd (stays_open (operators placed) t.frames no_end (from_block s t placed fresh r) none.0)
    at_operator not (inr (inl there)) = ahead_before s.reader t.reader r.text e.offset r.takes there.ahead
    at_operator not (inr (inr needs)) = absurd (not needs.0)

pub refused_fault : (e d : Error) (s mid t : State) (placed : Placed) → IsFresh s → TakesOperators s mid placed → HasNoEnd (operators placed) →
    IsUnchanged mid t → Stops e t →
    d.message ≡ e.message → ((e.message ≡ message.OutOfMemory → ⊥) → d.offset ≡ e.offset) → HasFault ConstantFault d s.reader
refused_fault e d s mid t placed fresh r no_end same stops is other not =
    let not_memory : e.message ≡ message.OutOfMemory → ⊥ = λ m. not (is ∙ m) in
    let q = ran_unchanged s mid t placed r same in
    let at = there_fault e s t placed fresh q no_end stops not_memory in
    subst (λ m. ConstantFault m s.reader d.offset) (sym is) (subst (ConstantFault e.message s.reader) (sym (other not_memory)) at)

pub inside_has_fault : (d : Error) (s t u : State) (placed : Placed) → IsFresh s → TakesOperators s t placed → HasNoEnd (operators placed) →
    TakesOperator EncodesAllowed operator.End t u → (u.frames ≡ [] → ⊥) → d.message ≡ message.FramesRemainConst → d.offset ≡ offset_of u.reader →
    HasFault ConstantFault d s.reader
inside_has_fault d s t u placed fresh r no_end k stays is at not =
    subst (λ m. ConstantFault m s.reader d.offset) (sym is) (inside_fault s t u placed d.offset fresh r no_end k stays at)

pub memory_there : (e d : Error) (s mid t : State) (placed : Placed) → IsFresh s → TakesOperators s mid placed → HasNoEnd (operators placed) →
    IsUnchanged mid t → Stops e t → d.message ≡ e.message → d.message ≡ message.OutOfMemory → ConstantMayAllocate s.reader
memory_there e d s mid t placed fresh r no_end same stops is memory =
    let q = ran_unchanged s mid t placed r same in
    (s, t, placed, refl, fresh, q, passes s t placed fresh q no_end, memory_needs all_operators is_reading e t stops (sym is ∙ memory))

pub refused_there : (e d : Error) (s mid t : State) (placed : Placed) → IsFresh s → TakesOperators s mid placed → HasNoEnd (operators placed) →
    IsUnchanged mid t → Stops e t →
    d.message ≡ e.message → (e.message ≡ message.OutOfMemory → d.offset ≡ offset_of s.reader) → ((e.message ≡ message.OutOfMemory → ⊥) → d.offset ≡ e.offset) →
    IsRefused (EncodesConstantReader s.reader.features) ConstantFault ConstantMayAllocate d s.reader
refused_there e d s mid t placed fresh r no_end same stops is memory other =
    let q = ran_unchanged s mid t placed r same in
    record {
      refuses = λ more follow. none_follows s t placed more fresh q no_end (stuck e t more stops (subst (λ m. MayFollow m more) is follow));
      ahead = there_ahead e d.offset s t placed fresh q no_end stops memory other;
      fault = refused_fault e d s mid t placed fresh r no_end same stops is other;
      memory = λ m. (memory_there e d s mid t placed fresh r no_end same stops is m, memory (sym is ∙ m));
    }

pub refused_inside : (d : Error) (s t u : State) (placed : Placed) → IsFresh s → TakesOperators s t placed → HasNoEnd (operators placed) →
    TakesOperator EncodesAllowed operator.End t u → (u.frames ≡ [] → ⊥) → d.message ≡ message.FramesRemainConst → d.offset ≡ offset_of u.reader →
    IsRefused (EncodesConstantReader s.reader.features) ConstantFault ConstantMayAllocate d s.reader
refused_inside d s t u placed fresh r no_end k stays is at =
    record {
      refuses = λ more follow. none_inside s t u placed more fresh r no_end k stays;
      ahead = subst (IsAhead s.reader) (sym at) (ahead_after s t u placed r k);
      fault = inside_has_fault d s t u placed fresh r no_end k stays is at;
      memory = λ m. absurd (cc (sym is ∙ m));
    }
