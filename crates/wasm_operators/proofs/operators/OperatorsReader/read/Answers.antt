use Rattle.std.proofs.Common.{◌≡◌, ◌+◌, ◌≤◌, ℕ, Result, Ok, Err, refl, subst, ap, ◌∙◌}
use Rattle.wasm_below.specs.declared.error.Error.{Error}
use Rattle.wasm_below.specs.Source.{at_position}
use Rattle.wasm_grammar.specs.declared.frame_kind.FrameKind.{FrameKind}
use Rattle.wasm_grammar.specs.Frames.{frames_changed, opened, OpensFrame}
use Rattle.wasm_instr.specs.declared.operator.Operator.{Operator}
use Rattle.wasm_decode_opcodes.specs.Allowed.{EncodesAllowed}
use Rattle.wasm_decode_opcodes.specs.Decoding.{DecodesOperator}
use Rattle.wasm_decode_opcodes.specs.OperatorFaults.{OperatorFault}
use Rattle.wasm_operators.specs.Reading.{State, TakesOperator}
use Rattle.wasm_operators.specs.Next.{BeginsOperator, ReadsNext, StopsNext, state_of, all_operators}
use Rattle.wasm_operators.proofs.DecoderPremises.{sound}
use Rattle.wasm_operators.proofs.Taken.{begun_open, begun_took, begun_kept, begun_stopped}
use Rattle.wasm_operators.proofs.operators.OperatorsReader.read.Goals as goal

read_keeping : (old mid new : State) (kind : FrameKind) (code start : ℕ) (result : Result Operator Error) → 0x20 ≤ code → BeginsOperator old mid kind start code →
    DecodesOperator (EncodesAllowed mid.reader.features kind) (OperatorFault mid.reader.features kind) result (at_position mid.reader start) new.reader →
    new.frames ≡ mid.frames → new.room ≡ mid.room → ReadsNext result old new
read_keeping old mid new kind code start (Ok op) high b (text, encodes, takes) frames room =
    begun_kept EncodesAllowed sound (λ f kind text op h. h.1) old mid new kind code start op text high b encodes takes frames room
read_keeping old mid new kind code start (Err e) high b refused frames room =
    begun_stopped EncodesAllowed OperatorFault old mid new kind code start e b refused frames room

pub apply_change-requires-clause-open : goal.apply_change-requires-clause-open
apply_change-requires-clause-open c =
    let at = c.in-Ok.at in
    begun_open (state_of c.self.inside.reader c.self.inside.control) (state_of c.begin.new.reader c.begin.new.control) at.frame at.code at.start
    c.in-Ok.ensures.begun

pub apply_change-requires-clause-room : goal.apply_change-requires-clause-room
apply_change-requires-clause-room c = λ opens. c.in-Ok.ensures.begun.opens (subst OpensFrame c.frame_change_at.ensures opens)

pub returns-then-at-ge-KEEPS_FRAMES_FROM : goal.returns-then-at-ge-KEEPS_FRAMES_FROM
returns-then-at-ge-KEEPS_FRAMES_FROM c =
    let at = c.in-Ok.at in
    let old = state_of c.self.inside.reader c.self.inside.control in
    let mid = state_of c.begin.new.reader c.begin.new.control in
    let new = state_of c.read_after_opcode.new.reader c.begin.new.control in
    let read = read_keeping old mid new at.frame at.code at.start c.read_after_opcode.result c.if-at-ge-KEEPS_FRAMES_FROM.true c.in-Ok.ensures.begun
    c.read_after_opcode.ensures refl refl in
    subst (λ (s : State). ReadsNext c.read_after_opcode.result s new) c.self.view_is read

pub returns-in-Ok-read_below_0x20 : goal.returns-in-Ok-read_below_0x20
returns-in-Ok-read_below_0x20 c =
    let at = c.in-Ok.at in
    let r = c.in-Ok-read_below_0x20.ensures in
    let op = c.in-Ok-read_below_0x20.operator in
    let old = state_of c.self.inside.reader c.self.inside.control in
    let mid = state_of c.begin.new.reader c.begin.new.control in
    let new = state_of c.read_below_0x20.new.reader c.apply_change.new.self in
    let changed = c.apply_change.ensures in
    let is = c.frame_change_at.ensures in
    let taken = begun_took EncodesAllowed sound (λ f kind text op h. h.1) old mid new at.frame at.code at.start op r.0 c.in-Ok.ensures.begun r.1 r.2
    (changed.frames ∙ ap (frames_changed mid.frames) is) (subst (λ change. mid.room ≤ new.room + opened change) is changed.room) changed.memory in
    subst (λ (s : State). TakesOperator EncodesAllowed op s new) c.self.view_is taken

pub returns-in-Err-read_below_0x20 : goal.returns-in-Err-read_below_0x20
returns-in-Err-read_below_0x20 c =
    let at = c.in-Ok.at in
    let old = state_of c.self.inside.reader c.self.inside.control in
    let mid = state_of c.begin.new.reader c.begin.new.control in
    let new = state_of c.read_below_0x20.new.reader c.begin.new.control in
    let e = c.in-Err-read_below_0x20.e in
    let stopped = begun_stopped EncodesAllowed OperatorFault old mid new at.frame at.code at.start e c.in-Ok.ensures.begun c.in-Err-read_below_0x20.ensures
    refl refl in
    subst (λ (s : State). StopsNext all_operators e s new) c.self.view_is stopped
