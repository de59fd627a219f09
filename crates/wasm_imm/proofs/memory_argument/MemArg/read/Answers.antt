use Rattle.std.proofs.Common.{◌≡◌, ◌∙◌, inr, Err, refl, ap, subst, arith}
use Rattle.wasm_below.specs.Number.{EncodesUnsigned}
use Rattle.wasm_below.specs.declared.features.WasmFeatures.{WasmFeatures}
use Rattle.wasm_below.specs.Source.{Reader, offset_of, at_position, HasRead, Reads, U32Fault}
use Rattle.wasm_below.proofs.Steps.{first_missing}
use Rattle.wasm_below.proofs.TakesLemmas.{back}
use Rattle.wasm_imm.specs.MemoryArgument.{EncodesOffset, EncodesAfterFlags, EncodesMemArg}
use Rattle.wasm_imm.specs.MemoryArgumentFaults.{OffsetFault, FlagsFault, MemArgFault}
use Rattle.wasm_imm.proofs.FlagsNumber.{short_refused, short_read}
use Rattle.wasm_imm.proofs.MemoryArgumentFaults.{short_fault}
use Rattle.wasm_imm.proofs.memory_argument.MemArg.read.Goals as goal

pub returns-in-Err-read_offset : goal.returns-in-Err-read_offset
returns-in-Err-read_offset c =
    let f = c.args.reader.now.features in
    let r = c.in-Ok.ensures in
    let same : c.read_var_u32.new.self.features ≡ f = ap (λ (r : Reader). r.features) r.2.moved in
    let e = c.in-Err-read_offset.e in
    let old = c.args.reader.now in
    let mid = c.read_var_u32.new.self in
    let h = subst (λ (z : WasmFeatures). Reads (EncodesOffset z) (OffsetFault z) (Err e) mid c.read_offset.new.reader) same
    c.in-Err-read_offset.ensures in
    let start = c.current_position-start.result in (
      back old mid c.rewind.new.self r.0 start r.2 c.current_position-start.ensures (c.rewind.ensures ∙ ap (λ (r : Reader). at_position r start) h.0),
      short_refused f c.args.kind c.args.max_align c.in-Ok.flags old mid r (omega arith) e h.1,
      inr (c.in-Ok.flags, mid, r, short_fault f c.args.kind c.in-Ok.flags (offset_of old) old mid r (omega arith) e.message e.offset h.2),
    )

pub returns-in-Ok-read_offset : goal.returns-in-Ok-read_offset
returns-in-Ok-read_offset c =
    let f = c.args.reader.now.features in
    let r = c.in-Ok.ensures in
    let same : c.read_var_u32.new.self.features ≡ f = ap (λ (r : Reader). r.features) r.2.moved in
    let h = subst (λ (z : WasmFeatures). HasRead (EncodesOffset z) c.in-Ok-read_offset.offset c.read_var_u32.new.self c.read_offset.new.reader) same
    c.in-Ok-read_offset.ensures in
    short_read f c.args.kind c.args.max_align c.in-Ok.flags c.args.reader.now c.read_var_u32.new.self r (omega arith) c.read_offset.new.reader
    c.in-Ok-read_offset.offset c.in-Ok.flags refl h

pub returns-in-Err-read_announced : goal.returns-in-Err-read_announced
returns-in-Err-read_announced c =
    let r = c.in-Ok.ensures in
    let old = c.args.reader.now in
    let mid = c.read_var_u32.new.self in
    let start = c.current_position-start.result in
    subst (λ (z : Reader). Reads (EncodesMemArg z.features c.args.kind c.args.max_align) (MemArgFault z.features c.args.kind) (Err c.in-Err-read_announced.e) z
    c.read_announced.new.reader) (back old mid (at_position mid start) r.0 start r.2 c.current_position-start.ensures refl)
    c.in-Err-read_announced.ensures

pub returns-in-Err : goal.returns-in-Err
returns-in-Err c =
    let f = c.args.reader.now.features in
    first_missing (EncodesUnsigned 32) (EncodesAfterFlags f c.args.kind c.args.max_align) U32Fault
    (λ flags. FlagsFault f c.args.kind flags (offset_of c.args.reader.now)) c.in-Err.e c.args.reader.now c.read_var_u32.new.self c.in-Err.ensures
