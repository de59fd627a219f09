use Rattle.std.proofs.Common.{◌≤◌, ◌∙◌, refl, arith}
use Rattle.wasm_below.specs.Source.{IsByte}
use Rattle.wasm_below.proofs.Ahead.{stays, advances}
use Rattle.wasm_imm.specs.CastFaults.{CastFault}
use Rattle.wasm_imm.specs.Casts.{EncodesCast}
use Rattle.wasm_imm.proofs.Casts.{flags_fail, flags_over, label_fails, from_fails, to_fails, cast_read}
use Rattle.wasm_imm.proofs.cast.Cast.read.Goals as goal

pub returns-in_err-flags : goal.returns-in_err-flags
returns-in_err-flags c =
    let h = c.in_err-flags.ensures in
    stays EncodesCast CastFault _ c.clone-ahead.ensures c.from_residual.ensures.1 (flags_fail (h.1, h.2))

pub returns-in_err-relative_depth : goal.returns-in_err-relative_depth
returns-in_err-relative_depth c =
    let h = c.in_err-relative_depth.ensures in
    stays EncodesCast CastFault _ c.clone-ahead.ensures c.from_residual-in_err-relative_depth.ensures.1
    (label_fails _ _ _ c.in_ok-flags.ensures (h.1, h.2))

pub returns-then-flags-gt3 : goal.returns-then-flags-gt3
returns-then-flags-gt3 c =
    let flagged = advances IsByte c.clone-ahead.ensures c.in_ok-flags.ensures in
    let k =
    flags_over _ _ _ flagged c.if-flags-gt3.true _ _ c.in_ok-relative_depth.ensures c.new.ensures.message (c.new.ensures.offset ∙ c.original_position.ensures) in
    (refl, k.0, k.1)

pub returns-in_err-from : goal.returns-in_err-from
returns-in_err-from c =
    let h = c.in_err-from.ensures in
    let low : c.in_ok-flags.flags ≤ 3 = omega arith in
    stays EncodesCast CastFault _ c.clone-ahead.ensures c.from_residual-in_err-from.ensures.1
    (from_fails _ _ _ c.in_ok-flags.ensures _ _ low c.in_ok-relative_depth.ensures (h.1, h.2))

pub returns-in_err-to : goal.returns-in_err-to
returns-in_err-to c =
    let h = c.in_err-to.ensures in
    let low : c.in_ok-flags.flags ≤ 3 = omega arith in
    stays EncodesCast CastFault _ c.clone-ahead.ensures c.from_residual-in_err-to.ensures.1
    (to_fails _ _ _ c.in_ok-flags.ensures _ _ _ _ low c.in_ok-relative_depth.ensures c.in_ok-from.ensures (h.1, h.2))

pub returns : goal.returns
returns c =
    let low : c.in_ok-flags.flags ≤ 3 = omega arith in
    advances EncodesCast c.clone-ahead.ensures
    (cast_read _ _ _ c.in_ok-flags.ensures _ _ _ _ _ _ low c.in_ok-relative_depth.ensures c.in_ok-from.ensures c.in_ok-to.ensures)
