use Rattle.std.proofs.Common.{sym, ap}
use Rattle.wasm_grammars.proofs.Steps.{begins, then, placed, fails_at, ends_as, stays}
use Rattle.wasm_tests_sections.specs.Constants.{constant, at_offset}
use Rattle.wasm_tests_sections.proofs.constant.ConstantRead.read_from.Goals as goal

pub returns-in_err-opcode : goal.returns-in_err-opcode
returns-in_err-opcode c = stays _ c.from_residual.ensures.1 (fails_at (placed (begins constant c.clone-ahead.ensures)) c.in_err-opcode.ensures)

pub returns-in_err-number : goal.returns-in_err-number
returns-in_err-number c =
    let opcode = then (placed (begins constant c.clone-ahead.ensures)) c.in_ok-opcode.ensures in
    stays _ c.from_residual-in_err-number.ensures.1 (fails_at opcode c.in_err-number.ensures)

pub returns-in_err-end : goal.returns-in_err-end
returns-in_err-end c =
    let opcode = then (placed (begins constant c.clone-ahead.ensures)) c.in_ok-opcode.ensures in
    let number = then opcode c.in_ok-number.ensures in
    stays _ c.from_residual-in_err-end.ensures.1 (fails_at number c.in_err-end.ensures)

pub returns : goal.returns
returns c =
    let opcode = then (placed (begins constant c.clone-ahead.ensures)) c.in_ok-opcode.ensures in
    let number = then opcode c.in_ok-number.ensures in
    let end = then number c.in_ok-end.ensures in
    ends_as end (ap (at_offset c.in_ok-opcode.opcode c.in_ok-number.number c.in_ok-end.end) (sym c.original_position-offset.ensures))
