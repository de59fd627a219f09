use Rattle.std.proofs.Common.{◌≡◌, ◌+◌, length, arith}
use Rattle.std.proofs.lemmas.Result.{err_from_is_err_and}
use Rattle.wasm_operators.specs.below.FromReader.{SameReader}
use Rattle.wasm_operators.specs.Constant.{EncodesConstantReader}
use Rattle.wasm_operators.specs.ConstantFaults.{ConstantFault}
use Rattle.uses.proofs.Codes.{takes_known, value_fault_known}
use Rattle.uses.proofs.constants.constant_size.Goals as goal

pub returns-clause-size : goal.returns-clause-size
returns-clause-size c = λ text more constant parts known.
    let old = c.args.reader.now in
    let reads = rw c.clone-ahead.ensures at c.in_ok-_constant.ensures.reads in
    let code = rw c.features.ensures at c.constant_expressions.ensures in
    let moved : c.read.new.reader.position ≡ old.position + length text =
    takes_known SameReader (EncodesConstantReader old.features) old c.read.new.reader constant _ reads.0 text more code reads.1 reads.2 parts known in
    omega (arith, moved, c.current_position.ensures, c.current_position-2.ensures)

pub returns-in_err-_constant-clause-refused : goal.returns-in_err-_constant-clause-refused
returns-in_err-_constant-clause-refused c = λ m offset known.
    let p = err_from_is_err_and c.from_residual.result c.from_residual.ensures.1 in
    let reads = rw c.clone-ahead.ensures at c.in_err-_constant.ensures.reads in
    value_fault_known ConstantFault c.from_residual.result c.args.reader.now m offset c.constant_refusals.ensures (rw (p.1, p.2) reads.1.fault) known
