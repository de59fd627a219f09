use Rattle.std.proofs.Common.{sym, subst}
use Rattle.std.proofs.lemmas.Result.{err_from_is_err_and}
use Rattle.wasm_disassembly.specs.Faults.{IsOutputFailure}
use Rattle.wasm_disassembly.proofs.expression.write_operator.Goals as goal

pub returns-in_err-write_text-clause-halts : goal.returns-in_err-write_text-clause-halts
returns-in_err-write_text-clause-halts g c = let p = err_from_is_err_and c.from_residual.result c.from_residual.ensures.1 in rw (p.1, p.2) (subst IsOutputFailure (sym c.in_err-write_text.ensures.err) tt)
