use Rattle.std.proofs.Common.{arith}
use Rattle.wasm_names.proofs.Refused.{map_refused}
use Rattle.wasm_names.proofs.name.Name.from_contents.Goals as goal

pub returns-in_err-new-in-1 : goal.returns-in_err-new-in-1
returns-in_err-new-in-1 c = map_refused _ c.from_residual.ensures.1 (omega (arith, c.in-1.is)) (omega (arith, c.in-1.is)) c.in_err-new-in-1.ensures.refused

pub returns-in_err-new-in-2 : goal.returns-in_err-new-in-2
returns-in_err-new-in-2 c = map_refused _ c.from_residual-in_err-new-in-2.ensures.1 (omega (arith, c.in-2.is)) (omega (arith, c.in-2.is)) c.in_err-new-in-2.ensures.refused

pub returns-in_err-new-in-3 : goal.returns-in_err-new-in-3
returns-in_err-new-in-3 c = map_refused _ c.from_residual-in_err-new-in-3.ensures.1 (omega (arith, c.in-3.is)) (omega (arith, c.in-3.is)) c.in_err-new-in-3.ensures.refused

pub returns-in_err-new-in-4 : goal.returns-in_err-new-in-4
returns-in_err-new-in-4 c = map_refused _ c.from_residual-in_err-new-in-4.ensures.1 (omega (arith, c.in-4.is)) (omega (arith, c.in-4.is)) c.in_err-new-in-4.ensures.refused

pub returns-in_err-new-in-5 : goal.returns-in_err-new-in-5
returns-in_err-new-in-5 c = map_refused _ c.from_residual-in_err-new-in-5.ensures.1 (omega (arith, c.in-5.is)) (omega (arith, c.in-5.is)) c.in_err-new-in-5.ensures.refused

pub returns-in_err-new-in-6 : goal.returns-in_err-new-in-6
returns-in_err-new-in-6 c = map_refused _ c.from_residual-in_err-new-in-6.ensures.1 (omega (arith, c.in-6.is)) (omega (arith, c.in-6.is)) c.in_err-new-in-6.ensures.refused

pub returns-in_err-new-in-7 : goal.returns-in_err-new-in-7
returns-in_err-new-in-7 c = map_refused _ c.from_residual-in_err-new-in-7.ensures.1 (omega (arith, c.in-7.is)) (omega (arith, c.in-7.is)) c.in_err-new-in-7.ensures.refused

pub returns-in_err-new-in-8 : goal.returns-in_err-new-in-8
returns-in_err-new-in-8 c = map_refused _ c.from_residual-in_err-new-in-8.ensures.1 (omega (arith, c.in-8.is)) (omega (arith, c.in-8.is)) c.in_err-new-in-8.ensures.refused

pub returns-in_err-new-in-9 : goal.returns-in_err-new-in-9
returns-in_err-new-in-9 c = map_refused _ c.from_residual-in_err-new-in-9.ensures.1 (omega (arith, c.in-9.is)) (omega (arith, c.in-9.is)) c.in_err-new-in-9.ensures.refused

pub returns-in_err-new-in-10 : goal.returns-in_err-new-in-10
returns-in_err-new-in-10 c = map_refused _ c.from_residual-in_err-new-in-10.ensures.1 (omega (arith, c.in-10.is)) (omega (arith, c.in-10.is)) c.in_err-new-in-10.ensures.refused

pub returns-in_err-new-in-11 : goal.returns-in_err-new-in-11
returns-in_err-new-in-11 c = map_refused _ c.from_residual-in_err-new-in-11.ensures.1 (omega (arith, c.in-11.is)) (omega (arith, c.in-11.is)) c.in_err-new-in-11.ensures.refused
