use Rattle.std.proofs.Common.{refl, eq-eqb}
use Rattle.std.proofs.lemmas.Bool.{eqb-true}
use Rattle.std.proofs.Math.Nat.{div-eq_of_lt}
use Rattle.wasm_below.proofs.Numbers.{wide_fits, last_fits}
use Rattle.wasm_below.proofs.long_numbers.fits_unsigned.Goals as goal

pub returns-then-bits-ge7 : goal.returns-then-bits-ge7
returns-then-bits-ge7 c = (λ _. wide_fits c.args.last c.args.bits c.requires c.if-bits-ge7.true, λ _. refl)

pub returns : goal.returns
returns c = (λ t. last_fits c.args.last c.args.bits (eqb-true _ 0 t), λ lt. eq-eqb _ 0 (div-eq_of_lt lt))
