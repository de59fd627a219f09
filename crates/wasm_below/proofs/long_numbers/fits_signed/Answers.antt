use Rattle.std.proofs.Common.{refl}
use Rattle.wasm_below.proofs.SignedNumbers.{fits_more}
use Rattle.wasm_below.proofs.long_numbers.fits_signed.Goals as goal

pub returns-then-bits-ge7 : goal.returns-then-bits-ge7
returns-then-bits-ge7 c = (λ _. fits_more 7 c.args.bits c.args.value c.if-bits-ge7.true c.requires.small, λ _. refl)
