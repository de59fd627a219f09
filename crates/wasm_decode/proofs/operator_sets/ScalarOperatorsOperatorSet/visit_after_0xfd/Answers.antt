use Rattle.std.proofs.Common.{refl}
use Rattle.wasm_decode.proofs.operator_sets.ScalarOperatorsOperatorSet.visit_after_0xfd.Goals as goal

pub returns : goal.returns
returns g c k = (refl, c.unexpected_simd.ensures k)
