use Rattle.std.proofs.Common.{length}
use Rattle.wasm_tests_below.proofs.numbers.+signed_first.Given as goal

abbrev pub decreases-signed_first : goal.decreases-signed_first
decreases-signed_first l = length l.bytes.now
