use Rattle.std.proofs.Common.{length}
use Rattle.wasm_tests_below.proofs.numbers.+unsigned_first.Given as goal

abbrev pub decreases-unsigned_first : goal.decreases-unsigned_first
decreases-unsigned_first l = length l.bytes.now
