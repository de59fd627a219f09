use Rattle.std.proofs.Common.{ℕ, List}
use Rattle.wasm_below.specs.Number.{EncodesUnsigned}
use Rattle.wasm_below.specs.Source.{Takes}
use Rattle.wasm_imm.specs.Lists.{EncodesMany}
use Rattle.wasm_imm.proofs.branch_table.read_targets.Given as goal

abbrev pub invariant-loop-target : goal.invariant-loop-target
invariant-loop-target l = (text numbers : List ℕ) × EncodesMany (EncodesUnsigned 32) l._target text numbers × Takes l.fn.reader l.reader text
