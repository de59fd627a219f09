use Rattle.std.specs.Prelude.{◌≡◌, ℕ, ◌+◌, ◌%◌, ◌^◌, List, sum_by}
use Rattle.wasm_operators.specs.imm.declared.memory_argument.MemArg.{MemArg}
use Rattle.wasm_operators.specs.imm.declared.block_type.BlockType.{BlockType}
use Rattle.wasm_operators.specs.imm.declared.block_type.BlockType.TheVariants as block
use Rattle.wasm_operators.specs.imm.BranchTables.{BranchTable}
use Rattle.wasm_operators.specs.imm.Lists.{EncodesEach}

-- If `bytes` encode values one after another, `outcome` is the sum of their `counts` modulo 2^64.
abbrev pub IsSumOf : {X : Type 0} → (List ℕ → X → Type 0) → (X → ℕ) → List ℕ → ℕ → Type 0
IsSumOf {X} Encodes counts bytes outcome = (values : List X) → EncodesEach Encodes bytes values → outcome ≡ sum_by counts values % 2 ^ 64

abbrev pub itself : ℕ → ℕ
itself n = n

abbrev pub argument_counts : MemArg → ℕ
argument_counts argument = (argument.offset + argument.align) % 2 ^ 64

abbrev pub block_counts : BlockType → ℕ
block_counts block.Empty = 1
block_counts (block.Value type) = 2
block_counts (block.FuncType index) = index

abbrev pub table_counts : BranchTable → ℕ
table_counts table = table.count + table.default
