use Rattle.std.specs.Prelude.{ℕ}
use Rattle.wasm_grammars.specs.Grammar.{Grammar, done, here}
use Rattle.wasm_grammars.specs.Parts.{◌>>=◌, byte, u32}
use Rattle.wasm_tests_sections.specs.declared.constant.Constant.{Constant}

abbrev pub constant : Grammar Constant
constant = do
  offset ← here
  opcode ← byte
  number ← u32
  end ← byte
  done (record { offset = offset; opcode = opcode; number = number; end = end })

abbrev pub at_offset : ℕ → ℕ → ℕ → ℕ → Constant
at_offset opcode number end offset = record { offset = offset; opcode = opcode; number = number; end = end }
