-- The types of tail calls. WebAssembly Core Specification 3.0: Validation, Control Instructions.
use Rattle.wasm_typing.specs.Types.{Stack, FunctionType}
use Rattle.wasm_typing.specs.Checking.{all_match}
use Rattle.wasm_typing.specs.Rules.{Rule, jumps}
use Rattle.wasm_check_control.specs.Environment.{Environment}
use Rattle.wasm_check_operators.specs.Forms.{only_if}

-- The results of the callee match the results of the caller. The operands are `takes`.
abbrev pub tail_call : Environment → FunctionType → Stack → Rule
tail_call E f takes = only_if (all_match E.order f.leaves E.results) (jumps takes)
