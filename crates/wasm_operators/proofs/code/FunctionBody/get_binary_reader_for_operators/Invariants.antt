use Rattle.std.proofs.Common.{ℕ, List}
use Rattle.wasm_below.specs.Source.{Takes}
use Rattle.wasm_imm.specs.Lists.{EncodesMany}
use Rattle.wasm_operators.specs.Locals.{Declaration, EncodesDeclaration}
use Rattle.wasm_operators.proofs.code.FunctionBody.get_binary_reader_for_operators.Given as goal

abbrev pub invariant-loop-declaration : goal.invariant-loop-declaration
invariant-loop-declaration l = (text : List ℕ) × (done : List Declaration) × EncodesMany EncodesDeclaration l._declaration text done ×
    Takes l.initial.reader l.reader text
