-- Specification: Structure, Expressions.
use Rattle.std.specs.Prelude.{◌≡◌}
use Rattle.wasm_operators.specs.grammar.Tree.{Expression, walk}
use Rattle.wasm_operators.specs.instr.declared.operator.Operator.{Operator}
use Rattle.wasm_operators.specs.instr.Roles.{roles_of}
use Rattle.wasm_operators.specs.Expression.{Placed, operators}

-- The operators are the walk of this tree.
abbrev pub IsTreeOf : Placed → Expression Operator → Type 0
IsTreeOf placed tree = roles_of (operators placed) ≡ walk tree
