-- The locals of a function: its parameters, and those that its body declares.
-- WebAssembly Core Specification 3.0: Validation, Modules, Functions and Locals; Binary Format, Code
-- Section.
use Rattle.std.specs.Prelude.{ℕ, true, List, [], ◌∷◌, ◌++◌, map, replicate}
use Rattle.wasm_below.specs.declared.types.ValType.{ValType}
use Rattle.wasm_typing.specs.Rules.{at}
use Rattle.wasm_check_control.specs.Environment.{Environment, stack_of}
use Rattle.wasm_check_control.specs.declared.context.LocalType.{LocalType}
use Rattle.wasm_check_operators.specs.Aggregates.{is_defaultable}

-- A parameter is set when the function starts.
abbrev pub parameter : ValType → LocalType
parameter ty = record { content_type = ty; is_set = true }

-- A declared local is set when the function starts if its type has a default value.
abbrev pub declared : ValType → LocalType
declared ty = record { content_type = ty; is_set = is_defaultable ty }

-- The types of the locals of these declarations, which are numbers of locals and their types.
--   func ::= loc**:list(locals) e:expr ⇒ concat(loc**) e
abbrev pub locals_of : List (ℕ × ValType) → List ValType
locals_of [] = []
locals_of (d ∷ ds) = replicate d.0 d.1 ++ locals_of ds

-- The context of the body of a function with these parameters, results and declared locals.
abbrev pub in_function : Environment → List ValType → List ValType → List ValType → Environment
in_function E params results locals = record E { locals = at (map parameter params ++ map declared locals); results = stack_of results }
