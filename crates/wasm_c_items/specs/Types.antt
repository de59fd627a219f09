-- The types of a type section as C structs. Specification: Binary Format, Types.
use Rattle.std.specs.Prelude.{ℕ, ◌-◌, ◌+◌, ◌==◌, [], length}
use Rattle.wasm_below.specs.declared.message.SizeName.{SizeName}
use Rattle.wasm_below.specs.declared.message.SizeName.TheVariants as size_name
use Rattle.wasm_below.specs.declared.types.ValType.{ValType}
use Rattle.wasm_c_items.specs.declared.types.WasmGroup.{WasmGroup}
use Rattle.wasm_c_sections.specs.declared.items.WasmItems.{WasmItems}
use Rattle.wasm_c_sections.specs.Items.{no_items}
use Rattle.wasm_grammars.specs.Grammar.{Grammar, done, here, peek, spanned, thing}
use Rattle.wasm_grammars.specs.Parts.{◌>>=◌, byte, size, val_type, more}
use Rattle.wasm_types.specs.declared.recursive.RecGroup.{RecGroup}
use Rattle.wasm_types.specs.Types.{max_params, max_results, rec_group, types_of}
use Rattle.wasm_view.specs.declared.members.WasmType.{WasmType}
use Rattle.wasm_view.specs.Members.{type_of}

-- `count` items from one offset up to another, which do not depend on features.
abbrev pub list_at : ℕ → ℕ → ℕ → WasmItems
list_at first end count = record { offset = first; length = end - first; count = count; features = 0 }

-- A count of at most `limit`, and that many value types. The value says where they are.
abbrev pub types_list : ℕ → SizeName → Grammar WasmItems
types_list limit name = do
  n ← size limit name
  first ← here
  found ← spanned (more n (thing val_type) [])
  end ← here
  done (list_at first end n)

abbrev pub function_of : WasmItems → WasmItems → WasmGroup
function_of params results = record { params = params; results = results; types = 1; form = 0x60; reserved = 0 }

-- t1*:list(valtype) t2*:list(valtype) ⇒ func t1* → t2*, after the byte 0x60
abbrev pub function_item : Grammar WasmGroup
function_item = do
  b ← byte
  params ← thing (types_list max_params size_name.FunctionParams)
  results ← thing (types_list max_results size_name.FunctionReturns)
  done (function_of params results)

abbrev pub other_of : RecGroup → WasmGroup
other_of g = record { params = no_items; results = no_items; types = length (types_of g); form = 0; reserved = 0 }

abbrev pub other_item : Grammar WasmGroup
other_item = do
  g ← rec_group
  done (other_of g)

-- A function type; or another type or a group, of which the value is the number of types.
abbrev pub group_item : Grammar WasmGroup
group_item = peek (λ b. b == 0x60) function_item other_item

-- The C struct of a value type.
abbrev pub value_type_view : ℕ → ℕ → ValType → WasmType
value_type_view end features ty = type_of ty
