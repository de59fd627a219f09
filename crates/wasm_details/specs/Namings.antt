-- Names of the custom section `name`, in the form of wabt's `wasm-objdump -x`. Specification: Custom
-- Sections, Name Section.
use Rattle.std.specs.Prelude.{ℕ, List, ◌++◌, codes, decimal}
use Rattle.wasm_escapes.specs.Escapes.{escaped}
use Rattle.wasm_names.specs.declared.naming.Naming.{Naming}
use Rattle.wasm_details.specs.declared.namings.Label.{Label}
use Rattle.wasm_details.specs.declared.namings.Label.TheVariants as label

-- The words before the index of what is named.
abbrev pub label_text : Label → List ℕ
label_text label.Function = codes " - func["
label_text label.Type = codes " - type["
label_text label.Table = codes " - table["
label_text label.Memory = codes " - memory["
label_text label.Global = codes " - global["
label_text label.Element = codes " - elemseg["
label_text label.Data = codes " - dataseg["
label_text label.Tag = codes " - tag["
label_text (label.Local function) = codes " - func[" ++ (decimal function ++ codes "] local[")

-- The index of what is named, and the name.
abbrev pub naming_line : Label → Naming → List ℕ
naming_line label n = label_text label ++ (decimal n.index ++ (codes "] <" ++ (escaped n.name ++ codes ">\n")))

-- The name of the module.
abbrev pub module_line : List ℕ → List ℕ
module_line name = codes " - module <" ++ (escaped name ++ codes ">\n")

-- The name of a custom section.
abbrev pub custom_text : List ℕ → List ℕ
custom_text name = codes "Custom:\n - name: \"" ++ (escaped name ++ codes "\"\n")
