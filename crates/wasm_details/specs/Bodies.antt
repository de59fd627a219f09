-- Function bodies, the start function and the data count, in the form of wabt's `wasm-objdump -x`.
-- Specification: Binary Format, Code Section, Start Section, Data Count Section.
use Rattle.std.specs.Prelude.{ℕ, List, ◌++◌, codes, decimal}
use Rattle.wasm_text.specs.Lines.{shown_name}
use Rattle.wasm_index_names.specs.Known.{ModuleNames}
use Rattle.wasm_index_names.specs.Lists.{name_at}

-- A body: the index of its function, its size in bytes and the function's name.
abbrev pub body_line : ModuleNames → ℕ → ℕ → List ℕ
body_line names index size =
    codes " - func[" ++ (decimal index ++ (codes "] size=" ++ (decimal size ++ (shown_name (name_at names.functions index) ++ codes "\n"))))

-- A name in angle brackets, nothing if it is empty, and the end of the line.
abbrev pub last_name : List ℕ → List ℕ
last_name name = shown_name name ++ codes "\n"

-- A function's index and name, and the end of the line.
abbrev pub named_index : ModuleNames → ℕ → List ℕ
named_index names index = decimal index ++ last_name (name_at names.functions index)

-- The start section: the index of the function and its name.
abbrev pub start_text : ModuleNames → ℕ → List ℕ
start_text names index = codes "Start:\n - start function: " ++ named_index names index

-- The data count section.
abbrev pub data_count_text : ℕ → List ℕ
data_count_text count = codes "DataCount:\n - data count: " ++ (decimal count ++ codes "\n")
