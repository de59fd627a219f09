-- The lines before the listings of a module, in the form of wabt's `wasm-objdump`.
use Rattle.std.specs.Prelude.{ℕ, List, [], ◌∷◌, ◌++◌, Option, Some, None, codes}
use Rattle.wasm_escapes.specs.Escapes.{escaped}

-- The line with the module's name, escaped; none if it is empty.
abbrev pub name_line : List ℕ → List ℕ
name_line [] = []
name_line (n ∷ ns) = codes "module name: <" ++ (escaped (n ∷ ns) ++ codes ">\n")

-- The line with the name of the file, escaped.
abbrev pub file_line : List ℕ → List ℕ
file_line file = codes "\n" ++ (escaped file ++ codes ":\tfile format wasm 0x1\n")

-- The lines with the names of the file and the module, unless there is no file name.
abbrev pub title_of : Option (List ℕ) → List ℕ → List ℕ
title_of None name = []
title_of (Some file) name = file_line file ++ name_line name
