-- The subsections of the custom section `name`, in the form of wabt's `wasm-objdump -x`.
-- Specification: Custom Sections, Name Section.
use Rattle.std.specs.Prelude.{◌≡◌, ◌⊎◌, ℕ, List, [], ◌∷◌, Option, Result, Ok, Err}
use Rattle.wasm_below.specs.declared.error.Error.{Error}
use Rattle.wasm_below.specs.Source.{Reader, rest}
use Rattle.wasm_names.specs.declared.indirect.IndirectNaming.{IndirectNaming}
use Rattle.wasm_names.specs.declared.name.Name.{Name}
use Rattle.wasm_names.specs.declared.name.Name.TheVariants as name
use Rattle.wasm_names.specs.Names.{naming, indirect_naming}
use Rattle.wasm_names.specs.Subsections.{ReadsSubsection, FailsSubsection}
use Rattle.wasm_sections.specs.Items.{Counted}
use Rattle.wasm_rows.specs.declared.fault.Fault.{Fault}
use Rattle.wasm_rows.specs.declared.fault.Fault.TheVariants as fault
use Rattle.wasm_details.specs.declared.namings.Label.{Label}
use Rattle.wasm_details.specs.declared.namings.Label.TheVariants as label
use Rattle.wasm_details.specs.declared.place.Place.{Place}
use Rattle.wasm_details.specs.Items.{ListsItems}
use Rattle.wasm_details.specs.Namings.{naming_line, module_line}
use Rattle.wasm_details.specs.Writing.{WritesLine}

-- The names in a map, of things of one kind.
abbrev pub ListsMap : Label → Counted → Place → Result Place Fault → Option (List ℕ) → Option (List ℕ) → Type 0
ListsMap l map place result old new = ListsItems (λ features. naming) (λ p n. WritesLine (naming_line l n) p) map place result old new

-- Nothing is appended.
abbrev pub ListsNothing : Place → Result Place Fault → Option (List ℕ) → Option (List ℕ) → Type 0
ListsNothing place (Ok p) old new = (p ≡ place) × (new ≡ old)
ListsNothing place (Err f) old new = ⊥

-- The names of a function's locals.
abbrev pub ListsFunctionLocals : Place → IndirectNaming → Result Place Fault → Option (List ℕ) → Option (List ℕ) → Type 0
ListsFunctionLocals place n result old new = ListsMap (label.Local n.index) n.names place result old new

-- The names of locals, in a map for each function.
abbrev pub ListsLocals : Counted → Place → Result Place Fault → Option (List ℕ) → Option (List ℕ) → Type 0
ListsLocals map place result old new = ListsItems indirect_naming ListsFunctionLocals map place result old new

-- What is appended for a subsection. Names of labels and fields are not shown.
abbrev pub ListsName : Name → Place → Result Place Fault → Option (List ℕ) → Option (List ℕ) → Type 0
ListsName (name.Module n range) place result old new = WritesLine (module_line n) place result old new
ListsName (name.Function map) place result old new = ListsMap label.Function map place result old new
ListsName (name.Local map) place result old new = ListsLocals map place result old new
ListsName (name.Label map) place result old new = ListsNothing place result old new
ListsName (name.Type map) place result old new = ListsMap label.Type map place result old new
ListsName (name.Table map) place result old new = ListsMap label.Table map place result old new
ListsName (name.Memory map) place result old new = ListsMap label.Memory map place result old new
ListsName (name.Global map) place result old new = ListsMap label.Global map place result old new
ListsName (name.Element map) place result old new = ListsMap label.Element map place result old new
ListsName (name.Data map) place result old new = ListsMap label.Data map place result old new
ListsName (name.Field map) place result old new = ListsNothing place result old new
ListsName (name.Tag map) place result old new = ListsMap label.Tag map place result old new
ListsName (name.Unknown ty bytes range) place result old new = ListsNothing place result old new

-- Between two readers are these subsections, whose text is appended.
abbrev pub AreNamed : Place → Reader → List Name → Reader → Option (List ℕ) → Option (List ℕ) → Type 0
AreNamed place r [] end old new = (end ≡ r) × (new ≡ old)
AreNamed place r (n ∷ ns) end old new =
    (mid : Reader) × ReadsSubsection (Ok n) r mid × (p : Place) × (between : Option (List ℕ)) × ListsName n place (Ok p) old between ×
    AreNamed place mid ns end between new

-- The next subsection is in error; or a name in it is, or writing or allocation fails in it.
abbrev pub StopsNaming : Fault → Place → Reader → Option (List ℕ) → Option (List ℕ) → Type 0
StopsNaming f place r old new =
    ((e : Error) × (f ≡ fault.Section e) × FailsSubsection e r × (new ≡ old)) ⊎
    ((n : Name) × (later : Reader) × ReadsSubsection (Ok n) r later × ListsName n place (Err f) old new)

-- All subsections are written; or those before the first that is not written completely, and a part
-- of it.
abbrev pub ListsNames : Place → Reader → Result Place Fault → Option (List ℕ) → Option (List ℕ) → Type 0
ListsNames place first (Ok p) old new = (names : List Name) × (end : Reader) × AreNamed place first names end old new × (rest end ≡ []) × (p ≡ place)
ListsNames place first (Err f) old new =
    (names : List Name) × (end : Reader) × (mid : Option (List ℕ)) × AreNamed place first names end old mid × StopsNaming f place end mid new
