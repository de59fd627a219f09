use Rattle.wasm_subtypes.specs.declared.error.TypeError.{TypeError}
use Rattle.wasm_subtypes.specs.declared.error.TypeError.TheVariants as error

-- If an error is about the supertypes of a group, they do not fit. If it is about the types, they are
-- not valid.
abbrev pub Blames : TypeError → Type 0 → Type 0 → Type 0
Blames error.Supertype Fit Valid = Fit → ⊥
Blames error.Invalid Fit Valid = Valid → ⊥
Blames _ Fit Valid = Unit {0}
