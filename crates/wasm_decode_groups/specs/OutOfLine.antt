use Rattle.std.specs.Prelude.{Option, Some, None, Result, Ok, Err}
use Rattle.wasm_below.specs.declared.error.Error.{Error}

-- The result of a call that returns `None` if it fails, and leaves the error in a place that it
-- borrows.
abbrev pub with_error : {A : Type 0} → Option A → Error → Result A Error
with_error (Some a) error = Ok a
with_error None error = Err error
