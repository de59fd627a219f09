-- Reading ahead by a copy of the reader: if a part fails, only the copy has moved.
use Rattle.std.specs.Prelude.{ℕ, List, Result, Ok, Err}
use Rattle.wasm_below.specs.declared.error.Error.{Error}
use Rattle.wasm_below.specs.declared.message.Message.{Message}
use Rattle.wasm_below.specs.Source.{Reader, IsRefusal, HasRead}

-- The error is from this reader, and has this fault.
abbrev pub Fails : {X : Type 0} → (List ℕ → X → Type 0) → (Message → Reader → ℕ → Type 0) → Error → Reader → Type 0
Fails Encodes Fault e old = IsRefusal Encodes e old × Fault e.message old e.offset

-- `Reads`, but on `Err` the reader may be anywhere.
abbrev pub ReadsAhead : {X : Type 0} → (List ℕ → X → Type 0) → (Message → Reader → ℕ → Type 0) → Result X Error → Reader → Reader → Type 0
ReadsAhead Encodes Fault (Ok x) old new = HasRead Encodes x old new
ReadsAhead Encodes Fault (Err e) old new = Fails Encodes Fault e old
