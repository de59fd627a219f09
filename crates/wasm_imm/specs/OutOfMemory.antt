use Rattle.std.specs.Prelude.{◌≡◌, ◌≢◌, ℕ, ◌⊎◌}
use Rattle.wasm_below.specs.declared.error.Error.{Error}
use Rattle.wasm_below.specs.declared.message.Message.TheVariants as message

-- The error is `OutOfMemory` with this offset.
abbrev pub IsOutOfMemoryAt : ℕ → Error → Type 0
IsOutOfMemoryAt offset e = (e.message ≡ message.OutOfMemory) × (e.offset ≡ offset)

-- The error `f` is `e`, except that `OutOfMemory` has this offset, the call's start.
abbrev pub IsRefusedFrom : ℕ → Error → Error → Type 0
IsRefusedFrom offset e f = (f.message ≡ e.message) × ((IsOutOfMemoryAt offset f) ⊎ ((e.message ≢ message.OutOfMemory) × (f.offset ≡ e.offset)))
