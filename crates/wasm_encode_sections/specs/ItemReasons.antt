-- Why the items of a section have no encoding.
use Rattle.std.specs.Prelude.{◌≡◌, ◌≤◌, ◌^◌, ◌⊎◌, List, length}
use Rattle.wasm_below.specs.declared.message.Message.{Message}
use Rattle.wasm_below.specs.declared.message.Message.TheVariants as message
use Rattle.wasm_below.specs.declared.message.NumberName.TheVariants as number_name
use Rattle.wasm_write_grammars.specs.Writing.{MemberReason}

-- There are 2^32 items or more, or an item has a reason.
abbrev pub ItemsReason : {X : Type 0} → (X → Message → Type 0) → List X → Message → Type 0
ItemsReason Why xs m = ((m ≡ message.IntegerTooLarge number_name.VarU32) × (2 ^ 32 ≤ length xs)) ⊎ MemberReason Why xs m
