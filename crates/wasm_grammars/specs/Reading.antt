-- What a call that reads by a grammar returns.
use Rattle.std.specs.Prelude.{◌≡◌, ◌≢◌, ℕ, ◌≤◌, ◌⊎◌, Result, Ok, Err}
use Rattle.wasm_below.specs.declared.error.Error.{Error}
use Rattle.wasm_below.specs.declared.message.Message.TheVariants as message
use Rattle.wasm_below.specs.Source.{Reader, rest, offset_of, end_of, Refuses}
use Rattle.wasm_grammars.specs.Grammar.{Grammar, Encodes, HasReadBy, Fault, Memory}

-- No prefix of the rest encodes a value: whatever bytes follow, or for `EndOfData` if none do. The
-- error is the grammar's, or allocation failed where the grammar allocates.
pub record Fails {X : Type 0} (g : Grammar X) (start : ℕ) (e : Error) (old : Reader) : Type 0 where
  pub refuses : Refuses (Encodes g (offset_of old)) (rest old) e.message
  pub ahead : (start ≤ e.offset) × (e.offset ≤ end_of old)
  pub cause : ((e.message ≡ message.OutOfMemory) × Memory g start old e.offset) ⊎ ((e.message ≢ message.OutOfMemory) × Fault g start e.message old e.offset)

-- `Ok` if and only if a prefix of the rest encodes a value, which is returned and consumed, unless
-- allocation fails. On `Err` the reader is unchanged. The thing starts at the offset `start`.
abbrev pub ReadsFrom : {X : Type 0} → Grammar X → ℕ → Result X Error → Reader → Reader → Type 0
ReadsFrom g start (Ok x) old new = HasReadBy g x old new
ReadsFrom g start (Err e) old new = (new ≡ old) × Fails g start e old

-- The thing starts at the reader.
abbrev pub Reads : {X : Type 0} → Grammar X → Result X Error → Reader → Reader → Type 0
Reads g result old new = ReadsFrom g (offset_of old) result old new

-- `ReadsFrom`, but on `Err` the reader may be anywhere.
abbrev pub ReadsAhead : {X : Type 0} → Grammar X → ℕ → Result X Error → Reader → Reader → Type 0
ReadsAhead g start (Ok x) old new = HasReadBy g x old new
ReadsAhead g start (Err e) old new = Fails g start e old
