-- What a call that writes by a grammar does to the bytes of a vector.
use Rattle.std.specs.Prelude.{◌≡◌, ◌≢◌, ℕ, ◌<◌, ◌≤◌, ◌^◌, ◌⊎◌, List, ◌∷◌, ◌++◌, length, Result, Ok, Err}
use Rattle.wasm_below.specs.declared.error.Error.{Error}
use Rattle.wasm_below.specs.declared.message.Message.{Message}
use Rattle.wasm_below.specs.declared.message.Message.TheVariants as message
use Rattle.wasm_below.specs.declared.message.NumberName.TheVariants as number_name
use Rattle.wasm_below.specs.declared.message.SizeName.{SizeName}
use Rattle.wasm_below.specs.Source.{Reader, rest}
use Rattle.wasm_grammars.specs.Grammar.{Grammar, Encodes}

-- Bytes that encode the value at any place were appended. No encoding is shorter.
pub record Writes {X : Type 0} (g : Grammar X) (x : X) (old new : List ℕ) : Type 0 where
  pub text : List ℕ
  pub appended : new ≡ old ++ text
  pub encodes : (place : ℕ) → Encodes g place text x
  pub shortest : (place : ℕ) (other : List ℕ) → Encodes g place other x → length text ≤ length other

-- No bytes encode the value.
abbrev pub HasNone : {X : Type 0} → Grammar X → X → Type 0
HasNone g x = (place : ℕ) (text : List ℕ) → Encodes g place text x → ⊥

-- No bytes encode the value, and this message has a reason.
pub record IsUnwritable {X : Type 0} (g : Grammar X) (Why : X → Message → Type 0) (x : X) (m : Message) : Type 0 where
  pub none : HasNone g x
  pub reason : Why x m

-- Bytes were appended.
pub record Extends (old new : List ℕ) : Type 0 where
  pub part : List ℕ
  pub appended : new ≡ old ++ part

-- On `Ok`, the value was appended. On `Err`, no bytes encode it, or the vector can't grow, and bytes
-- may have been appended.
abbrev pub AppendsBy : {X Y : Type 0} → Grammar X → (X → Message → Type 0) → X → Result Y Message → List ℕ → List ℕ → Type 0
AppendsBy g Why x (Ok _) old new = Writes g x old new
AppendsBy g Why x (Err m) old new = Extends old new × (m ≢ message.OutOfMemory → IsUnwritable g Why x m)

-- On `Ok`, the value was appended. On `Err`, no bytes encode it, or the vector can't grow, and nothing
-- was appended.
abbrev pub WritesBy : {X Y : Type 0} → Grammar X → (X → Message → Type 0) → X → Result Y Message → List ℕ → List ℕ → Type 0
WritesBy g Why x (Ok _) old new = Writes g x old new
WritesBy g Why x (Err m) old new = (new ≡ old) × (m ≢ message.OutOfMemory → IsUnwritable g Why x m)

-- Every value has an encoding.
abbrev pub NoReason : {X : Type 0} → X → Message → Type 0
NoReason x m = ⊥

-- The number is above the limit.
abbrev pub SizeReason : ℕ → SizeName → ℕ → Message → Type 0
SizeReason limit name n m = (m ≡ message.SizeOutOfBounds name) × (limit < n)

-- There are 2^32 bytes or more.
abbrev pub SizedReason : List ℕ → Message → Type 0
SizedReason bytes m = (m ≡ message.IntegerTooLarge number_name.VarU32) × (2 ^ 32 ≤ length bytes)

-- A member of the list has a reason.
abbrev pub MemberReason : {X : Type 0} → (X → Message → Type 0) → List X → Message → Type 0
MemberReason {X} Why xs m = (before after : List X) × (x : X) × (xs ≡ before ++ x ∷ after) × Why x m

-- The list has more members than the limit, or a member has a reason.
abbrev pub ListReason : {X : Type 0} → ℕ → SizeName → (X → Message → Type 0) → List X → Message → Type 0
ListReason limit name Why xs m = SizeReason limit name (length xs) m ⊎ MemberReason Why xs m

-- The value was read, and what follows it is left; or allocation failed.
abbrev pub ReadsAgain : {X : Type 0} → X → List ℕ → Result X Error → Reader → Reader → Type 0
ReadsAgain x after (Ok y) old new = (y ≡ x) × (rest new ≡ after)
ReadsAgain x after (Err e) old new = (e.message ≡ message.OutOfMemory) × (new ≡ old)
