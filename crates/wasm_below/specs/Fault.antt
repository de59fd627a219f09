-- A fault relates the message of a failed read, the reader before the read, and the error's offset.
use Rattle.std.specs.Prelude.{◌≡◌, ◌≢◌, ℕ, zero, suc, ◌⊎◌, List}
use Rattle.wasm_below.specs.declared.error.Error.{Error}
use Rattle.wasm_below.specs.declared.message.Message.{Message}
use Rattle.wasm_below.specs.declared.message.Message.TheVariants as message
use Rattle.wasm_below.specs.Source.{Reader, rest, NoPrefix, HasRead}

-- The error has this fault, unless it is `OutOfMemory`.
abbrev pub HasFault : (Message → Reader → ℕ → Type 0) → Error → Reader → Type 0
HasFault Fault e r = e.message ≢ message.OutOfMemory → Fault e.message r e.offset

abbrev pub FaultAfter : {X : Type 0} → (List ℕ → X → Type 0) → (X → Message → Reader → ℕ → Type 0) → Message → Reader → ℕ → Type 0
FaultAfter {X} First After m r offset = (x : X) × (new : Reader) × HasRead First x r new × After x m new offset

-- The fault of the first of two parts; or, if that is read, `After` of its value.
abbrev pub ThenFault : {X : Type 0} → (List ℕ → X → Type 0) → (Message → Reader → ℕ → Type 0) → (X → Message → Reader → ℕ → Type 0) → Message → Reader → ℕ → Type 0
ThenFault First FirstFault After m r offset = (NoPrefix First (rest r) × FirstFault m r offset) ⊎ FaultAfter First After m r offset

-- The fault of reading `n` values in sequence.
abbrev pub ManyFault : {X : Type 0} → (List ℕ → X → Type 0) → (Message → Reader → ℕ → Type 0) → ℕ → Message → Reader → ℕ → Type 0
ManyFault Encodes Fault zero m r offset = ⊥
ManyFault Encodes Fault (suc n) m r offset = ThenFault Encodes Fault (λ x. ManyFault Encodes Fault n) m r offset

-- The fault determines an error's message and offset.
abbrev pub DeterminesRefusal : (Message → Reader → ℕ → Type 0) → Type 0
DeterminesRefusal Fault = (m k : Message) (r : Reader) (a b : ℕ) → Fault m r a → Fault k r b → (m ≡ k) × (a ≡ b)
