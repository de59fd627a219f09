-- The same of an equal value.
use Rattle.std.proofs.Common.{◌≡◌, ◌≢◌, List, ℕ, subst}
use Rattle.wasm_below.specs.declared.message.Message.{Message}
use Rattle.wasm_below.specs.declared.message.Message.TheVariants as message
use Rattle.wasm_grammars.specs.Grammar.{Grammar}
use Rattle.wasm_write_grammars.specs.Writing.{Writes, IsUnwritable}

pub writes_as : {X : Type 0} {g : Grammar X} {x y : X} {old new : List ℕ} → x ≡ y → Writes g x old new → Writes g y old new
writes_as {g = g} {old = old} {new = new} same w = subst (λ z. Writes g z old new) same w

pub fails_as : {X A : Type 0} {g : Grammar X} {Why : X → Message → Type 0} {x y : X} {m : Message} → x ≡ y →
    A × (m ≢ message.OutOfMemory → IsUnwritable g Why x m) → A × (m ≢ message.OutOfMemory → IsUnwritable g Why y m)
fails_as {A = A} {g = g} {Why = Why} {m = m} same h = subst (λ z. A × (m ≢ message.OutOfMemory → IsUnwritable g Why z m)) same h
