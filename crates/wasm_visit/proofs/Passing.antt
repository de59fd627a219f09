-- Decoding through a reference to a visitor, or through a box, is decoding by the visitor.
use Rattle.std.proofs.Common.{◌≡◌, ℕ, List, Result, Ok, Err, refl, ap, Global, MutBor}
use Rattle.std.specs.Prelude.{Box, box_value}
use Rattle.std.specs.Box.{with_value}
use borrow.Rule.Reborrow.{re_v}
use Rattle.wasm_below.specs.declared.error.Error.{Error}
use Rattle.wasm_below.specs.declared.message.Message.{Message}
use Rattle.wasm_below.specs.Source.{Reader}
use Rattle.wasm_instr.specs.declared.operator.Operator.{Operator}
use Rattle.wasm_decode_opcodes.specs.Decoding.{Decodes}

pub through_reference : {V A : Type 0} (visits : V → Operator → A → V → Type 0) (E : List ℕ → Operator → Type 0) (F : Message → Reader → ℕ → Type 0)
    (result : Result A Error) (old new : Reader) (s : MutBor V) (w : V) → Decodes visits E F result old new s.now w →
    Decodes (λ s op a t. (s.ghost_name ≡ t.ghost_name) × visits s.now op a t.now) E F result old new s (re_v w s)
through_reference visits E F (Ok a) old new s w (op, read, vis) = (op, read, (refl, vis))
through_reference visits E F (Err e) old new s w (same, h) = (ap (λ z. re_v z s) same, h)

pub through_box : {V A : Type 0} (visits : V → Operator → A → V → Type 0) (E : List ℕ → Operator → Type 0) (F : Message → Reader → ℕ → Type 0)
    (result : Result A Error) (old new : Reader) (b : Box V Global) (w : V) → Decodes visits E F result old new (box_value b) w →
    Decodes (λ s op a t. visits (box_value s) op a (box_value t)) E F result old new b (with_value b w)
through_box visits E F (Ok a) old new b w p = p
through_box visits E F (Err e) old new b w (same, h) = (ap (with_value b) same, h)
