-- Peeking an operator inside a frame that the caller gives.
use Rattle.std.proofs.Common.{◌≡◌, ◌≢◌, List, [], ◌++◌, ℕ, Some, Result, Ok, Err, IfOk, IfErr, refl, ◌∙◌, append-nil}
use Rattle.wasm_operators.specs.below.declared.error.Error.{Error}
use Rattle.wasm_operators.specs.below.declared.message.Message.{Message}
use Rattle.wasm_operators.specs.below.declared.message.Message.TheVariants as message
use Rattle.wasm_operators.specs.below.Source.{Reader, rest, MayFollow}
use Rattle.wasm_operators.specs.grammar.declared.frame_kind.FrameKind.{FrameKind}
use Rattle.wasm_operators.specs.grammar.Frames.{Allows}
use Rattle.wasm_operators.specs.instr.declared.operator.Operator.{Operator}
use Rattle.wasm_operators.specs.instr.Encoding.{EncodesOperator}
use Rattle.wasm_operators.specs.instr.Roles.{role_of}
use Rattle.wasm_operators.specs.Single.{PeeksOperator}

pub peeked : (kind : FrameKind) (r : Reader) (result : Result Operator Error) → PeeksOperator (Some kind) result r →
    IfOk result (λ op. (text more : List ℕ) × (rest r ≡ text ++ more) × EncodesOperator r.features text op × Allows kind (role_of op))
peeked kind r (Ok op) (after, (text, encodes, takes)) = (text, rest after, takes.parts, encodes.0, encodes.1)
peeked kind r (Err e) h = tt

may_follow : (m : Message) → m ≢ message.OutOfMemory → MayFollow m []
may_follow message.EndOfData other = refl
may_follow message.OutOfMemory other = absurd (other refl)
may_follow _ other = tt

pub none_peeked : (kind : FrameKind) (r : Reader) (result : Result Operator Error) → PeeksOperator (Some kind) result r →
    IfErr result (λ e. e.message ≢ message.OutOfMemory → (op : Operator) (text more : List ℕ) → rest r ≡ text ++ more →
    EncodesOperator r.features text op → Allows kind (role_of op) → ⊥)
none_peeked kind r (Ok op) h = tt
none_peeked kind r (Err e) (after, (same, refused)) = λ other op text more parts encodes allowed.
    refused.refuses [] (may_follow e.message other) text more op (encodes, allowed) (append-nil (rest r) ∙ parts)
