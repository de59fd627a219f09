use Rattle.std.proofs.Common.{Result, Ok, Err, IfOk, Some}
use Rattle.wasm_operators.specs.below.declared.error.Error.{Error}
use Rattle.wasm_operators.specs.below.Source.{Reader}
use Rattle.wasm_operators.specs.grammar.declared.frame_kind.FrameKind.{FrameKind}
use Rattle.wasm_operators.specs.opcodes.Decoding.{DecodesIn, DecodesScalarIn}
use Rattle.uses.specs.declared.tally.Tally.{Tally}
use Rattle.uses.specs.Tallies.{CountsOne, TakesOne}

pub visited : {A : Type 0} (kind : FrameKind) (result : Result A Error) (old new : Reader) (v w : Tally) →
    DecodesIn (λ s op a t. CountsOne s.operators t.operators) (Some kind) result old new v w →
    IfOk result (λ _. TakesOne old new × CountsOne v.operators w.operators)
visited kind (Ok a) old new v w (op, (text, encodes, takes), visit) = ((op, text, encodes.0, takes), visit)
visited kind (Err e) old new v w stopped = tt

pub visited_scalar : {A : Type 0} (kind : FrameKind) (result : Result A Error) (old new : Reader) (v w : Tally) →
    DecodesScalarIn (λ s op a t. CountsOne s.operators t.operators) (Some kind) result old new v w →
    IfOk result (λ _. TakesOne old new × CountsOne v.operators w.operators)
visited_scalar kind (Ok a) old new v w (op, (text, encodes, takes), visit) = ((op, text, encodes.0.0, takes), visit)
visited_scalar kind (Err e) old new v w stopped = tt
