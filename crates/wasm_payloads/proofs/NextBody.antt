-- A step in a code section.
use Rattle.std.proofs.Common.{◌≡◌, ℕ, ◌+◌, ◌<◌, Some, Result, Ok, Err, length, sym, subst, arith}
use Rattle.std.specs.Prelude.{IfOk, IfErr}
use Rattle.wasm_below.specs.declared.error.Error.{Error}
use Rattle.wasm_below.specs.Source.{rest}
use Rattle.wasm_payloads.specs.declared.parser.ParserState.TheVariants as phase
use Rattle.wasm_payloads.specs.declared.payload.Payload.{Payload}
use Rattle.wasm_payloads.specs.Parsing.{Parsing, Gives, FailsAt, GivesBody, FailsAtBody, StepsParser, most_left}
use Rattle.wasm_payloads.proofs.Lengths.{body_goes}

pub body_steps : {n size : ℕ} (old new : Parsing) (result : Result Payload Error) → old.state ≡ phase.Bodies n size → IfOk result (λ p. GivesBody n size p old new) →
    IfErr result (λ e. FailsAtBody n size e old) → IfErr result (λ e. new.state ≡ phase.Ended) → StepsParser old (Some result) new
body_steps old new (Ok p) is ok err ended = subst (λ s. Gives s p old new) (sym is) ok
body_steps old new (Err e) is ok err ended = (subst (λ s. FailsAt s e old) (sym is) err, ended)

pub body_progress : {n size : ℕ} (old new : Parsing) (result : Result Payload Error) → old.state ≡ phase.Bodies n size → IfOk result (λ p. GivesBody n size p old new) →
    IfErr result (λ e. new.state ≡ phase.Ended) → most_left new.state (length (rest new.reader)) < most_left old.state (length (rest old.reader))
body_progress {n} {size} old new (Ok p) is ok ended =
    subst (λ s. most_left new.state (length (rest new.reader)) < most_left s (length (rest old.reader))) (sym is) (body_goes n size p old new ok)
body_progress old new (Err e) is ok ended =
    let some : 0 < length (rest old.reader) + 1 = omega arith in
    let last = subst (λ s. most_left s (length (rest new.reader)) < length (rest old.reader) + 1) (sym ended) some in
    subst (λ s. most_left new.state (length (rest new.reader)) < most_left s (length (rest old.reader))) (sym is) last
