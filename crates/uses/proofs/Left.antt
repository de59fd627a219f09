use Rattle.std.proofs.Common.{◌≡◌, ◌++◌, Result, Ok, Err, IfOk, Some, sym, ap, subst, ◌∙◌, append-nil}
use Rattle.wasm_operators.specs.below.declared.error.Error.{Error}
use Rattle.wasm_operators.specs.below.Source.{rest, offset_of}
use Rattle.wasm_operators.specs.Expression.{Placed, LaidOut}
use Rattle.wasm_operators.specs.Laws.{HasEncodings}
use Rattle.wasm_operators.specs.Reading.{State, RunsToEnd, Adds}
use Rattle.wasm_operators.specs.Next.{collecting}
use Rattle.uses.specs.Rest.{AddsRest}

pub adds_rest : {X : Type 0} (result : Result X Error) (old new : State) (before after : Placed) → HasEncodings old.reader.features →
    RunsToEnd collecting (Adds before after) result old new → IfOk result (λ _. AddsRest old before after)
adds_rest (Ok x) old new before after encoded (placed, added, taken, (closed, nothing)) =
    let all : rest old.reader ≡ taken.text = taken.takes.parts ∙ ap (λ t. taken.text ++ t) nothing ∙ append-nil taken.text in
    record {
      placed = placed;
      added = added;
      closes = (
        subst (λ bytes. LaidOut old.reader.features (offset_of old.reader) bytes placed) (sym all) taken.laid,
        taken.frames ∙ ap (λ frames. Some frames) closed,
      );
      encoded = encoded (offset_of old.reader) placed taken.text taken.laid;
    }
adds_rest (Err e) old new before after encoded run = tt
