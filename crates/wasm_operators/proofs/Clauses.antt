-- The clauses of drivers, from their effects.
use Rattle.std.proofs.Common.{Result, Ok, Err, subst}
use Rattle.wasm_below.specs.declared.error.Error.{Error}
use Rattle.wasm_instr.specs.declared.operator.Operator.{Operator}
use Rattle.wasm_operators.specs.Expression.{Placed, OfPlaced}
use Rattle.wasm_operators.specs.Reading.{Decoder, State, RunsToEnd}
use Rattle.wasm_operators.specs.MainTheorem.{ReadsRest, ReadsFlat, IsWithinDepth}
use Rattle.wasm_operators.proofs.Ends.{flat_run, run_cut, run_left}
use Rattle.wasm_operators.proofs.Premises.{Keeps, IsReading}
use Rattle.wasm_operators.proofs.Runs.{run_tree, run_beginning, run_only, run_depth}

module _ (decoder : Decoder) (Effect : OfPlaced) (Sort : Operator → Type 0) (kept : (placed : Placed) → Effect placed → decoder.Kept placed)
    (keeps : Keeps Sort decoder.Kept decoder.Encodes) where
  pub runs_rest : {X : Type 0} (reading : IsReading decoder.Fault) (r : Result X Error) (old new : State) → RunsToEnd decoder Effect r old new →
      ReadsRest decoder Effect r old new
  runs_rest reading (Ok x) old new (placed, effect, ran, (closed, all)) before h =
      record {
        tree = (placed, effect, run_tree before old new placed h ran closed all);
        only = λ whole encodes too. tt;
        beginning = tt;
        cut = λ is. tt;
        completed = tt;
      }
  runs_rest reading (Err e) old new (placed, effect, ran, stops) before h =
      let k = kept placed effect in
      record {
        tree = tt;
        only = λ whole encodes too. run_only Sort decoder keeps before e old new placed whole h ran k stops encodes too;
        beginning = (placed, effect, run_beginning Sort decoder keeps before e old new placed h ran k stops);
        cut = run_cut Sort decoder keeps e before old new placed h ran stops;
        completed = run_left decoder reading e before old new placed h ran stops;
      }

  pub runs_flat : {X : Type 0} (r : Result X Error) (old new : State) → RunsToEnd decoder Effect r old new → ReadsFlat decoder Effect r old
  runs_flat r old new (placed, effect, ran, ended) flat longest other =
      let h = flat_run Sort decoder keeps r old new placed flat ran (kept placed effect) ended longest other in
      (subst Effect h.0 effect, h.1)

pub runs_within_depth : {X : Type 0} (decoder : Decoder) (Effect : OfPlaced) (r : Result X Error) (old new : State) → RunsToEnd decoder Effect r old new →
    IsWithinDepth old new
runs_within_depth decoder Effect r old new (placed, effect, ran, ended) = run_depth old new placed ran
