use Rattle.std.proofs.Common.{refl}
use Rattle.wasm_operators.specs.Next.{collecting}
use Rattle.wasm_operators.proofs.DecoderPremises.{keeps_all}
use Rattle.wasm_operators.proofs.OneRead.{stops_collecting}
use Rattle.wasm_operators.proofs.Premises.{Everything}
use Rattle.wasm_operators.proofs.Runs.{run_tree, run_beginning, run_only, finish_left}
use Rattle.wasm_operators.proofs.run_laws.read_to_the_end.Goals as goal

pub returns-clause-tree : goal.returns-clause-tree
returns-clause-tree c = λ before old new placed read_so_far ran closed all. run_tree before old new placed read_so_far ran closed all

pub returns-clause-beginning : goal.returns-clause-beginning
returns-clause-beginning c = λ before e old new placed read_so_far ran stops.
    run_beginning Everything collecting keeps_all before e old new placed read_so_far ran tt stops

pub returns-clause-only : goal.returns-clause-only
returns-clause-only c = λ before e old new placed whole read_so_far ran stops encodes.
    run_only Everything collecting keeps_all before e old new placed whole read_so_far ran tt stops encodes tt

pub returns-clause-refused : goal.returns-clause-refused
returns-clause-refused c = λ e s stops. stops_collecting e s stops

pub returns-clause-finished : goal.returns-clause-finished
returns-clause-finished c = λ e s all finishes. finish_left e.message e s refl all finishes.0 finishes.1
