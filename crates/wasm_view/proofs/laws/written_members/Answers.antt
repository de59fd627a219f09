use Rattle.wasm_view.proofs.Placed.{written_none, written_length, written_one, written_full}
use Rattle.wasm_view.proofs.laws.written_members.Goals as goal

pub returns-clause-none : goal.returns-clause-none
returns-clause-none g c = λ old. written_none old

pub returns-clause-long : goal.returns-clause-long
returns-clause-long g c = λ members old. written_length members old

pub returns-clause-fits : goal.returns-clause-fits
returns-clause-fits g c = λ members old member fits. written_one members old member fits

pub returns-clause-full : goal.returns-clause-full
returns-clause-full g c = λ members old member full. written_full members old member full
