use Rattle.wasm_signatures.proofs.RowLemmas.{rows_at}
use Rattle.wasm_signatures.proofs.rows.row_at.Goals as goal

pub returns : goal.returns
returns c = rows_at c.args.code _
