use Rattle.std.proofs.Common.{inr, rules}
use Rattle.wasm_details.proofs.contents.write_data_count.Goals as goal

pub returns-in-Err-write_text : goal.returns-in-Err-write_text
returns-in-Err-write_text g c = inr (c.in-Ok.count, c.in-Ok.ensures, search rules)
