use Rattle.std.proofs.Common.{inr, rules}
use Rattle.wasm_details.proofs.contents.write_start.Goals as goal

pub returns-in-Err-write_text : goal.returns-in-Err-write_text
returns-in-Err-write_text g c = inr (c.in-Ok.index, c.in-Ok.ensures, search rules)
