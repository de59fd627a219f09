use Rattle.std.proofs.Common.{inr}
use Rattle.wasm_payloads.proofs.parser.Parser.read_section.Goals as goal

pub returns-in-Ok-read_opened-clause-ok : goal.returns-in-Ok-read_opened-clause-ok
returns-in-Ok-read_opened-clause-ok c = inr (c.in-Ok-open.header, c.open.new.self, c.in-Ok-open.ensures.ok, c.in-Ok-read_opened.ensures.ok)

pub returns-in-Err-read_opened-clause-err : goal.returns-in-Err-read_opened-clause-err
returns-in-Err-read_opened-clause-err c = inr (inr (c.in-Ok-open.header, c.open.new.self, c.in-Ok-open.ensures.ok, c.in-Err-read_opened.ensures.err))
