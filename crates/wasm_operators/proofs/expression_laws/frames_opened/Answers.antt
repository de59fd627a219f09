use Rattle.wasm_operators.proofs.OpeningLemmas.{twice_opened, opener_leads, leads_opener}
use Rattle.wasm_operators.proofs.expression_laws.frames_opened.Goals as goal

pub returns-clause-half : goal.returns-clause-half
returns-clause-half c = λ op text s. twice_opened c.args.features op text s

pub returns-clause-leads : goal.returns-clause-leads
returns-clause-leads c = λ op text s some. opener_leads c.args.features op text s some

pub returns-clause-opens : goal.returns-clause-opens
returns-clause-opens c = λ op text byte s begins leads. leads_opener c.args.features op text byte s begins leads
