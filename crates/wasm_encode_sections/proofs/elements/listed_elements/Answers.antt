use Rattle.wasm_encode_sections.proofs.ElementForms.{to_element, of_element}
use Rattle.wasm_encode_sections.proofs.elements.listed_elements.Goals as goal

pub returns-clause-read : goal.returns-clause-read
returns-clause-read g c = λ features at text x p. to_element features (g.C.Write.grammar features) at text x p

pub returns-clause-written : goal.returns-clause-written
returns-clause-written g c = λ features at text e p. of_element features (g.C.Write.grammar features) at text e p
