use Rattle.wasm_encode_modules.proofs.RawSteps.{section_of_raw}
use Rattle.wasm_encode_modules.proofs.section.raw_sections.Goals as goal

pub returns : goal.returns
returns c = section_of_raw
