use Rattle.wasm_listing.proofs.Faults.{ok_unless}
use Rattle.wasm_listing.proofs.dump.list_body.Goals as goal

pub returns-in-Ok-clause-whole : goal.returns-in-Ok-clause-whole
returns-in-Ok-clause-whole c = λ declarations placed encodes. ok_unless c.read_body-end.result c.is_memory.result c.if-is_memory.false c.is_memory.ensures.1
    (c.read_body-end.ensures.whole declarations placed encodes)
