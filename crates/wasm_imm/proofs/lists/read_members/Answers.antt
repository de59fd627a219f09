use Rattle.wasm_imm.proofs.lists.read_members.Goals as goal

pub returns-in-Err : goal.returns-in-Err
returns-in-Err g c = c.in-Err.ensures.reads
