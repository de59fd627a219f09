use Rattle.uses.proofs.copies.opcode.Goals as goal

pub returns : goal.returns
returns c = λ features text encodes.
    (encodes.head, encodes.after, encodes.parts, rw (c.info-row.ensures.prefix, c.info-row.ensures.code) encodes.code)
