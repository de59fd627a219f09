use Rattle.std.proofs.Common.{None, ◌+◌, refl, sym, subst, ap, ◌∙◌, arith}
use Rattle.wasm_below.specs.Refusal.{IsReadFault}
use Rattle.wasm_decode_opcodes.specs.OperatorFaults.{EntryFault}
use Rattle.wasm_decode_opcodes.proofs.GuardLemmas.{refuses_unknown}
use Rattle.wasm_decode_opcodes.proofs.OperatorLemmas.{opcode_fault}
use Rattle.wasm_decode_opcodes.proofs.unknown.unknown_opcode.Goals as goal

pub returns : goal.returns
returns c k =
    let r = c.args.reader.now in
    let code = c.args.code in
    let e = c.refuse.result in
    refuses_unknown k None code c.args.start e r c.refuse.new.self ((λ h. cc (sym c.requires.unknown ∙ h)), omega arith) c.requires.unknown c.requires.after c.refuse.ensures.rewound (subst IsReadFault (sym c.refuse.ensures.message) tt) c.refuse.ensures.offset
    (λ some. opcode_fault k code c.args.start e.message r e.offset (omega arith) c.requires.after (subst (λ z. EntryFault r.features k (r.start + c.args.start) code z e.message r e.offset) (sym c.requires.unknown) (c.refuse.ensures.message, c.refuse.ensures.offset)))
