use Rattle.std.proofs.Common.{Some, ◌+◌, refl, sym, subst, ap, ◌∙◌, arith}
use Rattle.wasm_below.specs.Refusal.{IsReadFault}
use Rattle.wasm_decode_opcodes.specs.OperatorFaults.{FreeFault}
use Rattle.wasm_decode_opcodes.proofs.GuardLemmas.{refuses_unknown}
use Rattle.wasm_decode_opcodes.proofs.OperatorLemmas.{subopcode_fault}
use Rattle.wasm_decode_opcodes.proofs.unknown.unknown_subopcode.Goals as goal

pub returns : goal.returns
returns c k =
    let r = c.args.reader.now in
    let p = c.args.prefix in
    let code = c.args.code in
    let e = c.refuse.result in
    refuses_unknown k (Some p) code c.args.start e r c.refuse.new.self (c.requires.prefix, omega arith) c.requires.unknown c.requires.after c.refuse.ensures.rewound (subst IsReadFault (sym c.refuse.ensures.message) tt) c.refuse.ensures.offset
    (λ some. subopcode_fault k p code c.args.start e.message r e.offset (omega arith) c.requires.prefix c.requires.after (subst (λ z. FreeFault r.features (r.start + c.args.start) (Some p) code z e.message r e.offset) (sym c.requires.unknown) (c.refuse.ensures.message, c.refuse.ensures.offset)))
