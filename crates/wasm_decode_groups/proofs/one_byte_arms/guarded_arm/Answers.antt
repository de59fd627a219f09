use Rattle.std.proofs.Common.{None, Some, refl, sym, subst, ap, arith, ◌∙◌}
use Rattle.wasm_decode_opcodes.specs.Decoding.{VisitsRow}
use Rattle.wasm_decode_opcodes.specs.Entry.{entry_kinds, align_in}
use Rattle.wasm_decode_opcodes.specs.OperatorFaults.{OperatorFault}
use Rattle.wasm_decode_opcodes.proofs.GuardLemmas.{checked_refused, checked_visited}
use Rattle.wasm_decode_opcodes.proofs.SequenceLemmas.{gone_back}
use Rattle.wasm_decode_groups.proofs.one_byte_arms.guarded_arm.Goals as goal

pub at-requires-clause-group : goal.at-requires-clause-group
at-requires-clause-group g c from to = absurd (omega (arith, from, c.requires.low))

pub at-requires-clause-kinds : goal.at-requires-clause-kinds
at-requires-clause-kinds g c =
    ap entry_kinds c.requires.kinds ∙ ap (λ z. Some (g.I.Immediates.kinds z)) (sym (ap align_in c.requires.kinds))

pub returns-in-Ok-read : goal.returns-in-Ok-read
returns-in-Ok-read g c =
    let r = c.args.reader.now in
    checked_visited g.V.Visitor.visits (OperatorFault r.features c.args.frame) c.args.frame c.args.code c.args.guard (g.I.Immediates.kinds 0) (g.I.Immediates.listed 0 c.in-Ok-read.it) c.args.start r c.check.new.reader c.read.new.reader c.args.v.now c.at.new.v c.at.result c.requires.kinds c.requires.after c.in-Ok.ensures.stays c.in-Ok.ensures.feature c.in-Ok.ensures.allows
    (subst (λ z. VisitsRow g.V.Visitor.visits None c.args.code (g.I.Immediates.listed z c.in-Ok-read.it) c.args.v.now c.at.result c.at.new.v) (ap align_in c.requires.kinds) c.at.ensures) c.in-Ok-read.ensures

pub returns-in-Err-read : goal.returns-in-Err-read
returns-in-Err-read g c =
    let r = c.args.reader.now in
    let ks = g.I.Immediates.kinds 0 in
    checked_refused g.V.Visitor.visits c.args.frame c.args.code c.args.guard ks c.args.start c.in-Err-read.e r c.check.new.reader c.rewind.new.self c.args.v.now (omega (arith, c.requires.low)) c.requires.kinds c.requires.after c.in-Ok.ensures.stays c.in-Ok.ensures.feature c.in-Ok.ensures.allows
    (gone_back ks (λ r. ⊥) c.args.start c.in-Err-read.e c.check.new.reader c.read.new.reader c.rewind.new.self c.in-Err-read.ensures c.rewind.ensures)

pub returns-in-Err : goal.returns-in-Err
returns-in-Err g c =
    (refl, c.in-Err.ensures.refuses c.args.code (g.I.Immediates.kinds 0) (omega (arith, c.requires.low)) c.requires.after c.requires.kinds)
