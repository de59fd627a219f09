use Rattle.std.proofs.Common.{sym, subst, ap, Some, ◌∙◌}
use Rattle.wasm_decode_opcodes.specs.Decoding.{VisitsRow}
use Rattle.wasm_decode_opcodes.specs.Entry.{entry_kinds}
use Rattle.wasm_decode_opcodes.specs.OperatorFaults.{OperatorFault}
use Rattle.wasm_decode_opcodes.proofs.OperatorLemmas.{refuses_free, visited_free}
use Rattle.wasm_decode_opcodes.proofs.SequenceLemmas.{gone_back}
use Rattle.wasm_decode_groups.proofs.Arms.{is_code}
use Rattle.wasm_decode_groups.proofs.arm.arm.Goals as goal

pub at-requires-clause-kinds : goal.at-requires-clause-kinds
at-requires-clause-kinds g c =
    ap entry_kinds c.requires.kinds.0 ∙ ap (λ z. Some (g.I.Immediates.kinds z)) c.requires.kinds.1

pub returns-in-Ok : goal.returns-in-Ok
returns-in-Ok g c k =
    let r = c.args.reader.now in
    let p = g.G.Group.prefix in
    visited_free g.V.Visitor.visits (OperatorFault r.features k) k p c.args.code (g.I.Immediates.kinds c.args.bound) (g.I.Immediates.listed c.args.bound c.in-Ok.it) c.args.start r c.read.new.reader c.args.v.now c.at.new.v c.at.result c.requires.kinds.0 c.requires.after
    (subst (λ z. VisitsRow g.V.Visitor.visits p c.args.code (g.I.Immediates.listed z c.in-Ok.it) c.args.v.now c.at.result c.at.new.v) (sym c.requires.kinds.1) c.at.ensures) c.in-Ok.ensures

pub returns-in-Err : goal.returns-in-Err
returns-in-Err g c k =
    let r = c.args.reader.now in
    let ks = g.I.Immediates.kinds c.args.bound in
    refuses_free g.V.Visitor.visits k g.G.Group.prefix c.args.code ks c.args.start c.in-Err.e r c.rewind.new.self c.args.v.now
    (is_code g.G.Group.prefix c.args.code ks c.requires.kinds.0 c.requires.code) c.requires.kinds.0 c.requires.after
    (gone_back ks (λ r. ⊥) c.args.start c.in-Err.e r c.read.new.reader c.rewind.new.self c.in-Err.ensures c.rewind.ensures)
