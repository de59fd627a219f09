use Rattle.std.proofs.Common.{◌≡◌, refl, sym, subst, ap, Some, ◌∙◌}
use Rattle.wasm_instr.specs.Row.{immediates_of}
use Rattle.wasm_decode_opcodes.specs.Entry.{entry_kinds}
use Rattle.wasm_decode_opcodes.specs.OperatorFaults.{OperatorFault}
use Rattle.wasm_decode_opcodes.proofs.OperatorLemmas.{refuses_free, visited_free}
use Rattle.wasm_decode_opcodes.proofs.SequenceLemmas.{gone_back}
use Rattle.wasm_decode_groups.proofs.Arms.{is_code}
use Rattle.wasm_decode_groups.proofs.read_arm.read_arm.Goals as goal

pub make-requires-clause-kinds : goal.make-requires-clause-kinds
make-requires-clause-kinds g c =
    ap entry_kinds c.requires.kinds.0 ∙ ap (λ z. Some (g.I.Immediates.kinds z)) c.requires.kinds.1

pub returns-in-Ok : goal.returns-in-Ok
returns-in-Ok g c k =
    let r = c.args.reader.now in
    let whole = g.G.Group.operator in
    let made = c.make.ensures in
    let listed = subst (λ z. immediates_of (whole c.make.result) ≡ g.I.Immediates.listed z c.in-Ok.it) (sym c.requires.kinds.1) made.2 in
    visited_free {V = Unit {0}} (λ v op a w. op ≡ whole a) (OperatorFault r.features k) k g.G.Group.prefix c.args.code (g.I.Immediates.kinds c.args.bound) (g.I.Immediates.listed c.args.bound c.in-Ok.it) c.args.start r c.read.new.reader tt tt c.make.result c.requires.kinds.0 c.requires.after
    (whole c.make.result, made.0, made.1, listed, refl) c.in-Ok.ensures

pub returns-in-Err : goal.returns-in-Err
returns-in-Err g c k =
    let r = c.args.reader.now in
    let ks = g.I.Immediates.kinds c.args.bound in
    refuses_free {V = Unit {0}} (λ v op a w. op ≡ g.G.Group.operator a) k g.G.Group.prefix c.args.code ks c.args.start c.in-Err.e r c.rewind.new.self tt
    (is_code g.G.Group.prefix c.args.code ks c.requires.kinds.0 c.requires.code) c.requires.kinds.0 c.requires.after
    (gone_back ks (λ r. ⊥) c.args.start c.in-Err.e r c.read.new.reader c.rewind.new.self c.in-Err.ensures c.rewind.ensures)
