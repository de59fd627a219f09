use Rattle.std.proofs.Common.{None, ap}
use Rattle.wasm_decode_opcodes.specs.Entry.{entry_kinds}
use Rattle.wasm_decode_opcodes.specs.OperatorFaults.{OperatorFault}
use Rattle.wasm_decode_opcodes.proofs.MemoryLemmas.{refuses_list, leads_small}
use Rattle.wasm_decode_opcodes.proofs.OperatorLemmas.{visited_free, within_after_code}
use Rattle.wasm_decode_groups.proofs.Arms.{is_code}
use Rattle.wasm_decode_groups.proofs.one_byte_arms.list_arm.Goals as goal

pub read_list-requires-clause-within : goal.read_list-requires-clause-within
read_list-requires-clause-within g c = within_after_code c.args.start None c.args.code c.args.reader.now c.requires.after

pub at_list-requires : goal.at_list-requires
at_list-requires g c = ap entry_kinds c.requires.kinds

pub returns-in-Ok : goal.returns-in-Ok
returns-in-Ok g c k =
    let r = c.args.reader.now in
    visited_free g.V.Visitor.visits (OperatorFault r.features k) k None c.args.code g.I.Lists.kinds (g.I.Lists.listed c.in-Ok.it) c.args.start r c.read_list.new.reader c.args.v.now c.at_list.new.v c.at_list.result c.requires.kinds c.requires.after c.at_list.ensures c.in-Ok.ensures

pub returns-in-Err : goal.returns-in-Err
returns-in-Err g c k =
    let r = c.args.reader.now in
    let ks = g.I.Lists.kinds in
    let is = is_code None c.args.code ks c.requires.kinds (leads_small c.args.code c.requires.leads) in
    refuses_list g.V.Visitor.visits k c.args.code ks c.args.start c.in-Err.e r c.read_list.new.reader c.args.v.now is c.requires.kinds c.requires.leads c.requires.after c.in-Err.ensures
