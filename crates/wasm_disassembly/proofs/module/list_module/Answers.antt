use Rattle.std.proofs.Common.{ℕ, List, Bor, subst}
use Rattle.std.specs.Prelude.{option_map}
use Rattle.wasm_disassembly.specs.Listing.{IsFunction, IsModuleOf, ListsModule, Succeeds}
use Rattle.wasm_disassembly.proofs.Cuts.{succeeds_uncut, nothing_after}
use Rattle.wasm_disassembly.proofs.module.list_module.Goals as goal

pub returns-clause-lists : goal.returns-clause-lists
returns-clause-lists g c =
    let file = option_map (λ (text : Bor (List ℕ)). text.now) c.args.file in
    record {
      cut = c.find_cut-cut.result;
      is_cut = c.find_cut-cut.ensures.cut;
      listed = c.list_part-listed.result;
      lists = subst (λ bytes. ListsModule g.C.Complaints.reports c.args.features c.args.only file bytes c.list_part-listed.result c.args.complaints.now
          c.list_part-listed.new.complaints (g.W.Write.contents c.args.writer.now) (g.W.Write.contents c.list_part-listed.new.writer)) c.before_cut-part.ensures
          c.list_part-listed.ensures.lists;
      is = c.after_cut.ensures;
    }

pub returns-clause-whole : goal.returns-clause-whole
returns-clause-whole g c =
    succeeds_uncut c.refusals.ensures.none c.args.features c.args.only c.args.bytes.now c.find_cut-cut.result c.list_part-listed.result c.after_cut.result
    c.find_cut-cut.ensures.cut c.after_cut.ensures
    (subst (λ bytes. IsModuleOf IsFunction c.args.features c.args.only bytes → Succeeds c.list_part-listed.result) c.before_cut-part.ensures
    c.list_part-listed.ensures.whole)

pub returns-clause-nothing : goal.returns-clause-nothing
returns-clause-nothing g c =
    nothing_after c.args.writer.now c.list_part-listed.new.writer c.find_cut-cut.result c.list_part-listed.result c.after_cut.result c.after_cut.ensures
    c.list_part-listed.ensures.nothing
