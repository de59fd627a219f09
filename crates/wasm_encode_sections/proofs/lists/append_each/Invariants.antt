use Rattle.std.proofs.Common.{◌-◌, [], length, take}
use Rattle.wasm_grammars.specs.Grammar.{thing}
use Rattle.wasm_grammars.specs.Parts.{more}
use Rattle.wasm_write_grammars.proofs.Owing.{Owes}
use Rattle.wasm_encode_sections.proofs.lists.append_each.Given as goal

abbrev pub invariant-loop-member : goal.invariant-loop-member
invariant-loop-member g l = let item = thing (g.T.Write.grammar l.features) in
    Owes (more (length l.members) item []) l.members l.fn.out.items (more (length l.members - l.member-index) item (take l.member-index l.members)) l.out.items
