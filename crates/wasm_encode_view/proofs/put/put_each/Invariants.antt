use Rattle.std.proofs.Common.{◌+◌, ◌*◌, ◌≤◌, take, Some}
use Rattle.wasm_imm.specs.Lists.{EncodesEach}
use Rattle.wasm_encode_view.specs.Sections.{EncodesLocals, PutsShortest}
use Rattle.wasm_encode_view.proofs.put.put_each.Given as goal

-- The declarations before the index are put.
abbrev pub invariant-locals : goal.invariant-locals
invariant-locals l = record {
  puts : PutsShortest (EncodesEach EncodesLocals) (take l.local-index l.locals) l.fn.at (Some l.next) l.fn.out l.out;
  few : l.next ≤ l.fn.at + 22 * l.local-index;
}
