use Rattle.std.proofs.Common.{◌-◌, ◌≤◌}
use Rattle.std.specs.Prelude.{vec_capacity, vec_len, ◌≡◌}
use Rattle.wasm_grammars.specs.Grammar.{thing}
use Rattle.wasm_grammars.specs.Parts.{counted, more}
use Rattle.wasm_grammars.proofs.Steps.{Comes}
use Rattle.wasm_grammars.proofs.lists.read_counted.Given as goal

abbrev pub invariant-loop-member : goal.invariant-loop-member
invariant-loop-member g l = let item = thing (g.T.Read.grammar l.fn.reader.features) in
    Comes l.start (counted l.limit l.fn.desc item) l.fn.reader (more (l.count - l._member) item l.items.items) l.ahead × (vec_len l.items ≡ l._member) × (l.count ≤ vec_capacity l.items)
