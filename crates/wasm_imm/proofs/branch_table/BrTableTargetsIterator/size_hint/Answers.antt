use Rattle.std.proofs.Common.{◌≡◌, length, sym, ap, ◌∙◌, Some, arith}
use Rattle.wasm_below.specs.Source.{rest}
use Rattle.wasm_imm.proofs.BranchTables.{as_many}
use Rattle.wasm_imm.proofs.branch_table.BrTableTargetsIterator.size_hint.Goals as goal

pub returns-clause-lower : goal.returns-clause-lower
returns-clause-lower c =
    let e : length c.args.self.now ≡ c.self.inside.remaining = ap length (sym c.self.view_is) ∙
    as_many c.self.inside.remaining (rest c.self.inside.reader) c.self.invariant in
    λ f. omega arith

pub returns-clause-upper : goal.returns-clause-upper
returns-clause-upper c =
    let e : length c.args.self.now ≡ c.self.inside.remaining = ap length (sym c.self.view_is) ∙
    as_many c.self.inside.remaining (rest c.self.inside.reader) c.self.invariant in
    (tt, omega arith)

pub returns-clause-exact : goal.returns-clause-exact
returns-clause-exact c =
    let e : length c.args.self.now ≡ c.self.inside.remaining = ap length (sym c.self.view_is) ∙
    as_many c.self.inside.remaining (rest c.self.inside.reader) c.self.invariant in
    λ i. (sym e i, Some (sym e i))
