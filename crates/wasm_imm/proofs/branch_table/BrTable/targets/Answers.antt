use Rattle.std.proofs.Common.{◌≡◌, List, ℕ, sym, ap, subst}
use Rattle.wasm_below.specs.Number.{EncodesUnsigned}
use Rattle.wasm_below.specs.Source.{rest}
use Rattle.wasm_imm.specs.Lists.{EncodesMany}
use Rattle.wasm_imm.specs.BranchTables.{BranchTable, numbers_of}
use Rattle.wasm_imm.proofs.BranchTables.{targets_encoded}
use Rattle.wasm_imm.proofs.branch_table.BrTable.targets.Goals as goal

pub returns : goal.returns
returns c =
    let t = c.self.inside in
    let encodes = targets_encoded t.count t.targets.now c.self.invariant.0 in
    let left : rest c.new.result ≡ t.targets.now = ap rest c.new.ensures in
    let whole : EncodesMany (EncodesUnsigned 32) t.count t.targets.now (numbers_of (rest c.new.result)) =
    subst (λ (z : List ℕ). EncodesMany (EncodesUnsigned 32) t.count t.targets.now (numbers_of z)) (sym left) encodes in
    subst (λ (v : BranchTable). EncodesMany (EncodesUnsigned 32) v.count v.targets (numbers_of (rest c.new.result))) c.self.view_is whole
