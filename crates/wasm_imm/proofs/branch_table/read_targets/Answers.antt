use Rattle.std.proofs.Common.{◌++◌, ◌∷◌, []}
use Rattle.wasm_below.specs.Fault.{ManyFault}
use Rattle.wasm_below.specs.Number.{EncodesUnsigned}
use Rattle.wasm_below.specs.Source.{U32Fault}
use Rattle.wasm_below.proofs.Ahead.{failed}
use Rattle.wasm_below.proofs.TakesLemmas.{takes_then}
use Rattle.wasm_imm.specs.BranchTables.{EncodesTargets}
use Rattle.wasm_imm.proofs.ListLemmas.{many_more}
use Rattle.wasm_imm.proofs.BranchTables.{target_fails}
use Rattle.wasm_imm.proofs.branch_table.read_targets.Goals as goal

pub loop-target-preserved : goal.loop-target-preserved
loop-target-preserved c =
    let i = c.loop-target.invariant in
    let r = c.in_ok-read_var_u32.ensures in (
      i.0 ++ r.0,
      i.1 ++ c.in_ok-read_var_u32.field-0 ∷ [],
      many_more (EncodesUnsigned 32) c.loop-target._target i.0 r.0 i.1 c.in_ok-read_var_u32.field-0 i.2 r.1,
      takes_then c.args.reader.now c.loop-target.reader c.read_var_u32.new.self i.0 r.0 i.3 r.2,
    )

pub returns-in_err-read_var_u32 : goal.returns-in_err-read_var_u32
returns-in_err-read_var_u32 c =
    let h = c.in_err-read_var_u32.ensures in
    let i = c.loop-target.invariant in
    failed (EncodesTargets c.args.count) (ManyFault (EncodesUnsigned 32) U32Fault c.args.count) c.from_residual-in_err-read_var_u32.result _ c.from_residual-in_err-read_var_u32.ensures.1
    (target_fails _ _ _ _ _ _ i.2 c.loop-target-test.true i.3 (h.1, h.2))
