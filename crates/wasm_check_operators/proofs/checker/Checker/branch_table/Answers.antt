use Rattle.std.proofs.Common.{true, false, Some, refl, sym, ap, ◌∙◌}
use Rattle.std.specs.Option.{option_map}
use Rattle.wasm_imm.specs.BranchTables.{numbers_of}
use Rattle.wasm_check_control.specs.State.{results_of}
use Rattle.wasm_check_control.specs.declared.frame.ResultTypes.{ResultTypes}
use Rattle.wasm_check_operators.proofs.Targets.{table_outcome}
use Rattle.wasm_check_operators.proofs.checker.Checker.branch_table.Goals as goal

pub returns-then-not-fits-clause-steps : goal.returns-then-not-fits-clause-steps
returns-then-not-fits-clause-steps g c =
    table_outcome (g.M.ModuleContext.environment c.args.self.now.context.now).order c.args.self.now.control c.expect.new.self (numbers_of c.args.table.now.targets) c.args.table.now.default c.default.result
    c.count_of-count.result (results_of c.in-Some.label.one c.in-Some.label.many.now) false _
    c.if-not-expect.ensures (ap (option_map (λ (s : ResultTypes). results_of s.one s.many.now)) (sym c.in-Some.is) ∙ c.label.ensures) c.default.ensures c.count_of-count.ensures (sym c.if-not-fits.true ∙ c.fits.ensures) refl

pub returns-then-not-targets_fit-clause-steps : goal.returns-then-not-targets_fit-clause-steps
returns-then-not-targets_fit-clause-steps g c =
    table_outcome (g.M.ModuleContext.environment c.args.self.now.context.now).order c.args.self.now.control c.expect.new.self (numbers_of c.args.table.now.targets) c.args.table.now.default c.default.result
    c.count_of-count.result (results_of c.in-Some.label.one c.in-Some.label.many.now) true false
    c.if-not-expect.ensures (ap (option_map (λ (s : ResultTypes). results_of s.one s.many.now)) (sym c.in-Some.is) ∙ c.label.ensures) c.default.ensures c.count_of-count.ensures (sym c.if-not-fits.false ∙ c.fits.ensures)
    (sym c.if-not-targets_fit.true ∙ c.targets_fit.ensures)

pub returns-clause-steps : goal.returns-clause-steps
returns-clause-steps g c =
    table_outcome (g.M.ModuleContext.environment c.args.self.now.context.now).order c.args.self.now.control c.expect.new.self (numbers_of c.args.table.now.targets) c.args.table.now.default c.default.result
    c.count_of-count.result (results_of c.in-Some.label.one c.in-Some.label.many.now) true true
    c.if-not-expect.ensures (ap (option_map (λ (s : ResultTypes). results_of s.one s.many.now)) (sym c.in-Some.is) ∙ c.label.ensures) c.default.ensures c.count_of-count.ensures (sym c.if-not-fits.false ∙ c.fits.ensures)
    (sym c.if-not-targets_fit.false ∙ c.targets_fit.ensures) ∙
    ap (λ fs. Some fs) (sym c.jump.ensures)
