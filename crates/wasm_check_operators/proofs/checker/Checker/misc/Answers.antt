use Rattle.std.proofs.Common.{sym, subst}
use Rattle.wasm_check_operators.specs.Language.{misc_rule, Follows}
use Rattle.wasm_check_operators.proofs.checker.Checker.misc.Goals as goal

pub returns-in-TableCopy-clause-steps : goal.returns-in-TableCopy-clause-steps
returns-in-TableCopy-clause-steps g c =
    let E = g.M.ModuleContext.environment c.args.self.now.context.now in
    subst (λ op. Follows E (misc_rule E op) c.args.self.now.control c.table_copy.result c.table_copy.new.self.control) (sym c.in-TableCopy.is) c.table_copy.ensures.steps
