use Rattle.std.proofs.Common.{sym, ap, subst, ◌∙◌}
use Rattle.std.specs.Option.{option_map}
use Rattle.wasm_check_control.specs.Environment.{table_of}
use Rattle.wasm_module_context.specs.Parts.{index_of, table_at, FailsInTable, FailsOffset}
use Rattle.wasm_module_context.proofs.Adding.{err_also}
use Rattle.wasm_module_context.proofs.elements.add_offset.Goals as goal

pub returns-in-Some-clause-refused : goal.returns-in-Some-clause-refused
returns-in-Some-clause-refused c =
    let x = index_of c.in-Active.table_index in
    let table = sym (ap (option_map table_of) c.in-Some.is) ∙ c.table_type.ensures ∙ ap (table_at c.args.context) c.index_of-index.ensures in
    err_also _ _ c.add_in_table.result (λ e fails. subst (λ k. FailsOffset k c.args.ty c.args.context c.args.offset e) (sym c.in-Active.is)
    (subst (λ t. FailsInTable t x c.in-Active.offset_expr c.args.ty c.args.context c.args.offset e) table fails)) (c.add_in_table.ensures.refused x)
