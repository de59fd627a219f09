use Rattle.std.proofs.Common.{◌≡◌, None, inr, rules}
use Rattle.wasm_context.specs.Faults.{data_fault}
use Rattle.wasm_module_context.proofs.Adding.{ok_also, err_also}
use Rattle.wasm_module_context.proofs.data.add_data_section.Goals as goal

pub returns-clause-added : goal.returns-clause-added
returns-clause-added c =
    let none : data_fault c.args.items.count ≡ None = search rules in
    let added = rw c.read_as.ensures at c.add_items.ensures.added in
    ok_also _ _ c.add_items.result (λ new more. (none, more)) added

pub returns-clause-refused : goal.returns-clause-refused
returns-clause-refused c =
    let none : data_fault c.args.items.count ≡ None = search rules in
    let refused = rw c.read_as.ensures at c.add_items.ensures.refused in
    err_also _ _ c.add_items.result (λ e fails. inr (none, fails)) refused
