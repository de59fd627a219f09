use Rattle.std.proofs.Common.{◌≡◌, length, inl, inr, rules}
use Rattle.std.proofs.lemmas.Result.{err_from_is_err_and}
use Rattle.wasm_below.specs.Source.{reader_of}
use Rattle.wasm_module.proofs.Laws.{names_of_functions}
use Rattle.wasm_module.proofs.functions.Functions.new.Goals as goal

pub returns-in_err-names-clause-refused : goal.returns-in_err-names-clause-refused
returns-in_err-names-clause-refused c =
    let p = err_from_is_err_and c.from_residual-in_err-names.result c.from_residual-in_err-names.ensures.1 in
    rw (p.1, p.2) (λ t is. let all : c.len.result ≡ length c.in_ok-types.types.items = search rules in
    let names = names_of_functions (c.unsigned_numbers.ensures 32) c.fixed_numbers.ensures.four
    (reader_of c.args.features 0 c.args.bytes.now) t is c.in_ok-types.types.items c.in_ok-types.ensures.ok c.len.result all in
    c.in_err-names.ensures.refused t.names names)

pub returns-in_err-parameters-clause-fault : goal.returns-in_err-parameters-clause-fault
returns-in_err-parameters-clause-fault c =
    let p = err_from_is_err_and c.from_residual.result c.from_residual.ensures.1 in
    rw (p.1, p.2) (inl c.in_err-parameters.ensures.fault)

pub returns-in_err-imported-clause-fault : goal.returns-in_err-imported-clause-fault
returns-in_err-imported-clause-fault c =
    let p = err_from_is_err_and c.from_residual-in_err-imported.result c.from_residual-in_err-imported.ensures.1 in
    rw (p.1, p.2) (let types = c.in_ok-parameters.ensures.ok in
    inr (inl ((types.0, c.in_ok-parameters.parameters.items, types.1, types.2), c.in_err-imported.ensures.fault)))

pub returns-in_err-types-clause-fault : goal.returns-in_err-types-clause-fault
returns-in_err-types-clause-fault c =
    let p = err_from_is_err_and c.from_residual-in_err-types.result c.from_residual-in_err-types.ensures.1 in
    rw (p.1, p.2) (let types = c.in_ok-parameters.ensures.ok in
    let imports = c.in_ok-imported.ensures.ok in
    inr (inr (inl (
      (types.0, c.in_ok-parameters.parameters.items, types.1, types.2),
      (imports.0, c.in_ok-imported.imported, imports.1, imports.2),
      c.in_err-types.ensures.fault,
    ))))

pub returns-in_err-names-clause-fault : goal.returns-in_err-names-clause-fault
returns-in_err-names-clause-fault c =
    let p = err_from_is_err_and c.from_residual-in_err-names.result c.from_residual-in_err-names.ensures.1 in
    rw (p.1, p.2) (let types = c.in_ok-parameters.ensures.ok in
    let imports = c.in_ok-imported.ensures.ok in
    let functions = c.in_ok-types.ensures.ok in
    let all : c.len.result ≡ length c.in_ok-types.types.items = search rules in
    inr (inr (inr (
      (types.0, c.in_ok-parameters.parameters.items, types.1, types.2),
      (imports.0, c.in_ok-imported.imported, imports.1, imports.2),
      c.len.result,
      (functions.0, c.in_ok-types.types.items, functions.1, functions.2, all),
      c.in_err-names.ensures.fault,
    ))))
