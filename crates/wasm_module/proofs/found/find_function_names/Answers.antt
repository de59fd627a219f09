use Rattle.std.proofs.Common.{inl, inr}
use Rattle.std.proofs.lemmas.Result.{err_from_is_err_and}
use Rattle.wasm_module.proofs.found.find_function_names.Goals as goal

pub returns-in_err-set_names-clause-refused : goal.returns-in_err-set_names-clause-refused
returns-in_err-set_names-clause-refused c =
    let p = err_from_is_err_and c.from_residual-in_err-set_names.result c.from_residual-in_err-set_names.ensures.1 in
    rw (p.1, p.2) (λ names is. absurd (c.in_err-set_names.ensures.refused is.given is.section_of_names))

pub returns-in_err-names-clause-refused : goal.returns-in_err-names-clause-refused
returns-in_err-names-clause-refused c =
    let p = err_from_is_err_and c.from_residual.result c.from_residual.ensures.1 in
    rw (p.1, p.2) (λ names is. let there = is.section_of_imports in c.in_err-names.ensures.refused there.0 there.1)

pub returns-in_err-names-clause-fault : goal.returns-in_err-names-clause-fault
returns-in_err-names-clause-fault c =
    let p = err_from_is_err_and c.from_residual.result c.from_residual.ensures.1 in
    rw (p.1, p.2) (elim c.in_err-names.ensures.fault [ inl memory ↦ inl (memory.0, inl memory.1) | inr sections ↦ inr (inl sections) ])

pub returns-in_err-push_unnamed-clause-fault : goal.returns-in_err-push_unnamed-clause-fault
returns-in_err-push_unnamed-clause-fault c =
    let p = err_from_is_err_and c.from_residual-in_err-push_unnamed.result c.from_residual-in_err-push_unnamed.ensures.1 in
    rw (p.1, p.2) (inl (c.in_err-push_unnamed.ensures.memory, inr c.in_err-push_unnamed.ensures.some))

pub returns-in_err-set_exports-clause-fault : goal.returns-in_err-set_exports-clause-fault
returns-in_err-set_exports-clause-fault c =
    let p = err_from_is_err_and c.from_residual-in_err-set_exports.result c.from_residual-in_err-set_exports.ensures.1 in
    rw (p.1, p.2) (inr c.in_err-set_exports.ensures.fault)

pub returns-in_err-set_names-clause-fault : goal.returns-in_err-set_names-clause-fault
returns-in_err-set_names-clause-fault c =
    let p = err_from_is_err_and c.from_residual-in_err-set_names.result c.from_residual-in_err-set_names.ensures.1 in
    rw (p.1, p.2) (inr (inl c.in_err-set_names.ensures.fault))

pub returns-in_err-push_unnamed-clause-refused : goal.returns-in_err-push_unnamed-clause-refused
returns-in_err-push_unnamed-clause-refused c =
    let p = err_from_is_err_and c.from_residual-in_err-push_unnamed.result c.from_residual-in_err-push_unnamed.ensures.1 in
    rw (p.1, p.2) (λ names is. c.in_err-push_unnamed.ensures.memory)

pub returns-in_err-set_exports-clause-refused : goal.returns-in_err-set_exports-clause-refused
returns-in_err-set_exports-clause-refused c =
    let p = err_from_is_err_and c.from_residual-in_err-set_exports.result c.from_residual-in_err-set_exports.ensures.1 in
    rw (p.1, p.2) (λ names is. absurd (c.in_err-set_exports.ensures.refused is.exports _ is.exported is.section_of_exports is.from_exports))
