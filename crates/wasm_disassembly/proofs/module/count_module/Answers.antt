use Rattle.std.proofs.Common.{Option, subst}
use Rattle.std.proofs.lemmas.Result.{err_from_is_err_and}
use Rattle.wasm_operators.specs.below.Source.{Reader}
use Rattle.wasm_disassembly.specs.Listing.{OpensModule, HasAsked}
use Rattle.wasm_disassembly.specs.ModuleCensus.{IsCounted}
use Rattle.wasm_disassembly.proofs.Found.{asked_there, refused_outside}
use Rattle.wasm_disassembly.proofs.Modules.{counts_module, counts_refused}
use Rattle.wasm_disassembly.proofs.module.count_module.Goals as goal

pub returns-in_err-functions-clause-counts : goal.returns-in_err-functions-clause-counts
returns-in_err-functions-clause-counts g c =
    let p = err_from_is_err_and c.from_residual.result c.from_residual.ensures.1 in
    rw (p.1, p.2) (counts_refused g.C.Complaints.reports c.args.features c.args.only c.args.bytes.now c.in_err-functions.field-0.0 c.args.complaints.now
    c.in_err-functions.ensures.refuses)

pub returns-in_err-functions-clause-whole : goal.returns-in_err-functions-clause-whole
returns-in_err-functions-clause-whole g c = λ h.
    let p = err_from_is_err_and c.from_residual.result c.from_residual.ensures.1 in
    rw (p.1, p.2) (refused_outside c.defined_functions.ensures (IsCounted c.args.features) c.args.features c.args.only c.args.bytes.now
    c.in_err-functions.field-0.0 c.in_err-functions.ensures.refuses h)

pub returns-in-Some-clause-counts : goal.returns-in-Some-clause-counts
returns-in-Some-clause-counts g c =
    let opens = subst (λ (code : Option Reader). OpensModule c.args.features c.args.only c.args.bytes.now c.in_ok-functions.functions code) c.in-Some.is c.in_ok-functions.ensures.opens in
    counts_module g.C.Complaints.reports c.args.features c.args.only c.args.bytes.now c.in_ok-functions.functions c.in-Some.code c.count_code.result
    c.args.complaints.now c.count_code.new.complaints opens c.count_code.ensures.counts c.count_code.ensures.later

pub returns-in-Some-clause-whole : goal.returns-in-Some-clause-whole
returns-in-Some-clause-whole g c =
    λ h.
    let there = asked_there c.sections.ensures c.defined_functions.ensures (IsCounted c.args.features) c.args.features c.args.only c.args.bytes.now c.in_ok-functions.functions
    c.in_ok-functions.code c.in_ok-functions.ensures.opens h in
    let (bodies, code, asked) = subst (λ (found : Option Reader). HasAsked (IsCounted c.args.features) c.in_ok-functions.functions c.args.only found) c.in-Some.is there in
    c.count_code.ensures.whole bodies code asked
