use Rattle.std.proofs.Common.{refl}
use Rattle.std.proofs.lemmas.Result.{err_from_is_err_and}
use Rattle.wasm_disassembly.proofs.Chosen.{on_true, on_false, not_on_true, not_on_false, tabulates_none}
use Rattle.wasm_disassembly.proofs.request.run.Goals as goal

pub returns-then-not-requested-clause-tabulates : goal.returns-then-not-requested-clause-tabulates
returns-then-not-requested-clause-tabulates g c = not_on_true c.args.requested.census _ c.if-not-requested.true

pub returns-then-not-requested-clause-counted : goal.returns-then-not-requested-clause-counted
returns-then-not-requested-clause-counted g c = not_on_true c.args.requested.census _ c.if-not-requested.true

pub returns-then-not-requested-clause-listed : goal.returns-then-not-requested-clause-listed
returns-then-not-requested-clause-listed g c = on_false c.args.requested.census _ c.list_module.ensures.whole

pub returns-in_err-found-clause-tabulates : goal.returns-in_err-found-clause-tabulates
returns-in_err-found-clause-tabulates g c =
    let p = err_from_is_err_and c.from_residual.result c.from_residual.ensures.1 in
    rw (p.1, p.2) (on_true c.args.requested.census _
    (tabulates_none g.C.Complaints.reports c.args.requested.features c.args.requested.function c.args.bytes.now c.in_err-found.field-0.0 c.args.complaints.now
    c.count_module.new.complaints (g.W.Write.contents c.args.writer.now) c.in_err-found.ensures.counts))

pub returns-in_err-found-clause-counted : goal.returns-in_err-found-clause-counted
returns-in_err-found-clause-counted g c =
    let p = err_from_is_err_and c.from_residual.result c.from_residual.ensures.1 in
    rw (p.1, p.2) (on_true c.args.requested.census _ c.in_err-found.ensures.whole)

pub returns-in_err-found-clause-lists : goal.returns-in_err-found-clause-lists
returns-in_err-found-clause-lists g c = not_on_false c.args.requested.census _ c.if-not-requested.false

pub returns-in_err-found-clause-listed : goal.returns-in_err-found-clause-listed
returns-in_err-found-clause-listed g c = not_on_false c.args.requested.census _ c.if-not-requested.false

pub returns-in_err-write_table-clause-lists : goal.returns-in_err-write_table-clause-lists
returns-in_err-write_table-clause-lists g c = not_on_false c.args.requested.census _ c.if-not-requested.false

pub returns-in_err-write_table-clause-listed : goal.returns-in_err-write_table-clause-listed
returns-in_err-write_table-clause-listed g c = not_on_false c.args.requested.census _ c.if-not-requested.false

pub returns-clause-tabulates : goal.returns-clause-tabulates
returns-clause-tabulates g c =
    let table = c.in_ok-write_table.ensures.ok in
    on_true c.args.requested.census _ (c.in_ok-found.found, c.in_ok-found.ensures.counts, refl, table.0, table.1, table.2)

pub returns-clause-lists : goal.returns-clause-lists
returns-clause-lists g c = not_on_false c.args.requested.census _ c.if-not-requested.false

pub returns-clause-listed : goal.returns-clause-listed
returns-clause-listed g c = not_on_false c.args.requested.census _ c.if-not-requested.false

pub returns-clause-counted : goal.returns-clause-counted
returns-clause-counted g c = on_true c.args.requested.census _ c.in_ok-found.ensures.whole
