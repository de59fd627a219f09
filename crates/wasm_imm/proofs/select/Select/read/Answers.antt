use Rattle.std.proofs.Common.{◌++◌, refl, sym, ◌∙◌}
use Rattle.wasm_below.specs.Number.{EncodesSize}
use Rattle.wasm_below.proofs.Ahead.{advances}
use Rattle.wasm_below.proofs.TakesLemmas.{takes_then}
use Rattle.wasm_imm.specs.declared.select.Select.TheVariants as select
use Rattle.wasm_imm.specs.HandlerTables.{max_select_types, EncodesSelect, SelectAllocates}
use Rattle.wasm_imm.specs.ListFaults.{SelectFault}
use Rattle.wasm_imm.proofs.HandlerTables.{one_read, count_fails, type_fails, types_refused}
use Rattle.wasm_imm.proofs.ListRefusals.{stays_refused}
use Rattle.wasm_imm.proofs.select.Select.read.Goals as goal

pub returns-in_err-count : goal.returns-in_err-count
returns-in_err-count c =
    let h = c.in_err-count.ensures in
    stays_refused EncodesSelect SelectFault SelectAllocates _ c.clone-ahead.ensures c.from_residual.ensures.1
    (count_fails (h.1, h.2))

pub returns-in_err-ty : goal.returns-in_err-ty
returns-in_err-ty c =
    let h = c.in_err-ty.ensures in
    stays_refused EncodesSelect SelectFault SelectAllocates _ c.clone-ahead.ensures c.from_residual-in_err-ty.ensures.1
    (type_fails _ _ _ c.if-count-eq1.true c.in_ok-count.ensures (h.1, h.2))

pub returns-then-count-eq1 : goal.returns-then-count-eq1
returns-then-count-eq1 c = advances EncodesSelect {x = select.One c.in_ok-ty.ty} c.clone-ahead.ensures (one_read _ _ _ _ _ c.if-count-eq1.true c.in_ok-count.ensures c.in_ok-ty.ensures)

pub returns-in-Ok : goal.returns-in-Ok
returns-in-Ok c =
    let s = c.in_ok-count.ensures in
    let m = c.in-Ok.ensures in
    advances EncodesSelect {x = select.Multi c.in-Ok.tys} c.clone-ahead.ensures (
      s.0 ++ m.0,
      ((s.0, m.0, c.in_ok-count.count, refl, s.1, m.1), λ one. c.if-count-eq1.false (sym m.1.0 ∙ one)),
      takes_then c.clone-ahead.result c.read_size.new.self c.read_members.new.reader s.0 m.0 s.2 m.2,
    )

pub returns-in-Err : goal.returns-in-Err
returns-in-Err c =
    let old = c.args.reader.now in
    let counted = advances (EncodesSize max_select_types) c.clone-ahead.ensures c.in_ok-count.ensures in
    let gone = types_refused c.in-Err.e c.refuse_from.result old c.read_size.new.self c.read_members.new.reader c.refuse_from.new.reader c.in_ok-count.count
    c.current_position-start.result counted c.if-count-eq1.false c.in-Err.ensures c.current_position-start.ensures c.refuse_from.ensures.back
    c.refuse_from.ensures.reported in
    (refl, gone.1)
