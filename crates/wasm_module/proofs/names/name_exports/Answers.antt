use Rattle.std.proofs.Common.{◌+◌, ◌<◌, [], ◌∷◌, ◌++◌, length, sym, ap, ◌∙◌, inl, inr, arith}
use Rattle.std.proofs.lemmas.List.{length_push}
use Rattle.std.proofs.lemmas.Result.{err_from_is_err_and}
use Rattle.wasm_below.specs.Number.{EncodesUnsigned}
use Rattle.wasm_module.specs.Exports.{EncodesExport}
use Rattle.wasm_module.specs.FunctionNames.{bytes_of, with_exports}
use Rattle.wasm_module.specs.Refusals.{ExportsFault, IsAny}
use Rattle.wasm_module.proofs.Listed.{item_more}
use Rattle.wasm_module.proofs.NamedFunctions.{exports_more, not_both}
use Rattle.wasm_module.proofs.NextItems.{none_refused}
use Rattle.wasm_module.proofs.Refused.{of_refusal, any_items, items_to}
use Rattle.wasm_module.proofs.names.name_exports.Goals as goal

pub loop-export-preserved : goal.loop-export-preserved
loop-export-preserved c =
    let h = c.loop-export.invariant in
    let export = c.in_ok-export.export in (
      h.0 ++ export ∷ [],
      item_more EncodesExport c.read_var_u32.new.self h.0 c.loop-export.reader c.read.new.reader export h.1 c.in_ok-export.ensures,
      length_push h.0 export ∙ ap (λ n. n + 1) h.2,
      c.set_exported.ensures ∙ ap (λ names. with_exports names (export ∷ [])) h.3 ∙
          sym (exports_more (bytes_of c.args.names.now.items) h.0 export),
    )

pub returns-in_err-count-clause-refused : goal.returns-in_err-count-clause-refused
returns-in_err-count-clause-refused c =
    let p = err_from_is_err_and c.from_residual.result c.from_residual.ensures.1 in
    rw p.1 (λ exports list. not_both (EncodesUnsigned 32) c.in_err-count.field-0.0 c.args.contents list.first (length exports) c.in_err-count.ensures.1 list.count)

pub returns-in_err-export-clause-refused : goal.returns-in_err-export-clause-refused
returns-in_err-export-clause-refused c =
    let p = err_from_is_err_and c.from_residual-in_err-export.result c.from_residual-in_err-export.ensures.1 in
    rw p.1 (λ exports list. let h = c.loop-export.invariant in
    let fewer : length h.0 < c.in_ok-count.count = let so = h.2 in let test = c.loop-export-test.true in omega (arith, so, test) in
    none_refused EncodesExport c.exports.ensures.one (c.unsigned_numbers.ensures 32) c.args.contents c.read_var_u32.new.self c.loop-export.reader
    c.in_ok-count.count h.0 exports c.in_err-export.field-0.0 c.in_ok-count.ensures h.1 fewer c.in_err-export.ensures.1 list)

pub returns-in_err-count-clause-fault : goal.returns-in_err-count-clause-fault
returns-in_err-count-clause-fault c =
    let p = err_from_is_err_and c.from_residual.result c.from_residual.ensures.1 in
    rw p.1 (let read = c.in_err-count.ensures in
    of_refusal (λ f. ExportsFault f c.args.contents) c.in_err-count.field-0.0 p.0 p.2 read.1.fault (inl (read.1, read.2)))

pub returns-in_err-export-clause-fault : goal.returns-in_err-export-clause-fault
returns-in_err-export-clause-fault c =
    let p = err_from_is_err_and c.from_residual-in_err-export.result c.from_residual-in_err-export.ensures.1 in
    rw p.1 (let h = c.loop-export.invariant in
    let fewer : length h.0 < c.in_ok-count.count = let so = h.2 in let test = c.loop-export-test.true in omega (arith, so, test) in
    let occur = items_to EncodesExport IsAny c.args.contents c.read_var_u32.new.self c.loop-export.reader c.in_ok-count.count h.0 c.in_ok-count.ensures h.1 fewer
    (any_items h.0) in
    let read = c.in_err-export.ensures in
    of_refusal (λ f. ExportsFault f c.args.contents) c.in_err-export.field-0.0 p.0 p.2 read.1.fault
    (inr (c.loop-export.reader, occur, (read.1, read.2))))
