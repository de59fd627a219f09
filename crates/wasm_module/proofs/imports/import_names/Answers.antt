use Rattle.std.proofs.Common.{◌≡◌, ◌+◌, ◌<◌, [], ◌∷◌, ◌++◌, length, refl, sym, ap, ◌∙◌, inl, inr, arith, rules}
use Rattle.std.proofs.lemmas.List.{length_push}
use Rattle.std.proofs.lemmas.Result.{err_from_is_err_and}
use Rattle.wasm_module.specs.Imports.{EncodesImport}
use Rattle.wasm_module.specs.FunctionNames.{function_name}
use Rattle.wasm_module.specs.Refusals.{IsAny}
use Rattle.wasm_module.proofs.Listed.{item_more, all_occur}
use Rattle.wasm_module.proofs.NamedFunctions.{imports_more}
use Rattle.wasm_module.proofs.Refused.{any_items, items_to}
use Rattle.wasm_module.proofs.imports.import_names.Goals as goal

pub returns-in-Err-clause-ok : goal.returns-in-Err-clause-ok
returns-in-Err-clause-ok c = ([], inr (inr (c.in-Err.field-0, c.in-Err.ensures.1, refl)), search rules)

pub loop-import-preserved : goal.loop-import-preserved
loop-import-preserved c =
    let h = c.loop-import.invariant in
    let import = c.in-Ok-read.import in (
      h.0 ++ import ∷ [],
      item_more EncodesImport c.read_var_u32.new.self h.0 c.loop-import.reader c.read.new.reader import h.1 c.in-Ok-read.ensures,
      length_push h.0 import ∙ ap (λ n. n + 1) h.2,
      c.in_ok-push_import.ensures.ok ∙ ap (λ z. z ++ function_name import) h.3 ∙ sym (imports_more h.0 import),
    )

pub returns-clause-ok : goal.returns-clause-ok
returns-clause-ok c =
    let h = c.loop-import.invariant in
    let so = h.2 in
    let test = c.loop-import-test.false in
    let end = c.loop-import.auto._import-end in
    let all : length h.0 ≡ c.in-Ok.count = omega (arith, so, test, end) in (
      h.0,
      inl (all_occur EncodesImport c.args.contents c.read_var_u32.new.self c.loop-import.reader h.0 c.in-Ok.count c.in-Ok.ensures h.1 all),
      h.3,
    )

pub returns-in_err-push_import-clause-memory : goal.returns-in_err-push_import-clause-memory
returns-in_err-push_import-clause-memory c =
    let p = err_from_is_err_and c.from_residual.result c.from_residual.ensures.1 in
    rw (p.1, p.2) (let h = c.loop-import.invariant in
    let fewer : length h.0 < c.in-Ok.count = let so = h.2 in let test = c.loop-import-test.true in omega (arith, so, test) in
    let items = items_to EncodesImport IsAny c.args.contents c.read_var_u32.new.self c.loop-import.reader c.in-Ok.count h.0 c.in-Ok.ensures h.1 fewer
    (any_items h.0) in (
      c.in_err-push_import.ensures.memory,
      (c.loop-import.reader, items, c.in-Ok-read.import, c.read.new.reader, c.in-Ok-read.ensures, c.in_err-push_import.ensures.function),
    ))
