use Rattle.std.proofs.Common.{◌≡◌, ◌+◌, ◌≤◌, ◌<◌, [], ◌∷◌, ◌++◌, length, sym, ap, ◌∙◌, inl, inr, rules, cond, arith}
use Rattle.std.proofs.lemmas.List.{length_push}
use Rattle.std.specs.Prelude.{◌==◌}
use Rattle.std.proofs.lemmas.List.Elements.{All-push}
use Rattle.std.proofs.lemmas.Result.{err_from_is_err_and}
use Rattle.wasm_module.specs.Refusals.{ImportsFault}
use Rattle.wasm_module.specs.ModuleFunctions.{IsKnownImport}
use Rattle.wasm_below.specs.Number.{EncodesUnsigned}
use Rattle.wasm_module.specs.Imports.{ImportParts, EncodesImport}
use Rattle.wasm_module.proofs.NamedFunctions.{one_value, not_both}
use Rattle.wasm_module.proofs.NextItems.{all_at, next_item, none_refused}
use Rattle.wasm_module.proofs.Listed.{item_more, functions_more}
use Rattle.wasm_module.proofs.Refused.{of_refusal, items_to}
use Rattle.wasm_module.proofs.imports.imported_functions.Goals as goal

pub loop-import-preserved : goal.loop-import-preserved
loop-import-preserved c =
    let h = c.loop-import.invariant in
    let import = c.in_ok-import.import in
    let occur = item_more EncodesImport c.read_var_u32.new.self h.0 c.loop-import.reader c.read.new.reader import h.1 c.in_ok-import.ensures in
    let known : IsKnownImport import = search rules in
    let one : c.from-functions.result ≡ cond (import.kind == 0) 1 0 = search rules in
    let few : c.from-functions.result ≤ 1 = search rules in
    let sum = functions_more h.0 import in
    let long = length_push h.0 import in (
      h.0 ++ import ∷ [],
      occur,
      long ∙ ap (λ n. n + 1) h.2,
      All-push IsKnownImport h.0 import h.3 known,
      let f = h.4 in omega (arith, f, one, sum),
      let f = h.5 in omega (arith, f, few),
    )

pub returns-in_err-count-clause-refused : goal.returns-in_err-count-clause-refused
returns-in_err-count-clause-refused c =
    let p = err_from_is_err_and c.from_residual.result c.from_residual.ensures.1 in
    rw p.1 (λ n (imports, list, known, is). not_both (EncodesUnsigned 32) c.in_err-count.field-0.0 c.args.contents list.first (length imports) c.in_err-count.ensures.1 list.count)

pub returns-in_err-import-clause-refused : goal.returns-in_err-import-clause-refused
returns-in_err-import-clause-refused c =
    let p = err_from_is_err_and c.from_residual-in_err-import.result c.from_residual-in_err-import.ensures.1 in
    rw p.1 (λ n (imports, list, known, is). let h = c.loop-import.invariant in
    let fewer : length h.0 < c.in_ok-count.count = let so = h.2 in let test = c.loop-import-test.true in omega (arith, so, test) in
    none_refused EncodesImport c.imports.ensures.one (c.unsigned_numbers.ensures 32) c.args.contents c.read_var_u32.new.self c.loop-import.reader
    c.in_ok-count.count h.0 imports c.in_err-import.field-0.0 c.in_ok-count.ensures h.1 fewer c.in_err-import.ensures.1 list)

pub returns-then-kind-gt-TAG-clause-refused : goal.returns-then-kind-gt-TAG-clause-refused
returns-then-kind-gt-TAG-clause-refused c n (imports, list, known, is) =
    let h = c.loop-import.invariant in
    let fewer : length h.0 < c.in_ok-count.count = let so = h.2 in let test = c.loop-import-test.true in omega (arith, so, test) in
    let import = c.in_ok-import.import in
    let (y, ys, next, parts, reads) = next_item EncodesImport c.imports.ensures.one (c.unsigned_numbers.ensures 32) c.args.contents c.read_var_u32.new.self
    c.loop-import.reader c.in_ok-count.count h.0 imports c.in_ok-count.ensures h.1 fewer list in
    let same = one_value EncodesImport c.imports.ensures.one c.loop-import.reader c.read.new.reader next import y c.in_ok-import.ensures reads in
    let few : y.kind < 5 = all_at IsKnownImport h.0 y ys imports parts known in
    let kinds : import.kind ≡ y.kind = ap (λ (i : ImportParts). i.kind) same in
    let is_kind = c.kind-kind.ensures in
    let more = c.if-kind-gt-TAG.true in
    omega (arith, few, kinds, is_kind, more)

pub returns-in_err-count-clause-fault : goal.returns-in_err-count-clause-fault
returns-in_err-count-clause-fault c =
    let p = err_from_is_err_and c.from_residual.result c.from_residual.ensures.1 in
    rw p.1 (let read = c.in_err-count.ensures in
    of_refusal (λ f. ImportsFault f c.args.contents) c.in_err-count.field-0.0 p.0 p.2 read.1.fault (inl (read.1, read.2)))

pub returns-in_err-import-clause-fault : goal.returns-in_err-import-clause-fault
returns-in_err-import-clause-fault c =
    let p = err_from_is_err_and c.from_residual-in_err-import.result c.from_residual-in_err-import.ensures.1 in
    rw p.1 (let h = c.loop-import.invariant in
    let fewer : length h.0 < c.in_ok-count.count = let so = h.2 in let test = c.loop-import-test.true in omega (arith, so, test) in
    let occur = items_to EncodesImport IsKnownImport c.args.contents c.read_var_u32.new.self c.loop-import.reader c.in_ok-count.count h.0 c.in_ok-count.ensures h.1
    fewer h.3 in
    let read = c.in_err-import.ensures in
    of_refusal (λ f. ImportsFault f c.args.contents) c.in_err-import.field-0.0 p.0 p.2 read.1.fault
    (inr (c.loop-import.reader, occur, (read.1, read.2))))

pub returns-then-kind-gt-TAG-clause-fault : goal.returns-then-kind-gt-TAG-clause-fault
returns-then-kind-gt-TAG-clause-fault c =
    let h = c.loop-import.invariant in
    let fewer : length h.0 < c.in_ok-count.count = let so = h.2 in let test = c.loop-import-test.true in omega (arith, so, test) in
    let occur = items_to EncodesImport IsKnownImport c.args.contents c.read_var_u32.new.self c.loop-import.reader c.in_ok-count.count h.0 c.in_ok-count.ensures h.1
    fewer h.3 in (
      c.loop-import.reader,
      occur,
      c.original_position-offset.ensures,
      c.in_ok-import.import,
      c.read.new.reader,
      c.in_ok-import.ensures,
      sym c.kind-kind.ensures,
      c.if-kind-gt-TAG.true,
    )
