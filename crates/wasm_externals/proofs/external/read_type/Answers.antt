use Rattle.std.proofs.Common.{◌≡◌, refl, subst}
use Rattle.wasm_below.specs.declared.features.WasmFeatures.{WasmFeatures}
use Rattle.wasm_below.specs.Source.{Reader, offset_of}
use Rattle.wasm_externals.specs.declared.external.ExternalKind.{ExternalKind}
use Rattle.wasm_externals.specs.Externals.{type_of}
use Rattle.wasm_grammars.proofs.Steps.{Comes, begins, then, fails_at, fails_in, ends, failed}
use Rattle.wasm_externals.proofs.external.read_type.Goals as goal

of_kind : {kind k : ExternalKind} (features : WasmFeatures) (old : Reader) → kind ≡ k → Comes (offset_of old) (type_of kind features) old (type_of k features) old
of_kind {kind} {k} features old is = subst (λ z. Comes (offset_of old) (type_of kind features) old (type_of z features) old) is (begins (type_of kind features) refl)

pub returns-in_err-read_var_u32-in-Func : goal.returns-in_err-read_var_u32-in-Func
returns-in_err-read_var_u32-in-Func c =
    let func = of_kind c.args.reader.now.features c.args.reader.now c.in-Func.is in
    failed _ _ c.from_residual.ensures.1 (fails_at func c.in_err-read_var_u32-in-Func.ensures)

pub returns-in_err-read_from-in-Table : goal.returns-in_err-read_from-in-Table
returns-in_err-read_from-in-Table c =
    let table = of_kind c.args.reader.now.features c.args.reader.now c.in-Table.is in
    failed _ _ c.from_residual-in_err-read_from-in-Table.ensures.1 (fails_in table c.in_err-read_from-in-Table.ensures.1)

pub returns-in_err-read_from-in-Memory : goal.returns-in_err-read_from-in-Memory
returns-in_err-read_from-in-Memory c =
    let memory = of_kind c.args.reader.now.features c.args.reader.now c.in-Memory.is in
    failed _ _ c.from_residual-in_err-read_from-in-Memory.ensures.1 (fails_in memory c.in_err-read_from-in-Memory.ensures.1)

pub returns-in_err-read_from-in-Global : goal.returns-in_err-read_from-in-Global
returns-in_err-read_from-in-Global c =
    let global = of_kind c.args.reader.now.features c.args.reader.now c.in-Global.is in
    failed _ _ c.from_residual-in_err-read_from-in-Global.ensures.1 (fails_in global c.in_err-read_from-in-Global.ensures.1)

pub returns-in_err-read_from-in-Tag : goal.returns-in_err-read_from-in-Tag
returns-in_err-read_from-in-Tag c =
    let tag = of_kind c.args.reader.now.features c.args.reader.now c.in-Tag.is in
    failed _ _ c.from_residual-in_err-read_from-in-Tag.ensures.1 (fails_in tag c.in_err-read_from-in-Tag.ensures.1)

pub returns-in_ok-read_from-in-Table : goal.returns-in_ok-read_from-in-Table
returns-in_ok-read_from-in-Table c =
    ends (then (of_kind c.args.reader.now.features c.args.reader.now c.in-Table.is) c.in_ok-read_from-in-Table.ensures)

pub returns-in_ok-read_from-in-Memory : goal.returns-in_ok-read_from-in-Memory
returns-in_ok-read_from-in-Memory c =
    ends (then (of_kind c.args.reader.now.features c.args.reader.now c.in-Memory.is) c.in_ok-read_from-in-Memory.ensures)

pub returns-in_ok-read_from-in-Tag : goal.returns-in_ok-read_from-in-Tag
returns-in_ok-read_from-in-Tag c = ends (then (of_kind c.args.reader.now.features c.args.reader.now c.in-Tag.is) c.in_ok-read_from-in-Tag.ensures)
