use Rattle.wasm_externals.specs.Limits.{address, maximum, table_type}
use Rattle.wasm_grammars.proofs.Steps.{begins, then, read_by_features, fails_by_features, fails_at, fails_in, ends, stays}
use Rattle.wasm_externals.proofs.table_type.TableTypeRead.read_from.Goals as goal

pub returns-in_err-element_type : goal.returns-in_err-element_type
returns-in_err-element_type c =
    stays _ c.from_residual.ensures.1 (fails_at (begins (table_type c.args.reader.now.features) c.clone-ahead.ensures) c.in_err-element_type.ensures)

pub returns-in_err-flags : goal.returns-in_err-flags
returns-in_err-flags c =
    let element = then (begins (table_type c.args.reader.now.features) c.clone-ahead.ensures) c.in_ok-element_type.ensures in
    stays _ c.from_residual-in_err-flags.ensures.1 (fails_in element c.in_err-flags.ensures.1)

pub returns-in_err-initial : goal.returns-in_err-initial
returns-in_err-initial c =
    let element = then (begins (table_type c.args.reader.now.features) c.clone-ahead.ensures) c.in_ok-element_type.ensures in
    let flags = then element c.in_ok-flags.ensures in
    stays _ c.from_residual-in_err-initial.ensures.1 (fails_in flags (fails_by_features address flags c.in_err-initial.ensures.1))

pub returns-in_err-maximum : goal.returns-in_err-maximum
returns-in_err-maximum c =
    let element = then (begins (table_type c.args.reader.now.features) c.clone-ahead.ensures) c.in_ok-element_type.ensures in
    let flags = then element c.in_ok-flags.ensures in
    let initial = then flags (read_by_features address flags _ c.in_ok-initial.ensures) in
    stays _ c.from_residual-in_err-maximum.ensures.1 (fails_in initial (fails_by_features (maximum c.in_ok-flags.flags) initial c.in_err-maximum.ensures.1))

pub returns : goal.returns
returns c =
    let element = then (begins (table_type c.args.reader.now.features) c.clone-ahead.ensures) c.in_ok-element_type.ensures in
    let flags = then element c.in_ok-flags.ensures in
    let initial = then flags (read_by_features address flags _ c.in_ok-initial.ensures) in
    ends (then initial (read_by_features (maximum c.in_ok-flags.flags) initial _ c.in_ok-maximum.ensures))
