use Rattle.std.proofs.Common.{subst, arith}
use Rattle.wasm_externals.specs.Limits.{address, maximum, page_size, memory_type}
use Rattle.wasm_grammars.specs.Reading.{Fails}
use Rattle.wasm_grammars.proofs.Steps.{begins, then, read_by_features, fails_by_features, fails_in, fails_first, ends, stays}
use Rattle.wasm_externals.proofs.memory_type.MemoryTypeRead.read_from.Goals as goal

pub returns-in_err-flags : goal.returns-in_err-flags
returns-in_err-flags c = stays _ c.from_residual.ensures.1 (fails_in (begins (memory_type c.args.reader.now.features) c.clone-ahead.ensures) c.in_err-flags.ensures.1)

pub returns-in_err-initial : goal.returns-in_err-initial
returns-in_err-initial c =
    let flags = then (begins (memory_type c.args.reader.now.features) c.clone-ahead.ensures) c.in_ok-flags.ensures in
    stays _ c.from_residual-in_err-initial.ensures.1 (fails_in flags (fails_by_features address flags c.in_err-initial.ensures.1))

pub returns-in_err-maximum : goal.returns-in_err-maximum
returns-in_err-maximum c =
    let flags = then (begins (memory_type c.args.reader.now.features) c.clone-ahead.ensures) c.in_ok-flags.ensures in
    let initial = then flags (read_by_features address flags _ c.in_ok-initial.ensures) in
    stays _ c.from_residual-in_err-maximum.ensures.1 (fails_in initial (fails_by_features (maximum c.in_ok-flags.flags) initial c.in_err-maximum.ensures.1))

pub read_page_size-requires : goal.read_page_size-requires
read_page_size-requires c =
    let flags = then (begins (memory_type c.args.reader.now.features) c.clone-ahead.ensures) c.in_ok-flags.ensures in
    let initial = then flags (read_by_features address flags _ c.in_ok-initial.ensures) in
    let most = then initial (read_by_features (maximum c.in_ok-flags.flags) initial _ c.in_ok-maximum.ensures) in
    let later = most.later in
    omega (arith, later, c.original_position-start.ensures)

pub returns-in_err-page_size_log2 : goal.returns-in_err-page_size_log2
returns-in_err-page_size_log2 c =
    let flags = then (begins (memory_type c.args.reader.now.features) c.clone-ahead.ensures) c.in_ok-flags.ensures in
    let initial = then flags (read_by_features address flags _ c.in_ok-initial.ensures) in
    let most = then initial (read_by_features (maximum c.in_ok-flags.flags) initial _ c.in_ok-maximum.ensures) in
    let error = subst (λ s. Fails (page_size c.in_ok-flags.flags) s c.in_err-page_size_log2.field-0.0 c.read_maximum.new.reader) c.original_position-start.ensures
    c.in_err-page_size_log2.ensures in
    stays _ c.from_residual-in_err-page_size_log2.ensures.1 (fails_first most error)

pub returns : goal.returns
returns c =
    let flags = then (begins (memory_type c.args.reader.now.features) c.clone-ahead.ensures) c.in_ok-flags.ensures in
    let initial = then flags (read_by_features address flags _ c.in_ok-initial.ensures) in
    let most = then initial (read_by_features (maximum c.in_ok-flags.flags) initial _ c.in_ok-maximum.ensures) in
    ends (then most c.in_ok-page_size_log2.ensures)
