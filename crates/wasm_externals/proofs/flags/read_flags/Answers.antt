use Rattle.std.proofs.Common.{refl, ◌∙◌}
use Rattle.std.proofs.lemmas.Bool.{le-leb, lt-leb}
use Rattle.wasm_externals.specs.Flags.{flags}
use Rattle.wasm_grammars.proofs.Steps.{begins, then, passes, stops, begun, fails_at, ends, stays}
use Rattle.wasm_externals.proofs.flags.read_flags.Goals as goal

pub returns-in_err-byte : goal.returns-in_err-byte
returns-in_err-byte c = stays _ c.from_residual.ensures.1 (fails_at (begins (flags c.args.limit c.args.error) c.clone-ahead.ensures) c.in_err-byte.ensures)

pub returns-then-byte-limit : goal.returns-then-byte-limit
returns-then-byte-limit c =
    let byte = then (begins (flags c.args.limit c.args.error) c.clone-ahead.ensures) c.in_ok-byte.ensures in (
      refl,
      stops byte (lt-leb _ _ c.if-byte-limit.true) (λ e. cc e) (begun c.clone-ahead.ensures c.in_ok-byte.ensures) c.new.ensures.message
          (c.new.ensures.offset ∙ c.original_position-start.ensures),
    )

pub returns : goal.returns
returns c =
    let byte = then (begins (flags c.args.limit c.args.error) c.clone-ahead.ensures) c.in_ok-byte.ensures in
    ends (passes byte (le-leb _ _ c.if-byte-limit.false))
