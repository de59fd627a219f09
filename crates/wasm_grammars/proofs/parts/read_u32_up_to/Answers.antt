use Rattle.std.proofs.Common.{◌-◌, leb, refl, ap, ◌∙◌, arith}
use Rattle.std.proofs.lemmas.Bool.{le-leb, lt-leb}
use Rattle.wasm_below.proofs.Steps.{unsigned_some}
use Rattle.wasm_grammars.specs.Parts.{u32_where}
use Rattle.wasm_grammars.proofs.Steps.{begins, then, yes, fails_at, stops_last, last_byte, inside, ends, stays}
use Rattle.wasm_grammars.proofs.parts.read_u32_up_to.Goals as goal

pub returns-in_err-number : goal.returns-in_err-number
returns-in_err-number c =
    stays _ c.from_residual.ensures.1 (fails_at (begins (u32_where (λ n. leb n c.args.limit) c.args.above) c.clone-ahead.ensures) c.in_err-number.ensures)

pub returns-then-number-limit : goal.returns-then-number-limit
returns-then-number-limit c =
    let begun = begins (u32_where (λ n. leb n c.args.limit) c.args.above) c.clone-ahead.ensures in
    let (text, p, t) = c.in_ok-number.ensures in
    let some = unsigned_some 32 text c.in_ok-number.number p in
    let within = inside _ _ text t some in
    let at = c.new.ensures.offset ∙ ap (λ k. k - 1) c.original_position.ensures in (
      refl,
      stops_last (then begun c.in_ok-number.ensures) (lt-leb _ _ c.if-number-limit.true) c.requires (last_byte t begun.later some) (omega (arith, within))
          c.new.ensures.message at,
    )

pub returns : goal.returns
returns c =
    let number = then (begins (u32_where (λ n. leb n c.args.limit) c.args.above) c.clone-ahead.ensures) c.in_ok-number.ensures in
    ends (yes number (le-leb _ _ c.if-number-limit.false))
