use Rattle.std.proofs.Common.{[], subst, ◌∙◌}
use Rattle.wasm_operators.specs.below.Source.{reader_of}
use Rattle.uses.specs.Heights.{HaveArities}
use Rattle.uses.proofs.HeightsAlong.{arities_along}
use Rattle.uses.proofs.heights.heights_of_body.Goals as goal

pub returns : goal.returns
returns c = λ ok.
    let opens = rw (c.new-body.ensures ∙ c.new_features.ensures) at c.in_ok-get_operators_reader.ensures.opens in
    let along = (c.in_ok-visit_all_simd.ensures.rest [] c.in_ok-get_operators_reader.ensures.read_so_far).tree in
    let whole = c.opened_bodies.ensures.whole (reader_of c.args.features 0 c.args.bytes.now) _ _ along.0 opens along.2 in
    let all = arities_along along.0 c.open.new.self c.visit_all_simd.new.v ok along.1 in
    let there = subst (λ types. HaveArities types c.open.new.self.context.functions.now along.0) c.open.ensures.types all in (
      whole.0,
      along.0,
      whole.1,
      subst (λ functions. HaveArities c.args.types.now functions along.0) c.open.ensures.functions there,
    )
