use Rattle.std.proofs.Common.{◌≡◌, ◌-◌, ◌++◌, [], length, take, sym, subst, ap, ◌∙◌}
use Rattle.wasm_below.specs.Source.{source_of}
use Rattle.wasm_operators.specs.Expression.{EncodesExpression}
use Rattle.wasm_constant_texts.specs.ConstantTexts.{constant_text, number_of, without_end}
use Rattle.wasm_constant_texts.proofs.constant.ListedConstantConstantDetails.show.Goals as goal

pub returns : goal.returns
returns c =
    let along = (c.in-Ok.ensures.rest [] c.get_operators_reader-operators.ensures.read_so_far).tree in
    let all = along.1 ∙ ap (λ z. z ++ along.0) c.new-placed.ensures.items in
    let last : c.saturating_sub-last.result ≡ length along.0 - 1 = c.saturating_sub-last.ensures ∙ ap (λ n. n - 1) (c.len.ensures ∙ sym c.as_slice.ensures.len ∙ ap length (c.as_slice.ensures.value ∙ all)) in
    let left : take c.saturating_sub-last.result c.as_slice.result.now ≡ without_end along.0 =
    ap (λ n. take n c.as_slice.result.now) last ∙ ap (λ z. take (length along.0 - 1) z) (c.as_slice.ensures.value ∙ all) in (
      along.0,
      subst (λ r. EncodesExpression (source_of r) along.0) (c.get_operators_reader-operators.ensures.reader ∙ c.expression.ensures ∙ c.self.view_is) along.2.encodes,
      c.in_ok-push_constant.ensures ∙ ap (λ z. z ++ constant_text c.args.names.now c.args.usage (take c.saturating_sub-last.result c.as_slice.result.now)) c.new-text.ensures.bytes ∙
          ap (λ z. constant_text c.args.names.now c.args.usage z) left,
      c.number_of.ensures ∙ ap number_of left,
    )
