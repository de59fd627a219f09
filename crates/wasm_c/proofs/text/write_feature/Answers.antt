use Rattle.std.proofs.Common.{◌++◌, Some, subst}
use Rattle.std.specs.Prelude.{codes}
use Rattle.std.specs.Option.{option_map}
use Rattle.wasm_operators.specs.below.declared.message.Message.TheVariants as message
use Rattle.wasm_operators.specs.below.MessageText.{message_text}
use Rattle.wasm_c.specs.Texts.{ReturnsText}
use Rattle.wasm_c.proofs.text.write_feature.Goals as goal

pub returns-in-Some : goal.returns-in-Some
returns-in-Some c =
    let old = c.args.text.now in
    let end = c.write_three.result in
    let new = c.write_three.new.text in
    let text =
    subst (λ name. ReturnsText (Some (codes "legacy_exceptions feature required for " ++ (name ++ codes " instruction"))) old end new) c.text.ensures
    c.write_three.ensures in
    subst (λ name. ReturnsText (option_map message_text (option_map message.FeatureRequired name)) old end new) c.in-Some.ensures text
