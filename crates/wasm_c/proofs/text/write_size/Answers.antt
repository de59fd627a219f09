use Rattle.std.proofs.Common.{◌++◌, Some, subst}
use Rattle.std.specs.Prelude.{codes}
use Rattle.std.specs.Option.{option_map}
use Rattle.wasm_operators.specs.below.declared.message.Message.TheVariants as message
use Rattle.wasm_operators.specs.below.MessageText.{message_text}
use Rattle.wasm_c.specs.Texts.{ReturnsText}
use Rattle.wasm_c.proofs.text.write_size.Goals as goal

pub returns-in-Some : goal.returns-in-Some
returns-in-Some c =
    let old = c.args.text.now in
    let end = c.write_two.result in
    let new = c.write_two.new.text in
    let text = subst (λ name. ReturnsText (Some (name ++ codes " size is out of bounds")) old end new) c.text.ensures c.write_two.ensures in
    subst (λ name. ReturnsText (option_map message_text (option_map message.SizeOutOfBounds name)) old end new) c.in-Some.ensures text
