use Rattle.std.proofs.Common.{◌++◌}
use Rattle.std.specs.Prelude.{codes}
use Rattle.wasm_operators.specs.below.MessageText.{eight_digits}
use Rattle.wasm_c.proofs.Puts.{puts_both, puts_text}
use Rattle.wasm_c.proofs.text.write_flags.Goals as goal

pub returns : goal.returns
returns c =
    let one =
    puts_both (codes "invalid cast flags: ") (eight_digits c.args.value) 0 c.put-at.result c.put_binary.result c.args.text.now c.put-at.new.text c.put_binary.new.text c.put-at.ensures (c.put_binary.ensures) in
    puts_text ((codes "invalid cast flags: ") ++ (eight_digits c.args.value)) c.put_binary.result c.args.text.now c.put_binary.new.text one
