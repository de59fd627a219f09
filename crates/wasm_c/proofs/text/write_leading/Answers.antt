use Rattle.std.proofs.Common.{◌++◌}
use Rattle.std.specs.Prelude.{codes}
use Rattle.wasm_operators.specs.below.MessageText.{hexadecimal}
use Rattle.wasm_c.proofs.Puts.{puts_both, puts_text}
use Rattle.wasm_c.proofs.text.write_leading.Goals as goal

pub returns : goal.returns
returns c =
    let three =
    puts_both (codes ") for ") (c.args.name.now) c.put_hexadecimal-second.result c.put-third.result c.put.result c.put_hexadecimal-second.new.text c.put-third.new.text c.put.new.text c.put-third.ensures (c.put.ensures) in
    let two =
    puts_both (hexadecimal c.args.value) ((codes ") for ") ++ (c.args.name.now)) c.put-first.result c.put_hexadecimal-second.result c.put.result c.put-first.new.text c.put_hexadecimal-second.new.text c.put.new.text c.put_hexadecimal-second.ensures.puts (three) in
    let one =
    puts_both (codes "invalid leading byte (0x") ((hexadecimal c.args.value) ++ ((codes ") for ") ++ (c.args.name.now))) 0 c.put-first.result c.put.result c.args.text.now c.put-first.new.text c.put.new.text c.put-first.ensures (two) in
    puts_text ((codes "invalid leading byte (0x") ++ ((hexadecimal c.args.value) ++ ((codes ") for ") ++ (c.args.name.now)))) c.put.result c.args.text.now c.put.new.text one
