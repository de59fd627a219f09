use Rattle.std.proofs.Common.{◌++◌}
use Rattle.std.specs.Prelude.{codes}
use Rattle.wasm_operators.specs.below.MessageText.{hexadecimal}
use Rattle.wasm_c.proofs.Puts.{puts_both, puts_text}
use Rattle.wasm_c.proofs.text.write_subopcode.Goals as goal

pub returns : goal.returns
returns c =
    let three =
    puts_both (codes " subopcode: 0x") (hexadecimal c.args.code) c.put_hexadecimal-second.result c.put-third.result c.put_hexadecimal.result c.put_hexadecimal-second.new.text c.put-third.new.text c.put_hexadecimal.new.text c.put-third.ensures (c.put_hexadecimal.ensures.puts) in
    let two =
    puts_both (hexadecimal c.args.prefix) ((codes " subopcode: 0x") ++ (hexadecimal c.args.code)) c.put-first.result c.put_hexadecimal-second.result c.put_hexadecimal.result c.put-first.new.text c.put_hexadecimal-second.new.text c.put_hexadecimal.new.text c.put_hexadecimal-second.ensures.puts (three) in
    let one =
    puts_both (codes "unknown 0x") ((hexadecimal c.args.prefix) ++ ((codes " subopcode: 0x") ++ (hexadecimal c.args.code))) 0 c.put-first.result c.put_hexadecimal.result c.args.text.now c.put-first.new.text c.put_hexadecimal.new.text c.put-first.ensures (two) in
    puts_text ((codes "unknown 0x") ++ ((hexadecimal c.args.prefix) ++ ((codes " subopcode: 0x") ++ (hexadecimal c.args.code)))) c.put_hexadecimal.result c.args.text.now c.put_hexadecimal.new.text one
