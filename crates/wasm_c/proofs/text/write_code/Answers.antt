use Rattle.std.proofs.Common.{◌++◌}
use Rattle.wasm_operators.specs.below.MessageText.{hexadecimal}
use Rattle.wasm_c.proofs.Puts.{puts_both, puts_text}
use Rattle.wasm_c.proofs.text.write_code.Goals as goal

pub returns : goal.returns
returns c =
    puts_text (c.args.first.now ++ hexadecimal c.args.code) c.put_hexadecimal.result c.args.text.now c.put_hexadecimal.new.text
    (puts_both c.args.first.now (hexadecimal c.args.code) 0 c.put-at.result c.put_hexadecimal.result c.args.text.now c.put-at.new.text
    c.put_hexadecimal.new.text c.put-at.ensures c.put_hexadecimal.ensures.puts)
