use Rattle.std.proofs.Common.{◌++◌}
use Rattle.std.specs.Prelude.{codes}
use Rattle.std.specs.Fmt.{decimal}
use Rattle.wasm_c.proofs.Puts.{puts_both, puts_text}
use Rattle.wasm_c.proofs.text.write_decimal_ordering.Goals as goal

pub returns : goal.returns
returns c =
    let one =
    puts_both (codes "invalid atomic consistency ordering ") (decimal c.args.value) 0 c.put-at.result c.put_decimal.result c.args.text.now c.put-at.new.text c.put_decimal.new.text c.put-at.ensures (c.put_decimal.ensures.puts) in
    puts_text ((codes "invalid atomic consistency ordering ") ++ (decimal c.args.value)) c.put_decimal.result c.args.text.now c.put_decimal.new.text one
