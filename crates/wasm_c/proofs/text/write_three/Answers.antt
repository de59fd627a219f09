use Rattle.std.proofs.Common.{◌++◌}
use Rattle.wasm_c.proofs.Puts.{puts_both, puts_text}
use Rattle.wasm_c.proofs.text.write_three.Goals as goal

pub returns : goal.returns
returns c =
    let after = puts_both c.args.second.now c.args.third.now c.put-at.result c.put-after.result c.put.result c.put-at.new.text c.put-after.new.text
    c.put.new.text c.put-after.ensures c.put.ensures in
    puts_text (c.args.first.now ++ (c.args.second.now ++ c.args.third.now)) c.put.result c.args.text.now c.put.new.text
    (puts_both c.args.first.now (c.args.second.now ++ c.args.third.now) 0 c.put-at.result c.put.result c.args.text.now c.put-at.new.text c.put.new.text
    c.put-at.ensures after)
