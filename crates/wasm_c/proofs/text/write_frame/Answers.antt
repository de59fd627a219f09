use Rattle.std.proofs.Common.{◌++◌}
use Rattle.std.specs.Prelude.{codes}
use Rattle.wasm_c.proofs.Puts.{puts_both, puts_text}
use Rattle.wasm_c.proofs.text.write_frame.Goals as goal

pub returns : goal.returns
returns c =
    let four =
    puts_both (c.args.frame.now) (codes "` block") c.put-third.result c.put-fourth.result c.put.result c.put-third.new.text c.put-fourth.new.text c.put.new.text c.put-fourth.ensures (c.put.ensures) in
    let three =
    puts_both (codes "` found outside `") ((c.args.frame.now) ++ (codes "` block")) c.put-second.result c.put-third.result c.put.result c.put-second.new.text c.put-third.new.text c.put.new.text c.put-third.ensures (four) in
    let two =
    puts_both (c.args.instruction.now) ((codes "` found outside `") ++ ((c.args.frame.now) ++ (codes "` block"))) c.put-first.result c.put-second.result c.put.result c.put-first.new.text c.put-second.new.text c.put.new.text c.put-second.ensures (three) in
    let one =
    puts_both (codes "`") ((c.args.instruction.now) ++ ((codes "` found outside `") ++ ((c.args.frame.now) ++ (codes "` block")))) 0 c.put-first.result c.put.result c.args.text.now c.put-first.new.text c.put.new.text c.put-first.ensures (two) in
    puts_text ((codes "`") ++ ((c.args.instruction.now) ++ ((codes "` found outside `") ++ ((c.args.frame.now) ++ (codes "` block"))))) c.put.result c.args.text.now c.put.new.text one
