use Rattle.std.proofs.Common.{◌++◌, Some, subst}
use Rattle.std.specs.Prelude.{codes}
use Rattle.wasm_operators.specs.below.MessageText.{hexadecimal}
use Rattle.wasm_c.specs.Texts.{ReturnsText}
use Rattle.wasm_c.proofs.Puts.{puts_both, puts_text}
use Rattle.wasm_c.proofs.text.write_version.Goals as goal

pub returns : goal.returns
returns c =
    let step-2 =
    puts_both (codes "0x") (hexadecimal c.args.version) c.put-second.result c.put-third.result c.put_hexadecimal.result c.put-second.new.text c.put-third.new.text c.put_hexadecimal.new.text c.put-third.ensures (c.put_hexadecimal.ensures.puts) in
    let step-1 =
    puts_both (c.hexadecimal_indent.result.now) ((codes "0x") ++ (hexadecimal c.args.version)) c.put-first.result c.put-second.result c.put_hexadecimal.result c.put-first.new.text c.put-second.new.text c.put_hexadecimal.new.text c.put-second.ensures (step-2) in
    let step-0 =
    puts_both (codes "unknown binary version: ") ((c.hexadecimal_indent.result.now) ++ ((codes "0x") ++ (hexadecimal c.args.version))) 0 c.put-first.result c.put_hexadecimal.result c.args.text.now c.put-first.new.text c.put_hexadecimal.new.text c.put-first.ensures (step-1) in
    let text = puts_text ((codes "unknown binary version: ") ++ ((c.hexadecimal_indent.result.now) ++ ((codes "0x") ++ (hexadecimal c.args.version)))) c.put_hexadecimal.result c.args.text.now c.put_hexadecimal.new.text step-0 in
    subst (λ indent. ReturnsText (Some (codes "unknown binary version: " ++ (indent ++ (codes "0x" ++ hexadecimal c.args.version)))) c.args.text.now c.put_hexadecimal.result c.put_hexadecimal.new.text) c.hexadecimal_indent.ensures text
