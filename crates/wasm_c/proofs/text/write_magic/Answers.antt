use Rattle.std.proofs.Common.{◌++◌, ◌/◌, ◌%◌}
use Rattle.std.specs.Prelude.{codes}
use Rattle.wasm_operators.specs.below.MessageText.{hexadecimal}
use Rattle.wasm_c.proofs.Puts.{puts_both, puts_text}
use Rattle.wasm_c.proofs.text.write_magic.Goals as goal

pub returns : goal.returns
returns c =
    let step-7 =
    puts_both (hexadecimal (c.args.word / 16777216)) (codes ",\n]") c.put-seventh.result c.put_hexadecimal-eighth.result c.put.result c.put-seventh.new.text c.put_hexadecimal-eighth.new.text c.put.new.text c.put_hexadecimal-eighth.ensures.puts (c.put.ensures) in
    let step-6 =
    puts_both (codes ",\n    0x") ((hexadecimal (c.args.word / 16777216)) ++ (codes ",\n]")) c.put_hexadecimal-sixth.result c.put-seventh.result c.put.result c.put_hexadecimal-sixth.new.text c.put-seventh.new.text c.put.new.text c.put-seventh.ensures (step-7) in
    let step-5 =
    puts_both (hexadecimal ((c.args.word / 65536) % 256)) ((codes ",\n    0x") ++ ((hexadecimal (c.args.word / 16777216)) ++ (codes ",\n]"))) c.put-fifth.result c.put_hexadecimal-sixth.result c.put.result c.put-fifth.new.text c.put_hexadecimal-sixth.new.text c.put.new.text c.put_hexadecimal-sixth.ensures.puts (step-6) in
    let step-4 =
    puts_both (codes ",\n    0x") ((hexadecimal ((c.args.word / 65536) % 256)) ++ ((codes ",\n    0x") ++ ((hexadecimal (c.args.word / 16777216)) ++ (codes ",\n]")))) c.put_hexadecimal-fourth.result c.put-fifth.result c.put.result c.put_hexadecimal-fourth.new.text c.put-fifth.new.text c.put.new.text c.put-fifth.ensures (step-5) in
    let step-3 =
    puts_both (hexadecimal ((c.args.word / 256) % 256)) ((codes ",\n    0x") ++ ((hexadecimal ((c.args.word / 65536) % 256)) ++ ((codes ",\n    0x") ++ ((hexadecimal (c.args.word / 16777216)) ++ (codes ",\n]"))))) c.put-third.result c.put_hexadecimal-fourth.result c.put.result c.put-third.new.text c.put_hexadecimal-fourth.new.text c.put.new.text c.put_hexadecimal-fourth.ensures.puts (step-4) in
    let step-2 =
    puts_both (codes ",\n    0x") ((hexadecimal ((c.args.word / 256) % 256)) ++ ((codes ",\n    0x") ++ ((hexadecimal ((c.args.word / 65536) % 256)) ++ ((codes ",\n    0x") ++ ((hexadecimal (c.args.word / 16777216)) ++ (codes ",\n]")))))) c.put_hexadecimal-second.result c.put-third.result c.put.result c.put_hexadecimal-second.new.text c.put-third.new.text c.put.new.text c.put-third.ensures (step-3) in
    let step-1 =
    puts_both (hexadecimal (c.args.word % 256)) ((codes ",\n    0x") ++ ((hexadecimal ((c.args.word / 256) % 256)) ++ ((codes ",\n    0x") ++ ((hexadecimal ((c.args.word / 65536) % 256)) ++ ((codes ",\n    0x") ++ ((hexadecimal (c.args.word / 16777216)) ++ (codes ",\n]"))))))) c.put-first.result c.put_hexadecimal-second.result c.put.result c.put-first.new.text c.put_hexadecimal-second.new.text c.put.new.text c.put_hexadecimal-second.ensures.puts (step-2) in
    let step-0 =
    puts_both (codes "magic header not detected: bad magic number - expected=[\n    0x0,\n    0x61,\n    0x73,\n    0x6d,\n] actual=[\n    0x") ((hexadecimal (c.args.word % 256)) ++ ((codes ",\n    0x") ++ ((hexadecimal ((c.args.word / 256) % 256)) ++ ((codes ",\n    0x") ++ ((hexadecimal ((c.args.word / 65536) % 256)) ++ ((codes ",\n    0x") ++ ((hexadecimal (c.args.word / 16777216)) ++ (codes ",\n]")))))))) 0 c.put-first.result c.put.result c.args.text.now c.put-first.new.text c.put.new.text c.put-first.ensures (step-1) in
    puts_text ((codes "magic header not detected: bad magic number - expected=[\n    0x0,\n    0x61,\n    0x73,\n    0x6d,\n] actual=[\n    0x") ++ ((hexadecimal (c.args.word % 256)) ++ ((codes ",\n    0x") ++ ((hexadecimal ((c.args.word / 256) % 256)) ++ ((codes ",\n    0x") ++ ((hexadecimal ((c.args.word / 65536) % 256)) ++ ((codes ",\n    0x") ++ ((hexadecimal (c.args.word / 16777216)) ++ (codes ",\n]"))))))))) c.put.result c.args.text.now c.put.new.text step-0
