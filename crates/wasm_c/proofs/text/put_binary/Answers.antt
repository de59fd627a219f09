use Rattle.std.proofs.Common.{◌+◌, ◌/◌, ◌%◌, ◌++◌, ◌∷◌, []}
use Rattle.wasm_c.proofs.Puts.{puts_both}
use Rattle.wasm_c.proofs.text.put_binary.Goals as goal

pub returns : goal.returns
returns c =
    let seven =
    puts_both ((48 + c.args.value / 2 % 2) ∷ []) ((48 + c.args.value % 2) ∷ []) c.put_bit-second.result c.put_bit-first.result c.put_bit.result c.put_bit-second.new.text c.put_bit-first.new.text c.put_bit.new.text c.put_bit-first.ensures (c.put_bit.ensures) in
    let six =
    puts_both ((48 + c.args.value / 4 % 2) ∷ []) (((48 + c.args.value / 2 % 2) ∷ []) ++ ((48 + c.args.value % 2) ∷ [])) c.put_bit-third.result c.put_bit-second.result c.put_bit.result c.put_bit-third.new.text c.put_bit-second.new.text c.put_bit.new.text c.put_bit-second.ensures (seven) in
    let five =
    puts_both ((48 + c.args.value / 8 % 2) ∷ []) (((48 + c.args.value / 4 % 2) ∷ []) ++ (((48 + c.args.value / 2 % 2) ∷ []) ++ ((48 + c.args.value % 2) ∷ []))) c.put_bit-fourth.result c.put_bit-third.result c.put_bit.result c.put_bit-fourth.new.text c.put_bit-third.new.text c.put_bit.new.text c.put_bit-third.ensures (six) in
    let four =
    puts_both ((48 + c.args.value / 16 % 2) ∷ []) (((48 + c.args.value / 8 % 2) ∷ []) ++ (((48 + c.args.value / 4 % 2) ∷ []) ++ (((48 + c.args.value / 2 % 2) ∷ []) ++ ((48 + c.args.value % 2) ∷ [])))) c.put_bit-fifth.result c.put_bit-fourth.result c.put_bit.result c.put_bit-fifth.new.text c.put_bit-fourth.new.text c.put_bit.new.text c.put_bit-fourth.ensures (five) in
    let three =
    puts_both ((48 + c.args.value / 32 % 2) ∷ []) (((48 + c.args.value / 16 % 2) ∷ []) ++ (((48 + c.args.value / 8 % 2) ∷ []) ++ (((48 + c.args.value / 4 % 2) ∷ []) ++ (((48 + c.args.value / 2 % 2) ∷ []) ++ ((48 + c.args.value % 2) ∷ []))))) c.put_bit-sixth.result c.put_bit-fifth.result c.put_bit.result c.put_bit-sixth.new.text c.put_bit-fifth.new.text c.put_bit.new.text c.put_bit-fifth.ensures (four) in
    let two =
    puts_both ((48 + c.args.value / 64 % 2) ∷ []) (((48 + c.args.value / 32 % 2) ∷ []) ++ (((48 + c.args.value / 16 % 2) ∷ []) ++ (((48 + c.args.value / 8 % 2) ∷ []) ++ (((48 + c.args.value / 4 % 2) ∷ []) ++ (((48 + c.args.value / 2 % 2) ∷ []) ++ ((48 + c.args.value % 2) ∷ [])))))) c.put_bit-seventh.result c.put_bit-sixth.result c.put_bit.result c.put_bit-seventh.new.text c.put_bit-sixth.new.text c.put_bit.new.text c.put_bit-sixth.ensures (three) in
    let one =
    puts_both ((48 + c.args.value / 128 % 2) ∷ []) (((48 + c.args.value / 64 % 2) ∷ []) ++ (((48 + c.args.value / 32 % 2) ∷ []) ++ (((48 + c.args.value / 16 % 2) ∷ []) ++ (((48 + c.args.value / 8 % 2) ∷ []) ++ (((48 + c.args.value / 4 % 2) ∷ []) ++ (((48 + c.args.value / 2 % 2) ∷ []) ++ ((48 + c.args.value % 2) ∷ []))))))) c.args.at c.put_bit-seventh.result c.put_bit.result c.args.text.now c.put_bit-seventh.new.text c.put_bit.new.text c.put_bit-seventh.ensures (two) in
    one
