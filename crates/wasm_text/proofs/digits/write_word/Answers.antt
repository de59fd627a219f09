use Rattle.std.proofs.lemmas.Result.{on_ok_weaker}
use Rattle.wasm_text.proofs.Pieces.{five_pieces}
use Rattle.wasm_text.proofs.digits.write_word.Goals as goal

pub returns : goal.returns
returns c = on_ok_weaker c.write_byte-4.result
    (λ last. five_pieces _ _ _ _ _ _ _ _ _ _ _ c.in_ok-push_str.ensures.bytes c.in_ok-write_byte.ensures c.in_ok-write_byte-2.ensures c.in_ok-write_byte-3.ensures last)
    c.write_byte-4.ensures
