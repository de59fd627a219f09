use Rattle.std.proofs.lemmas.Result.{on_ok_weaker}
use Rattle.wasm_text.proofs.Pieces.{four_pieces}
use Rattle.wasm_text.proofs.digits.write_words.Goals as goal

pub returns : goal.returns
returns c = on_ok_weaker c.write_word-4.result
    (λ last. four_pieces _ _ _ _ _ _ _ _ _ c.in_ok-write_word.ensures c.in_ok-write_word-2.ensures c.in_ok-write_word-3.ensures last)
    c.write_word-4.ensures
