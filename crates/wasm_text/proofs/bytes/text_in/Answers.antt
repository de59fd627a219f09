use Rattle.std.proofs.Common.{List, ℕ, Bor}
use Rattle.wasm_text.proofs.Tables.{text_at}
use Rattle.wasm_text.proofs.bytes.text_in.Goals as goal

pub returns : goal.returns
returns c = λ text same. text_at {X = Bor (List ℕ)} text (λ t. t.now) c.args.texts.now c.args.byte _ same c.ranges.byte.fits
