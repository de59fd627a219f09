use Rattle.std.proofs.Common.{◌≡◌, ℕ, List, ◌++◌}
use Rattle.std.specs.Io.KnownBytes.{Appends}
use Rattle.wasm_rows.proofs.writing.write_text.Given as goal

abbrev pub invariant-loop-try : goal.invariant-loop-try
invariant-loop-try g l = (written : List ℕ) × (l.text ≡ written ++ l.left) × Appends (g.W.Write.contents l.fn.writer) (g.W.Write.contents l.writer) written
