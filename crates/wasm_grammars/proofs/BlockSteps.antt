-- The next `n` bytes are read as a block.
use Rattle.std.proofs.Common.{◌≡◌, ◌≤◌, ℕ, List, sym, arith}
use Rattle.std.specs.Borrow.{Bor}
use Rattle.wasm_below.specs.declared.error.Error.{Error}
use Rattle.wasm_below.specs.Source.{Reader, offset_of, end_of, HasRead, IsBlock, IsRefusal, EndsWithin}
use Rattle.wasm_below.proofs.Blocks.{short_refused}
use Rattle.wasm_grammars.specs.BlockLaws.{IsBytes, bytes_are_part}
use Rattle.wasm_grammars.specs.Blocks.{block}
use Rattle.wasm_grammars.specs.Grammar.{Grammar, bind}
use Rattle.wasm_grammars.specs.Parts.{never}
use Rattle.wasm_grammars.specs.Reading.{Fails}
use Rattle.wasm_grammars.proofs.Steps.{Comes, then, fails_first, part_fails}

module _ {X : Type 0} {s : ℕ} {g : Grammar X} {old : Reader} {n : ℕ} {q : List ℕ → Grammar X} {now : Reader} (c : Comes s g old (bind (block n) q) now) where
  pub block_read : (b : Bor (List ℕ)) {mid : Reader} → HasRead (IsBlock n) b now mid → Comes s g old (q b.now) mid
  block_read b (text, p, t) = then c (text, (sym p.0, p.1), t)

  pub block_missing : offset_of now ≤ end_of now → {new : Reader} {e : Error} → (new ≡ now) × IsRefusal (IsBlock n) e now × EndsWithin n e.message now e.offset →
      Fails g s e old
  block_missing within {new} {e} h =
      let short = short_refused (IsBytes n) n e now (λ text x q. q.1) (omega (arith, within)) h.2 in
      fails_first c (part_fails (IsBytes n) (EndsWithin n) never (bytes_are_part n) s e now new c.later (h.0, short, h.2))
