use Rattle.std.proofs.Common.{◌≤◌, ℕ, ◌++◌, List, length, refl, ap, ◌∙◌, arith}
use Rattle.std.specs.Borrow.{Bor}
use Rattle.wasm_below.specs.declared.error.Error.{Error}
use Rattle.wasm_below.specs.Number.{EncodesUnsigned}
use Rattle.wasm_below.specs.FromReader.{IsReaderOf, EncodesReader, ReaderFault}
use Rattle.wasm_below.specs.Ahead.{Fails}
use Rattle.wasm_below.specs.Source.{Reader, reader_of, HasRead, IsBlock, U32Fault, EndsWithin}
use Rattle.wasm_below.proofs.Ahead.{first_fails, second_fails}
use Rattle.wasm_below.proofs.Blocks.{short_refused}
use Rattle.wasm_below.proofs.TakesLemmas.{takes_then}
use Rattle.wasm_below.proofs.Steps.{number_prefix_code}

pub part_read : (old mid new : Reader) (n : ℕ) (block : Bor (List ℕ)) (offset : ℕ) → HasRead (EncodesUnsigned 32) n old mid →
    HasRead (IsBlock n) block mid new → HasRead (EncodesReader old.features) (reader_of new.features offset block.now) old new
part_read old mid new n block offset (t1, p, k1) (t2, q, k2) = (
  t1 ++ t2,
  (t1, t2, n, refl, p, (ap (λ (r : Reader). r.features) (k2.moved) ∙ ap (λ (r : Reader). r.features) k1.moved, q.0, refl, q.1)),
  takes_then old mid new t1 t2 k1 k2,
)

pub part_missing : {e : Error} {old : Reader} → Fails (EncodesUnsigned 32) U32Fault e old → Fails (EncodesReader old.features) ReaderFault e old
part_missing {e} {old} = first_fails (EncodesUnsigned 32) (IsReaderOf old.features) U32Fault EndsWithin

pub part_refused : {old mid : Reader} {n : ℕ} {e : Error} → HasRead (EncodesUnsigned 32) n old mid → Fails (IsBlock n) (EndsWithin n) e mid →
    Fails (EncodesReader old.features) ReaderFault e old
part_refused {old} {mid} {n} {e} first (h, f) =
    let le : mid.position ≤ length mid.buffer = omega (arith, h.ahead) in
    second_fails (EncodesUnsigned 32) (IsReaderOf old.features) U32Fault EndsWithin (number_prefix_code 32) first
    (short_refused (IsReaderOf old.features n) n e mid (λ text x p. p.3) le f, f)
