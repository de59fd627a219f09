-- Writing bytes after their number.
use Rattle.std.proofs.Common.{◌≡◌, ℕ, ◌≤◌, ◌^◌, List, length, refl, sym, subst, ap, ◌∙◌, arith}
use Rattle.wasm_below.proofs.Numbers.{unsigned_below}
use Rattle.wasm_grammars.specs.Blocks.{block, sized}
use Rattle.wasm_grammars.specs.Parts.{u32}
use Rattle.wasm_write_grammars.specs.Writing.{Writes, HasNone}
use Rattle.wasm_write_grammars.proofs.Owing.{Only, Owes, owes, wrote}

pub only_size : (bytes : List ℕ) → Only u32 block bytes (length bytes)
only_size bytes z place at first after p (same, size) = sym size ∙ ap length same

pub sized_starts : (bytes old : List ℕ) {mid : List ℕ} → Writes u32 (length bytes) old mid → Owes sized bytes old (block (length bytes)) mid
sized_starts bytes old w = wrote (owes sized bytes old) (length bytes) (only_size bytes) w

pub sized_lacks : (bytes : List ℕ) → 2 ^ 32 ≤ length bytes → HasNone sized bytes
sized_lacks bytes many place text (first, after, n, e, p, (same, size)) =
    let below = unsigned_below first 32 n p in
    let is : n ≡ length bytes = sym size ∙ ap length same in
    omega (arith, below, is, many)
