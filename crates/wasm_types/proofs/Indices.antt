-- The tests of a continuation's index.
use Rattle.std.proofs.Common.{◌≡◌, ℤ, pos, negsuc, true, false, refl, arith}
use Rattle.std.proofs.lemmas.Bool.{lt-leb}
use Rattle.std.proofs.lemmas.Int.{ints}
use Rattle.std.specs.Prelude.{◌<ℤ◌, nat_abs, leb}
use Rattle.wasm_below.specs.Reference.{max_type_index}
use Rattle.wasm_types.specs.Types.{is_natural}

pub negative : (n : ℤ) → n <ℤ pos 0 → is_natural n ≡ false
negative (pos k) h = absurd (omega (arith, ints, h))
negative (negsuc k) h = refl

pub above : (n : ℤ) → pos max_type_index <ℤ n → (is_natural n ≡ true) × (leb (nat_abs n) max_type_index ≡ false)
above (pos k) h = (refl, lt-leb k max_type_index (omega (arith, ints, h)))
above (negsuc k) h = absurd (omega (arith, ints, h))
