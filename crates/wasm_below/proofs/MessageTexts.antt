use Rattle.std.proofs.Common.{◌≡◌, ℕ, true, false, List, [], refl}
use Rattle.std.specs.Prelude.{◌<◌, ◌-◌, ◌^◌}
use Rattle.std.specs.Fmt.{digits, padded_integral, char_count, format_spec}
use Rattle.std.specs.Str.{bytes_eq}
use Rattle.std.proofs.lemmas.Bool.{agree_below_at}
use Rattle.std.proofs.lemmas.Slice.Eq.{bytes_eq-Decides}
use Rattle.wasm_below.specs.MessageText.{eight_digits}

-- What `{:08b}` writes.
abbrev pub zero_padded : ℕ → List ℕ
zero_padded n = padded_integral (format_spec 32 0 4 8 (2 ^ 64 - 1)) false [] (digits 2 false n)

pub zero_padded_byte : (n : ℕ) → n < 256 → zero_padded n ≡ eight_digits n
unfolding padded_integral digits char_count
zero_padded_byte n small =
    (bytes_eq-Decides (zero_padded n) (eight_digits n)).0
    (agree_below_at (λ k. bytes_eq (zero_padded k) (eight_digits k)) (λ k. true) 256 n refl small)
