use Rattle.std.proofs.Common.{◌≡◌, ◌++◌, ◌^◌, ◌<◌, ◌-◌, string_bytes}
use Rattle.wasm_text.specs.Floats.{fraction_digits}
use Rattle.wasm_text.proofs.floats.write_digits.Given as goal

abbrev pub invariant-loop-place : goal.invariant-loop-place
invariant-loop-place l = (string_bytes l.out ++ fraction_digits (13 - l._place) l.left ≡ string_bytes l.fn.out ++ fraction_digits 13 l.fraction) × (l.left < 2 ^ 52)
