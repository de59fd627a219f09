use Rattle.std.proofs.Common.{◌≡◌, ◌++◌, ◌<◌, ◌-◌, ◌+◌, ◌≤◌, length}
use Rattle.wasm_encode_numbers.specs.Shortest.{signed_septets}
use Rattle.wasm_encode_numbers.proofs.Signed.{half_limit}
use Rattle.wasm_encode_view.proofs.numbers.write_with_sign.Given as goal

abbrev pub invariant-loop-septet : goal.invariant-loop-septet
invariant-loop-septet l = record {
  written : l.out.items ++ signed_septets l.negative (9 - l._septet) l.rest ≡ l.fn.out.items ++ signed_septets l.negative 9 l.distance;
  small : l.rest < half_limit (9 - l._septet);
  len : length l.out.items ≤ length l.fn.out.items + l._septet;
}
