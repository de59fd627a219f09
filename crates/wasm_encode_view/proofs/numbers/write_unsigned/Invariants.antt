use Rattle.std.proofs.Common.{◌≡◌, ◌++◌, ◌<◌, ◌-◌, ◌+◌, ◌≤◌, length}
use Rattle.wasm_encode_numbers.specs.Shortest.{unsigned_septets, unsigned_bytes}
use Rattle.wasm_encode_numbers.proofs.Unsigned.{limit}
use Rattle.wasm_encode_view.proofs.numbers.write_unsigned.Given as goal

abbrev pub invariant-loop-septet : goal.invariant-loop-septet
invariant-loop-septet l = record {
  written : l.out.items ++ unsigned_septets (9 - l._septet) l.rest ≡ l.fn.out.items ++ unsigned_bytes l.value;
  small : l.rest < limit (9 - l._septet);
  len : length l.out.items ≤ length l.fn.out.items + l._septet;
}
