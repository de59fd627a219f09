use Rattle.std.proofs.Common.{◌+◌, ◌*◌, ◌-◌, ◌≤◌, length, take}
use Rattle.std.specs.Vec.{vec_len, vec_capacity}
use Rattle.wasm_imm.specs.Lists.{EncodesEach}
use Rattle.wasm_operators.specs.Locals.{EncodesDeclaration}
use Rattle.wasm_encode_numbers.specs.Appended.{Appends}
use Rattle.wasm_encode.proofs.body.write_locals.Given as goal

abbrev pub invariant-loop-number : goal.invariant-loop-number
invariant-loop-number l = record {
  each : Appends (EncodesEach EncodesDeclaration) (take l.number-index l.declarations) l.initial.out.items l.out.items;
  space : vec_len l.out + 22 * (length l.declarations - l.number-index) ≤ vec_capacity l.out;
  capacity : vec_capacity l.fn.out ≤ vec_capacity l.out;
}
