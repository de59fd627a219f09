use Rattle.std.proofs.Common.{◌≤◌, take}
use Rattle.std.specs.Vec.{vec_capacity}
use Rattle.wasm_imm.specs.Lists.{EncodesEach}
use Rattle.wasm_encode_numbers.specs.Appended.{Appends}
use Rattle.wasm_encode.proofs.Targets.{EncodesSamePlaced}
use Rattle.wasm_encode.proofs.shortened.write_shortened.Given as goal

abbrev pub invariant-loop-op : goal.invariant-loop-op
invariant-loop-op l = record {
  each : Appends (EncodesEach (EncodesSamePlaced l.features)) (take l.op-index l.ops) l.fn.out.items l.out.items;
  capacity : vec_capacity l.fn.out ≤ vec_capacity l.out;
}
