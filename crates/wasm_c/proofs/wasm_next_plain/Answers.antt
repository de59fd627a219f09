use Rattle.std.proofs.Common.{◌∙◌}
use Rattle.wasm_c.proofs.BeforeSimd.{plain_read, plain_refused}
use Rattle.wasm_c.proofs.wasm_next_plain.Goals as goal
use Rattle.wasm_c.proofs.wasm_next_plain.Goals.{in-Ok, in-Err}

pub returns-clause-next : goal.returns-clause-next
returns-clause-next c =
    let old = c.args.reader.now in
    let new = c.read_plain.new.self in
    elim c.match-read_plain.branch [
      | in-Ok w ↦
          plain_read c.args.bytes.now old new c.args.frames.now c.read_plain.new.frames w.in-Ok.view c.args.operator.now c.match-read_plain.operator
          c.match-read_plain.refusal w.in-Ok.ensures.simd w.in-Ok.ensures.other w.operator-is (w.refusal-is ∙ w.none.ensures)
      | in-Err w ↦
          plain_refused c.args.bytes.now old new c.args.frames.now c.read_plain.new.frames c.args.operator.now c.match-read_plain.operator w.in-Err.refused
          c.match-read_plain.refusal w.in-Err.ensures.simd w.in-Err.ensures.other w.operator-is w.refusal-is
    ]
