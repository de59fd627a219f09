use Rattle.std.proofs.Common.{refl, arith}
use Rattle.wasm_c.proofs.Steps.{takes_plain, reader_after_plain, outside_plain, no_room_plain, refused_plain}
use Rattle.wasm_c.proofs.reader.WasmReader.step.Goals as goal

pub returns-then-depth-eq0 : goal.returns-then-depth-eq0
returns-then-depth-eq0 c = λ bytes was same. (
  refl,
  refl,
  outside_plain bytes c.args.frames.now c.args.self.now c.args.ahead.now c.new.result c.original_position-offset.result c.of.result was same
      c.if-depth-eq0.true c.new.ensures.message c.new.ensures.offset c.original_position-offset.ensures c.of.ensures,
)

pub returns-then-depth-frames : goal.returns-then-depth-frames
returns-then-depth-frames c = λ bytes was same. (
  refl,
  refl,
  no_room_plain bytes c.args.frames.now c.args.self.now c.args.ahead.now c.view_operator.new.reader c.innermost.result c.view_operator.new.viewer.view
      c.view_operator.new.viewer.change c.original_position-offset.result c.misuse.result was same c.in-Ok.ensures.taken c.innermost.ensures
      (c.opens.ensures.0 c.if-opens.true) c.if-depth-frames.true c.original_position-offset.ensures c.misuse.ensures,
)

pub returns-else-opens : goal.returns-else-opens
returns-else-opens c = λ bytes was same.
    let after = record c.args.self.now { position = c.current_position.result; depth = c.change_frames.result } in (
      takes_plain c.frame_changes.ensures.frames bytes c.args.self.now after c.args.frames.now c.change_frames.new.frames c.args.ahead.now c.view_operator.new.reader c.innermost.result
          c.view_operator.new.viewer.view c.view_operator.new.viewer.change was same c.in-Ok.ensures.taken (omega (arith, c.if-depth-eq0.false))
          c.innermost.ensures c.change_frames.ensures.frames c.change_frames.ensures.within c.change_frames.ensures.most
          c.change_frames.auto.frames c.change_frames.ensures.past c.current_position.ensures refl refl refl,
      reader_after_plain bytes c.args.self.now after c.args.ahead.now c.view_operator.new.reader c.innermost.result c.view_operator.new.viewer.view
          c.view_operator.new.viewer.change same c.in-Ok.ensures.taken c.current_position.ensures refl refl,
    )

pub returns-in-Err : goal.returns-in-Err
returns-in-Err c = λ bytes was same. (
  refl,
  refl,
  refused_plain bytes c.args.frames.now c.args.self.now c.args.ahead.now c.view_operator.new.reader c.innermost.result c.in-Err.error
      c.of-in-Err.result was same c.innermost.ensures c.in-Err.ensures.refused c.of-in-Err.ensures,
)
