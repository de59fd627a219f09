use Rattle.wasm_c.proofs.Batch.{batch_first, batch_on, batch_stops}
use Rattle.wasm_c.proofs.reader.WasmReader.read_many.Goals as goal

pub places-init : goal.places-init
places-init c =
    (batch_first c.args.bytes.now c.args.self.now c.args.frames.now c.args.out.now, c.in-Some.ensures.ahead.0, c.in-Some.ensures.ahead.1)

pub places-preserved : goal.places-preserved
places-preserved c =
    let was = c.places.invariant in
    let step = c.in-Ok.ensures c.args.bytes.now was.1 was.2 in (
      batch_on c.args.bytes.now c.args.self.now c.places.self c.step.new.self c.args.frames.now c.places.frames c.step.new.frames c.places.found
          c.args.out.now c.places.out c.step.new.viewer.view was.0 step.0 c.places-test.true c.places.auto.out,
      step.0.still,
      step.1,
    )

pub returns-in-Err : goal.returns-in-Err
returns-in-Err c =
    let was = c.places.invariant in
    batch_stops c.in-Err.refused c.args.bytes.now c.args.self.now c.places.self c.step.new.self c.args.frames.now c.places.frames c.step.new.frames
    c.places.found c.args.out.now c.places.out was.0 c.in-Some.ensures.ahead.0 was.1 (c.in-Err.ensures c.args.bytes.now was.1 was.2)
