use Rattle.std.proofs.Common.{◌≡◌, take, ap, ◌∙◌, arith, refl}
use Rattle.std.specs.Prelude.{◌<◌, ◌+◌, length}
use Rattle.wasm_view.specs.Lists.{written}
use Rattle.wasm_c.proofs.Named.{none_written, one_written, room_written}
use Rattle.wasm_c.proofs.text.write_bytes.Goals as goal

pub bytes-init : goal.bytes-init
bytes-init c = none_written c.args.bytes.now c.args.text.now

pub bytes-preserved : goal.bytes-preserved
bytes-preserved c =
    let n = c.bytes.index in
    let within : n < length c.args.bytes.now = omega (arith, c.bytes-test.true, c.min-room.ensures) in
    let room : n < length c.args.text.now = omega (arith, c.bytes-test.true, c.min-room.ensures) in
    one_written c.args.bytes.now c.args.text.now c.bytes.text n (n + 1) c.bytes.invariant within room (omega arith)

pub returns : goal.returns
returns c =
    let bytes = c.args.bytes.now in
    let all : c.bytes.index ≡ c.min-room.result = omega (arith, c.bytes.auto.index-end, c.bytes-test.false) in (
      refl,
      c.bytes.invariant ∙ ap (λ n. written (take n bytes) c.args.text.now) all ∙ room_written bytes c.args.text.now c.min-room.result c.min-room.ensures,
    )
