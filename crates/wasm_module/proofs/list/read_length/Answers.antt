use Rattle.wasm_below.specs.Fault.{ManyFault}
use Rattle.wasm_below.specs.Number.{EncodesUnsigned}
use Rattle.wasm_below.specs.Source.{U32Fault}
use Rattle.wasm_module.specs.Types.{EncodesCounted, EncodesLength, LengthFault}
use Rattle.wasm_below.proofs.Ahead.{first_fails, second_fails, failed}
use Rattle.wasm_module.proofs.Many.{way_begins, way_goes_on, way_ends, way_refused}
use Rattle.wasm_module.proofs.Sequences.{then_read}
use Rattle.wasm_module.proofs.list.read_length.Goals as goal

pub loop-item-init : goal.loop-item-init
loop-item-init g c =
    way_begins g.T.Item.encodes g.T.Item.fault c.in_ok-length.length c.read_var_u32.new.self

pub loop-item-preserved : goal.loop-item-preserved
loop-item-preserved g c =
    way_goes_on g.T.Item.encodes g.T.Item.fault c.is_prefix_code.ensures c.in_ok-length.length c.loop-item._item c.read_var_u32.new.self c.loop-item.reader
    c.read_item.new.reader c.in_ok-read_item.field-0 c.loop-item-test.true c.loop-item.invariant c.in_ok-read_item.ensures

pub returns-in_err-length : goal.returns-in_err-length
returns-in_err-length g c =
    let h = c.in_err-length.ensures in
    let P = g.T.Item.encodes in
    let F = g.T.Item.fault in
    failed (EncodesLength P) (LengthFault P F) _ c.read_var_u32.new.self c.from_residual.ensures.1
    (first_fails (EncodesUnsigned 32) (EncodesCounted P) U32Fault (ManyFault P F) (h.1, h.2))

pub returns-in_err-read_item : goal.returns-in_err-read_item
returns-in_err-read_item g c =
    let P = g.T.Item.encodes in
    let F = g.T.Item.fault in
    let item = way_refused P F c.in_ok-length.length c.loop-item._item c.read_var_u32.new.self c.loop-item.reader c.loop-item-test.true
    c.loop-item.invariant c.in_err-read_item.ensures in
    failed (EncodesLength P) (LengthFault P F) _ _ c.from_residual-in_err-read_item.ensures.1
    (second_fails (EncodesUnsigned 32) (EncodesCounted P) U32Fault (ManyFault P F) (c.unsigned_numbers.ensures 32) c.in_ok-length.ensures item)

pub returns : goal.returns
returns g c =
    let P = g.T.Item.encodes in
    let items = way_ends P g.T.Item.fault c.in_ok-length.length c.loop-item._item c.read_var_u32.new.self c.loop-item.reader c.loop-item-test.false
    c.loop-item.invariant in
    then_read (EncodesUnsigned 32) (EncodesCounted P) c.in_ok-length.ensures items
