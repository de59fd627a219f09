use Rattle.std.proofs.Common.{◌-◌, ◌∙◌, sym, subst, arith}
use Rattle.wasm_below.specs.FromReader.{AllocatesIf, ReadsValue}
use Rattle.wasm_below.proofs.ReadOn.{kept_features, none_left_to_read, one_read, one_refused}
use Rattle.wasm_below.proofs.from_reader.read_on.Goals as goal

pub returns-then-is_err : goal.returns-then-is_err
returns-then-is_err g c =
    let h = c.loop.invariant in
    let Encodes = g.T.FromReader.encodes in
    let Fault = g.T.FromReader.fault in
    let Memory = AllocatesIf g.T.Memory.MemoryUse.TAKES g.T.FromReader.allocates in
    let r = subst (λ f. ReadsValue (Encodes f) Fault Memory c.read.result c.loop.reader c.read.new.self) h.features c.read.ensures.reads in
    h.reads_on c.read.new.self (one_refused (Encodes c.args.reader.now.features) Fault Memory c.read.result c.args.count c.loop.counter c.loop.reader
    c.read.new.self c.loop-test.true (sym c.is_err.ensures.value ∙ c.if-is_err.true) r)

pub returns : goal.returns
returns g c =
    let h = c.loop.invariant in
    h.reads_on c.loop.reader (none_left_to_read (g.T.FromReader.encodes c.args.reader.now.features) g.T.FromReader.fault
    (AllocatesIf g.T.Memory.MemoryUse.TAKES g.T.FromReader.allocates) (c.args.count - c.loop.counter) c.loop.reader (omega arith))

pub loop-preserved : goal.loop-preserved
loop-preserved g c =
    let h = c.loop.invariant in
    let Encodes = g.T.FromReader.encodes in
    let Fault = g.T.FromReader.fault in
    let Memory = AllocatesIf g.T.Memory.MemoryUse.TAKES g.T.FromReader.allocates in
    let r = subst (λ f. ReadsValue (Encodes f) Fault Memory c.read.result c.loop.reader c.read.new.self) h.features c.read.ensures.reads in
    record {
      within = omega arith;
      features = kept_features (Encodes c.loop.reader.features) Fault Memory c.read.result c.loop.reader c.read.new.self c.read.ensures.reads ∙ h.features;
      reads_on = λ last after. h.reads_on last
          (one_read (Encodes c.args.reader.now.features) Fault Memory c.read.result c.args.count c.loop.counter c.loop.reader c.read.new.self last c.loop-test.true
          (sym c.is_err.ensures.value ∙ c.if-is_err.false) r after);
    }
