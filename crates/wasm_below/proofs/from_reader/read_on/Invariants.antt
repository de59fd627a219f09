use Rattle.std.proofs.Common.{◌≡◌, ◌-◌, ◌≤◌}
use Rattle.wasm_below.specs.FromReader.{AllocatesIf, ReadsOn}
use Rattle.wasm_below.specs.Source.{Reader}
use Rattle.wasm_below.proofs.from_reader.read_on.Given as goal

abbrev pub invariant-loop : goal.invariant-loop
invariant-loop g l = record {
  within : l.counter ≤ l.count;
  features : l.reader.features ≡ l.fn.reader.features;
  reads_on : (last : Reader) → ReadsOn (g.T.FromReader.encodes l.fn.reader.features) g.T.FromReader.fault (AllocatesIf g.T.Memory.MemoryUse.TAKES g.T.FromReader.allocates) (l.count - l.counter) l.reader last →
      ReadsOn (g.T.FromReader.encodes l.fn.reader.features) g.T.FromReader.fault (AllocatesIf g.T.Memory.MemoryUse.TAKES g.T.FromReader.allocates) l.fn.count l.fn.reader last;
}
