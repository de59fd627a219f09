use Rattle.std.proofs.Common.{◌≡◌, ◌+◌, true, false, List, length}
use Rattle.wasm_operators.specs.below.Source.{Reader}
use Rattle.wasm_disassembly.specs.Listing.{BodiesOccur, Refusals, are_none, AreAsked}
use Rattle.wasm_disassembly.specs.ModuleCensus.{Adds, IsCounted}
use Rattle.wasm_disassembly.proofs.counts.count_code.Given as goal

abbrev pub invariant-bodies : goal.invariant-bodies
invariant-bodies g l = (bodies : List Reader) × BodiesOccur l.initial.items.reader bodies l.items.reader ×
    (length bodies + l.items.remaining ≡ l.initial.items.remaining) × (l.items.refused ≡ false) × (l.place ≡ length bodies) × (reported : Refusals) ×
    Adds g.C.Complaints.reports l.features l.functions l.only bodies reported l.initial.complaints l.complaints l.counts × (l.whole ≡ are_none reported) ×
    (AreAsked (IsCounted l.features) l.functions l.only 0 bodies → l.whole ≡ true)

abbrev pub decreases-bodies : goal.decreases-bodies
decreases-bodies g l = l.items.remaining
