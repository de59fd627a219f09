use Rattle.std.proofs.Common.{◌≡◌, ◌+◌, true, false, List, length}
use Rattle.wasm_operators.specs.below.Source.{Reader}
use Rattle.wasm_disassembly.specs.Listing.{BodiesOccur, Refusals, Writes, are_none, AreAsked, IsFunction}
use Rattle.wasm_disassembly.proofs.listing.list_code.Given as goal

abbrev pub invariant-bodies : goal.invariant-bodies
invariant-bodies g l = (bodies : List Reader) × BodiesOccur l.initial.items.reader bodies l.items.reader ×
    (length bodies + l.items.remaining ≡ l.initial.items.remaining) × (l.items.refused ≡ false) × (l.place ≡ length bodies) × (reported : Refusals) ×
    Writes g.C.Complaints.reports l.names l.functions l.only bodies reported l.initial.complaints l.complaints (g.W.Write.contents l.initial.writer)
    (g.W.Write.contents l.writer) × (l.whole ≡ are_none reported) ×
    (AreAsked IsFunction l.functions l.only 0 bodies → l.whole ≡ true)

abbrev pub decreases-bodies : goal.decreases-bodies
decreases-bodies g l = l.items.remaining
