use Rattle.std.proofs.Common.{inr, rules}
use Rattle.wasm_below.specs.Source.{rest}
use Rattle.wasm_sections.specs.Module.{BeginsModule}
use Rattle.wasm_sections.specs.Order.{MayComeAfter}
use Rattle.wasm_payloads.proofs.parser.Parser.open.Goals as goal

pub returns-then-not-advance-clause-err : goal.returns-then-not-advance-clause-err
returns-then-not-advance-clause-err c =
    let inside = c.self.inside in
    let free : BeginsModule (rest inside.reader) → ⊥ = search rules in
    let late : MayComeAfter inside.order.last c.in-Ok.header.id → ⊥ = search rules in
    let refused = c.malformed-then-not-advance.ensures in
    (c.requires, rw (← c.self.view_is) (inr (free, inr (c.in-Ok.header, c.read_header.new.reader, c.in-Ok.ensures.reads, late, refused))))
