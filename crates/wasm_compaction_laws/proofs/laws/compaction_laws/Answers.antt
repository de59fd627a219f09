use Rattle.wasm_compaction_laws.proofs.Bodies.{compacted_body, compacted_function}
use Rattle.wasm_compaction_laws.proofs.Sections.{compacted_code}
use Rattle.wasm_compaction_laws.proofs.laws.compaction_laws.Goals as goal

pub returns-clause-bodies : goal.returns-clause-bodies
returns-clause-bodies g c = λ params results f old new a b h.
    compacted_body (g.M.ModuleContext.environment c.args.context.now) params results f old new a b c.is_well_formed.ensures h

pub returns-clause-functions : goal.returns-clause-functions
returns-clause-functions g c = λ x body again same h.
    compacted_function (g.M.ModuleContext.environment c.args.context.now) x body again c.is_well_formed.ensures same h

pub returns-clause-code : goal.returns-clause-code
returns-clause-code g c = λ f x old new h. compacted_code (g.M.ModuleContext.environment c.args.context.now) f x old new c.is_well_formed.ensures h
