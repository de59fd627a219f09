use Rattle.std.proofs.Common.{ap, ◌∙◌}
use Rattle.wasm_operators.specs.imm.Proposal.{proposal_name}
use Rattle.wasm_listing.specs.Census.{proposals, one_more_of}
use Rattle.wasm_listing.proofs.counting.CensusVisitor.visit_any.Goals as goal

pub returns : goal.returns
returns c = c.count.ensures ∙ ap (λ p. one_more_of p proposals c.args.self.now) (c.name.ensures ∙ ap proposal_name c.info.ensures.proposal)
