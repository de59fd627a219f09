use Rattle.std.proofs.Common.{◌≢◌, ◌-◌, ◌^◌, ◌≤◌, length, Ok, sym, subst, ◌∙◌, arith}
use Rattle.wasm_operators.specs.below.declared.message.Message.TheVariants as message
use Rattle.wasm_listing.specs.Census.{Counts}
use Rattle.wasm_listing.specs.Dump.{input_of}
use Rattle.wasm_listing.proofs.CensusLemmas.{whole_counts, other_counts}
use Rattle.wasm_listing.proofs.body_census.census.Goals as goal

pub returns-in-Ok-clause-counts : goal.returns-in-Ok-clause-counts
returns-in-Ok-clause-counts c =
    let input = input_of c.args.features c.args.body.now in
    let few = c.type_inv.body in
    let fits : length c.args.body.now ≤ 2 ^ 64 - 1 = omega arith in
    subst (λ counts. Counts input (Ok counts)) (sym c.counts.ensures) (whole_counts c.count_body.result c.in-Ok.field-0 input c.new-census.result
    c.count_body.new.census c.layouts.ensures.length c.in-Ok.is c.count_body.ensures.counts c.new-census.ensures fits)

pub returns-in_default : goal.returns-in_default
returns-in_default c =
    let input = input_of c.args.features c.args.body.now in
    let other : c.in-Err.error.message ≢ message.OutOfMemory = λ m. c.in_default.not-OutOfMemory (c.message.ensures ∙ m) in
    record {
      counts = other_counts c.count_body.result c.in-Err.error input c.new-census.result c.count_body.new.census c.in-Err.is c.count_body.ensures.counts other;
      whole = λ declarations placed encodes. other (c.in-Err.ensures.whole declarations placed encodes);
      memory = λ is. absurd (cc is);
    }

pub returns-in-OutOfMemory-clause-memory : goal.returns-in-OutOfMemory-clause-memory
returns-in-OutOfMemory-clause-memory c = λ is. c.in-Err.ensures.memory (sym c.message.ensures ∙ c.in-OutOfMemory.is)
