use Rattle.std.proofs.Common.{Ok, [], refl, subst, ◌∙◌}
use Rattle.wasm_operators.specs.below.Source.{reader_of}
use Rattle.wasm_operators.specs.Body.{OpensBody}
use Rattle.wasm_operators.specs.Locals.{RefusesLocals}
use Rattle.wasm_c.proofs.Found.{ends_body, memory_body}
use Rattle.wasm_c.proofs.Written.{written_none}
use Rattle.wasm_c.proofs.body.read_body.Goals as goal

pub returns-in-Ok : goal.returns-in-Ok
returns-in-Ok c =
    let input = reader_of c.args.features c.args.offset c.args.bytes.now in
    let opens = subst (OpensBody (Ok c.in-Ok.operators)) (c.new-body.ensures ∙ c.new_features.ensures) c.in-Ok.ensures.opens in
    let found = c.read_operators.ensures in (
      found.0,
      record {
        ends = ends_body c.past_locals.ensures.body c.read_operators.result.end input c.in-Ok.operators found.0 opens found.1.ends;
        memory = memory_body c.read_operators.result.end input c.in-Ok.operators found.0 opens found.1.memory;
        counted = found.1.counted;
        in_array = found.1.in_array;
      },
    )

pub returns-in-Err : goal.returns-in-Err
returns-in-Err c =
    let input = reader_of c.args.features c.args.offset c.args.bytes.now in
    let refused = subst (RefusesLocals c.in-Err.error) (c.new-body.ensures ∙ c.new_features.ensures) c.in-Err.ensures.opens in (
      [],
      record {
        ends = c.refused_locals.ensures.stopped c.in-Err.error input refused;
        memory = λ is. absurd (c.refused_locals.ensures.memory c.in-Err.error input refused is);
        counted = refl;
        in_array = written_none c.args.out.now;
      },
    )
