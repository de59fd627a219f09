use Rattle.std.proofs.Common.{[], ◌∷◌, ◌++◌, subst, ◌∙◌}
use Rattle.wasm_below.specs.Source.{offset_of}
use Rattle.wasm_decode_opcodes.specs.Allowed.{EncodesAllowed}
use Rattle.wasm_operators.proofs.DecoderPremises.{sound}
use Rattle.wasm_operators.specs.Reading.{TakesOperator}
use Rattle.wasm_operators.proofs.Runs.{ran_push}
use Rattle.wasm_operators.proofs.OneEnd.{passed_more}
use Rattle.wasm_operators.proofs.Read.{ok_more, err_more, end_passed}
use Rattle.wasm_operators.proofs.Refused.{refused_there, refused_inside}
use Rattle.wasm_operators.proofs.passing.pass_constant.Goals as goal

pub returns-then-is_end-clause-passed : goal.returns-then-is_end-clause-passed
returns-then-is_end-clause-passed c =
    let i = c.loop-is_end.invariant in
    let p = c.in-Ok.ensures in
    let passed = end_passed c.args.operators.now c.loop-is_end.operators c.pass_one.new.operators i.0 p.0 i.1 i.2 p.1 (p.2.0 c.if-is_end.true) in
    ok_more c.check_closed.result (λ _ closed. (passed, closed)) c.check_closed.ensures.closed

pub returns-then-is_end-clause-refused : goal.returns-then-is_end-clause-refused
returns-then-is_end-clause-refused c =
    let i = c.loop-is_end.invariant in
    let p = c.in-Ok.ensures in
    let end = subst (λ op. TakesOperator EncodesAllowed op c.loop-is_end.operators c.pass_one.new.operators) (p.2.0 c.if-is_end.true) p.1 in
    err_more c.check_closed.result
    (λ e h. refused_inside e c.args.operators.now c.loop-is_end.operators c.pass_one.new.operators i.0 c.requires i.1 i.2 end h.0 h.1 h.2)
    c.check_closed.ensures.open

pub loop-is_end-preserved : goal.loop-is_end-preserved
loop-is_end-preserved c =
    let i = c.loop-is_end.invariant in
    let p = c.in-Ok.ensures in (
      i.0 ++ (p.0, offset_of c.loop-is_end.operators.reader) ∷ [],
      ran_push EncodesAllowed sound c.args.operators.now c.loop-is_end.operators c.pass_one.new.operators i.0 p.0 i.1 p.1,
      passed_more i.0 p.0 (offset_of c.loop-is_end.operators.reader) i.2 (λ is. let yes = p.2.1 is in let no = c.if-is_end.false in cc (yes, no)),
    )

pub returns-in-Err-clause-refused : goal.returns-in-Err-clause-refused
returns-in-Err-clause-refused c =
    let i = c.loop-is_end.invariant in
    let f = c.from_start.ensures in
    refused_there c.in-Err.e c.from_start.result c.args.operators.now c.loop-is_end.operators c.pass_one.new.operators i.0 c.requires i.1 i.2
    c.in-Err.ensures.0 c.in-Err.ensures.1 f.message (λ m. f.memory m ∙ c.original_position-start.ensures) f.other
