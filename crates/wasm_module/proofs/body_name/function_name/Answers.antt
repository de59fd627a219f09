use Rattle.std.proofs.Common.{ap, subst, ◌∙◌, slice_index_or, []}
use Rattle.wasm_below.specs.Source.{reader_of}
use Rattle.wasm_module.specs.ModuleFunctions.{DescribesFunctions}
use Rattle.wasm_module.specs.Refusals.{ModuleFunctionsFault}
use Rattle.wasm_module.specs.Bodies.{text_of_name}
use Rattle.wasm_module.proofs.Opened.{memory_fault}
use Rattle.wasm_module.proofs.body_name.function_name.Goals as goal

pub returns-in-Err-clause-fault : goal.returns-in-Err-clause-fault
returns-in-Err-clause-fault c =
    subst (λ f. ModuleFunctionsFault c.in-Err.fault (reader_of f 0 c.args.bytes.now)) c.all.ensures c.in-Err.ensures.fault

pub returns-then-not-has-clause-fault : goal.returns-then-not-has-clause-fault
returns-then-not-has-clause-fault c = (
  c.in-Ok.functions,
  subst (λ f. DescribesFunctions (reader_of f 0 c.args.bytes.now) c.in-Ok.functions) c.all.ensures c.in-Ok.ensures.ok,
  λ own. absurd (cc (c.has.ensures.1 own, c.if-not-has.true)),
)

pub returns-in-Ok-copy_at-clause-names : goal.returns-in-Ok-copy_at-clause-names
returns-in-Ok-copy_at-clause-names c = (
  c.in-Ok.functions,
  subst (λ f. DescribesFunctions (reader_of f 0 c.args.bytes.now) c.in-Ok.functions) c.all.ensures c.in-Ok.ensures.ok,
  c.has.ensures.0 c.if-not-has.false,
  c.in-Ok-copy_at.ensures ∙ ap (λ names. text_of_name (slice_index_or names c.args.index [])) c.names.ensures,
)

pub returns-clause-fault : goal.returns-clause-fault
returns-clause-fault c =
    memory_fault (reader_of _ 0 c.args.bytes.now) c.in-Ok.functions c.args.index
    (subst (λ f. DescribesFunctions (reader_of f 0 c.args.bytes.now) c.in-Ok.functions) c.all.ensures c.in-Ok.ensures.ok) (c.has.ensures.0 c.if-not-has.false)
