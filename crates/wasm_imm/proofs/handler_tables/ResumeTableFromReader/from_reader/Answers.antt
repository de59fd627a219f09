use Rattle.wasm_imm.specs.Handlers.{EncodesHandle}
use Rattle.wasm_imm.specs.HandlerTables.{max_handlers, EncodesResumeTable}
use Rattle.wasm_imm.specs.ListFaults.{ResumeTableFault}
use Rattle.wasm_imm.specs.Lists.{EncodesList, HasCount}
use Rattle.wasm_imm.proofs.ListRefusals.{refused_by}
use Rattle.wasm_imm.proofs.handler_tables.ResumeTableFromReader.from_reader.Goals as goal

pub returns-in-Err-clause-reads : goal.returns-in-Err-clause-reads
returns-in-Err-clause-reads c = (
  c.in-Err.ensures.0,
  refused_by (EncodesList max_handlers EncodesHandle) EncodesResumeTable ResumeTableFault ResumeTableFault (HasCount max_handlers)
      (HasCount max_handlers) c.in-Err.e c.args.reader.now (λ text t p. (t.handlers, p)) (λ m offset x. x) (λ x. x)
      c.in-Err.ensures.1,
)
