use Rattle.wasm_write_grammars.specs.Writing.{NoReason}
use Rattle.wasm_write_grammars.proofs.Owing.{given}
use Rattle.wasm_encode_sections.proofs.ElementSteps.{no_table, table_index_written}
use Rattle.wasm_encode_sections.proofs.elements.append_index.Goals as goal

pub returns-in-None : goal.returns-in-None
returns-in-None c = no_table c.args.present c.in-None.is c.requires c.args.out.now.items

pub returns-in_err-append_u32-in-Some : goal.returns-in_err-append_u32-in-Some
returns-in_err-append_u32-in-Some c =
    let (extends, why) = c.in_err-append_u32-in-Some.ensures in
    given NoReason _ c.from_residual.ensures.1 extends (λ known. absurd (why known).reason)

pub returns-in_ok-append_u32-in-Some : goal.returns-in_ok-append_u32-in-Some
returns-in_ok-append_u32-in-Some c = table_index_written c.args.present c.in-Some.number c.in-Some.is c.requires c.in_ok-append_u32-in-Some.ensures
