use Rattle.wasm_externals.specs.Globals.{global_type}
use Rattle.wasm_write_grammars.specs.Writing.{NoReason}
use Rattle.wasm_write_grammars.proofs.Owing.{owes, wrote, part_fails, given, extends_then}
use Rattle.wasm_encode_sections.proofs.ExternalSteps.{only_content, global_written}
use Rattle.wasm_encode_sections.proofs.external_types.GlobalTypeWrite.append_to.Goals as goal

pub returns-in_err-append_to : goal.returns-in_err-append_to
returns-in_err-append_to c =
    part_fails NoReason _ c.from_residual.ensures.1 (owes global_type c.args.self.now c.args.out.now.items) c.args.self.now.content_type (only_content c.args.self.now)
    c.in_err-append_to.ensures (λ r. r)

pub returns-in_err-append_byte : goal.returns-in_err-append_byte
returns-in_err-append_byte c =
    let (extends, why) = c.in_err-append_byte.ensures in
    let content = wrote (owes global_type c.args.self.now c.args.out.now.items) c.args.self.now.content_type (only_content c.args.self.now) c.in_ok-append_to.ensures in
    given NoReason _ c.from_residual-in_err-append_byte.ensures.1 (extends_then content.appended extends) (λ known. absurd (why known).reason)

pub returns : goal.returns
returns c = global_written c.args.self.now c.args.out.now.items c.flag_byte.ensures.value c.in_ok-append_to.ensures c.in_ok-append_byte.ensures
