use Rattle.wasm_write_grammars.specs.Writing.{NoReason}
use Rattle.wasm_write_grammars.proofs.Owing.{given, extends_then}
use Rattle.wasm_encode_sections.proofs.ExternalSteps.{tag_starts, tag_written}
use Rattle.wasm_encode_sections.proofs.external_types.TagTypeWrite.append_to.Goals as goal

pub returns-in_err-append_byte : goal.returns-in_err-append_byte
returns-in_err-append_byte c =
    let (extends, why) = c.in_err-append_byte.ensures in
    given NoReason _ c.from_residual.ensures.1 extends (λ known. absurd (why known).reason)

pub returns-in_err-append_u32 : goal.returns-in_err-append_u32
returns-in_err-append_u32 c =
    let (extends, why) = c.in_err-append_u32.ensures in
    given NoReason _ c.from_residual-in_err-append_u32.ensures.1
    (extends_then (tag_starts c.args.self.now c.args.out.now.items c.in_ok-append_byte.ensures).appended extends) (λ known. absurd (why known).reason)

pub returns : goal.returns
returns c = tag_written c.args.self.now c.args.out.now.items c.in_ok-append_byte.ensures c.in_ok-append_u32.ensures
