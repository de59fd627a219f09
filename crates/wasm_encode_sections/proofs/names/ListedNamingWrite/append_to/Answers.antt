use Rattle.wasm_write_grammars.proofs.Owing.{given}
use Rattle.wasm_encode_sections.specs.NameReasons.{ListedNamingReason}
use Rattle.wasm_encode_sections.proofs.NameSteps.{listed_written, listed_fails}
use Rattle.wasm_encode_sections.proofs.names.ListedNamingWrite.append_to.Goals as goal

pub returns-in_err-append_u32 : goal.returns-in_err-append_u32
returns-in_err-append_u32 c =
    let (extends, why) = c.in_err-append_u32.ensures in
    given ListedNamingReason _ c.from_residual.ensures.1 extends (λ known. absurd (why known).reason)

pub returns-in_err-append_items : goal.returns-in_err-append_items
returns-in_err-append_items c =
    listed_fails c.args.self.now c.in_ok-append_u32.ensures c.as_slice.ensures _ c.from_residual-in_err-append_items.ensures.1 c.in_err-append_items.ensures

pub returns : goal.returns
returns c = listed_written c.args.self.now c.in_ok-append_u32.ensures c.as_slice.ensures c.in_ok-append_items.ensures
