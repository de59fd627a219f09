use Rattle.std.proofs.Common.{refl}
use Rattle.wasm_names.specs.Names.{naming}
use Rattle.wasm_write_grammars.proofs.Owing.{owes, wrote, of_thing, given, thing_fails, paid}
use Rattle.wasm_encode_sections.specs.NameReasons.{NamingReason}
use Rattle.wasm_encode_sections.proofs.NameSteps.{only_naming_index, only_naming_name}
use Rattle.wasm_encode_sections.proofs.names.NamingWrite.append_to.Goals as goal

pub returns-in_err-append_u32 : goal.returns-in_err-append_u32
returns-in_err-append_u32 c =
    let (extends, why) = c.in_err-append_u32.ensures in
    given NamingReason _ c.from_residual.ensures.1 extends (λ known. absurd (why known).reason)

pub returns-in_err-append_to : goal.returns-in_err-append_to
returns-in_err-append_to c =
    let x = c.args.self.now in
    let index = wrote (owes naming x c.args.out.now.items) x.index (only_naming_index x) c.in_ok-append_u32.ensures in
    thing_fails NamingReason _ c.from_residual-in_err-append_to.ensures.1 index x.name (only_naming_name x x.index) c.in_err-append_to.ensures (λ r. r)

pub returns : goal.returns
returns c =
    let x = c.args.self.now in
    let index = wrote (owes naming x c.args.out.now.items) x.index (only_naming_index x) c.in_ok-append_u32.ensures in
    paid (wrote index x.name (only_naming_name x x.index) (of_thing c.in_ok-append_to.ensures)) refl
