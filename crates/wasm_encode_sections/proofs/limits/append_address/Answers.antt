use Rattle.std.proofs.Common.{◌≡◌, true, false, arith}
use Rattle.std.proofs.lemmas.Bool.{false_from_ne_true}
use Rattle.wasm_below.specs.Features.{memory64}
use Rattle.wasm_externals.specs.Limits.{contains}
use Rattle.wasm_write_grammars.proofs.Owing.{passed, extends_all}
use Rattle.wasm_encode_sections.specs.ExternalReasons.{AddressReason}
use Rattle.wasm_encode_sections.proofs.LimitSteps.{address_wide, address_narrow, address_lacks}
use Rattle.wasm_encode_sections.proofs.limits.append_address.Goals as goal

pub returns-then-contains : goal.returns-then-contains
returns-then-contains c =
    let is : contains c.args.features memory64 ≡ true = c.contains.ensures.0 c.if-contains.true in
    passed (AddressReason c.args.features) c.append_u64.result (λ w. address_wide c.args.features c.args.size is w) c.append_u64.ensures

pub returns-then-size-gt4294967295 : goal.returns-then-size-gt4294967295
returns-then-size-gt4294967295 c =
    let is : contains c.args.features memory64 ≡ false = false_from_ne_true _ (λ h. cc (c.contains.ensures.1 h, c.if-contains.false)) in
    let many = c.if-size-gt4294967295.true in
    (extends_all _, λ known. address_lacks c.args.features c.args.size is (omega (arith, many)))

pub returns : goal.returns
returns c =
    let is : contains c.args.features memory64 ≡ false = false_from_ne_true _ (λ h. cc (c.contains.ensures.1 h, c.if-contains.false)) in
    passed (AddressReason c.args.features) c.append_u32.result (λ w. address_narrow c.args.features c.args.size is w) c.append_u32.ensures
