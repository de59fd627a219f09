use Rattle.std.proofs.Common.{◌≡◌, true, refl, subst}
use Rattle.wasm_below.specs.Features.{memory64}
use Rattle.wasm_externals.specs.Limits.{contains, address}
use Rattle.wasm_grammars.proofs.Steps.{begins, yes}
use Rattle.wasm_externals.proofs.limits.read_address.Goals as goal

pub returns-in-Ok : goal.returns-in-Ok
returns-in-Ok c =
    let is = subst (λ f. contains f memory64 ≡ true) c.features.ensures (c.contains.ensures.0 c.if-contains.true) in
    (yes (begins (address c.args.reader.now.features) refl) is).reads _ _ c.in-Ok.ensures
