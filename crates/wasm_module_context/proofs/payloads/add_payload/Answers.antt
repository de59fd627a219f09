use Rattle.std.proofs.Common.{sym, subst}
use Rattle.wasm_payloads.specs.declared.payload.Payload.TheVariants as payload
use Rattle.wasm_module_context.specs.Payloads.{ReadsPayload}
use Rattle.wasm_module_context.proofs.Adding.{reads_payload}
use Rattle.wasm_module_context.proofs.payloads.add_payload.Goals as goal

pub returns-in-TableSection : goal.returns-in-TableSection
returns-in-TableSection c =
    let added = rw c.read_as.ensures at c.add_items-in-TableSection.ensures.added in
    let refused = rw c.read_as.ensures at c.add_items-in-TableSection.ensures.refused in
    subst (λ p. ReadsPayload p c.args.context c.add_items-in-TableSection.result) (sym c.in-TableSection.is)
    (reads_payload (payload.TableSection c.in-TableSection.items) c.args.context c.add_items-in-TableSection.result added refused)

pub returns-in-GlobalSection : goal.returns-in-GlobalSection
returns-in-GlobalSection c =
    let added = rw c.read_as-in-GlobalSection.ensures at c.add_items-in-GlobalSection.ensures.added in
    let refused = rw c.read_as-in-GlobalSection.ensures at c.add_items-in-GlobalSection.ensures.refused in
    subst (λ p. ReadsPayload p c.args.context c.add_items-in-GlobalSection.result) (sym c.in-GlobalSection.is)
    (reads_payload (payload.GlobalSection c.in-GlobalSection.items) c.args.context c.add_items-in-GlobalSection.result added refused)

pub returns-in-ElementSection : goal.returns-in-ElementSection
returns-in-ElementSection c =
    let added = rw c.read_as-in-ElementSection.ensures at c.add_items-in-ElementSection.ensures.added in
    let refused = rw c.read_as-in-ElementSection.ensures at c.add_items-in-ElementSection.ensures.refused in
    subst (λ p. ReadsPayload p c.args.context c.add_items-in-ElementSection.result) (sym c.in-ElementSection.is)
    (reads_payload (payload.ElementSection c.in-ElementSection.items) c.args.context c.add_items-in-ElementSection.result added refused)
