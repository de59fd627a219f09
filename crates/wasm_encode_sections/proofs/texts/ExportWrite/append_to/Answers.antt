use Rattle.std.proofs.Common.{refl}
use Rattle.wasm_externals.specs.Externals.{export}
use Rattle.wasm_write_grammars.proofs.Owing.{owes, wrote, of_thing, thing_fails, part_fails, paid}
use Rattle.wasm_encode_sections.specs.ExternalReasons.{ExportReason}
use Rattle.wasm_encode_sections.proofs.ExternalSteps.{only_name, only_kind, only_index}
use Rattle.wasm_encode_sections.proofs.texts.ExportWrite.append_to.Goals as goal

pub returns-in_err-append_to : goal.returns-in_err-append_to
returns-in_err-append_to c =
    thing_fails ExportReason _ c.from_residual.ensures.1 (owes export c.args.self.now c.args.out.now.items) c.args.self.now.name (only_name c.args.self.now)
    c.in_err-append_to.ensures (λ r. r)

pub returns-in_err-append_to-2 : goal.returns-in_err-append_to-2
returns-in_err-append_to-2 c =
    let x = c.args.self.now in
    let name = wrote (owes export x c.args.out.now.items) x.name (only_name x) (of_thing c.in_ok-append_to.ensures) in
    thing_fails ExportReason _ c.from_residual-in_err-append_to-2.ensures.1 name x.kind (only_kind x x.name) c.in_err-append_to-2.ensures (λ r. absurd r)

pub returns-in_err-append_u32 : goal.returns-in_err-append_u32
returns-in_err-append_u32 c =
    let x = c.args.self.now in
    let name = wrote (owes export x c.args.out.now.items) x.name (only_name x) (of_thing c.in_ok-append_to.ensures) in
    let kind = wrote name x.kind (only_kind x x.name) (of_thing c.in_ok-append_to-2.ensures) in
    part_fails ExportReason _ c.from_residual-in_err-append_u32.ensures.1 kind x.index (only_index x x.name x.kind) c.in_err-append_u32.ensures (λ r. absurd r)

pub returns : goal.returns
returns c =
    let x = c.args.self.now in
    let name = wrote (owes export x c.args.out.now.items) x.name (only_name x) (of_thing c.in_ok-append_to.ensures) in
    let kind = wrote name x.kind (only_kind x x.name) (of_thing c.in_ok-append_to-2.ensures) in
    paid (wrote kind x.index (only_index x x.name x.kind) c.in_ok-append_u32.ensures) refl
