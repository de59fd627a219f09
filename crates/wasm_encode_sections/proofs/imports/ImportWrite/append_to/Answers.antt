use Rattle.std.proofs.Common.{inl, inr, refl}
use Rattle.wasm_externals.specs.Externals.{import}
use Rattle.wasm_write_grammars.proofs.Owing.{owes, wrote, of_thing, thing_fails, paid}
use Rattle.wasm_encode_sections.specs.ExternalReasons.{ImportReason}
use Rattle.wasm_encode_sections.proofs.ImportSteps.{only_module, only_field, only_type}
use Rattle.wasm_encode_sections.proofs.imports.ImportWrite.append_to.Goals as goal

pub returns-in_err-append_to : goal.returns-in_err-append_to
returns-in_err-append_to c =
    let x = c.args.self.now in
    thing_fails (ImportReason c.args.features) _ c.from_residual.ensures.1 (owes (import c.args.features) x c.args.out.now.items) x.«module» (only_module c.args.features x)
    c.in_err-append_to.ensures (λ r. inl r)

pub returns-in_err-append_to-2 : goal.returns-in_err-append_to-2
returns-in_err-append_to-2 c =
    let x = c.args.self.now in
    let first = wrote (owes (import c.args.features) x c.args.out.now.items) x.«module» (only_module c.args.features x) (of_thing c.in_ok-append_to.ensures) in
    thing_fails (ImportReason c.args.features) _ c.from_residual-in_err-append_to-2.ensures.1 first x.name (only_field c.args.features x x.«module»)
    c.in_err-append_to-2.ensures (λ r. inr (inl r))

pub returns-in_err-append_to-3 : goal.returns-in_err-append_to-3
returns-in_err-append_to-3 c =
    let x = c.args.self.now in
    let first = wrote (owes (import c.args.features) x c.args.out.now.items) x.«module» (only_module c.args.features x) (of_thing c.in_ok-append_to.ensures) in
    let second = wrote first x.name (only_field c.args.features x x.«module») (of_thing c.in_ok-append_to-2.ensures) in
    thing_fails (ImportReason c.args.features) _ c.from_residual-in_err-append_to-3.ensures.1 second x.ty (only_type c.args.features x x.«module» x.name)
    c.in_err-append_to-3.ensures (λ r. inr (inr r))

pub returns : goal.returns
returns c =
    let x = c.args.self.now in
    let first = wrote (owes (import c.args.features) x c.args.out.now.items) x.«module» (only_module c.args.features x) (of_thing c.in_ok-append_to.ensures) in
    let second = wrote first x.name (only_field c.args.features x x.«module») (of_thing c.in_ok-append_to-2.ensures) in
    paid (wrote second x.ty (only_type c.args.features x x.«module» x.name) (of_thing c.in_ok-append_to-3.ensures)) refl
