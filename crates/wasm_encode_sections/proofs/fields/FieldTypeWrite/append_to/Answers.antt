use Rattle.std.proofs.Common.{ap, sym, refl}
use Rattle.wasm_types.specs.declared.fields.FieldType.{FieldType}
use Rattle.wasm_types.specs.Types.{field_type}
use Rattle.wasm_write_grammars.specs.Writing.{NoReason}
use Rattle.wasm_write_grammars.proofs.Owing.{owes, wrote, of_thing, thing_fails, paid}
use Rattle.wasm_encode_sections.proofs.fields.FieldTypeWrite.append_to.Goals as goal

pub returns-in_err-append_to : goal.returns-in_err-append_to
returns-in_err-append_to c =
    thing_fails NoReason _ c.from_residual.ensures.1 (owes field_type c.args.self.now c.args.out.now.items) c.args.self.now.element_type
    (λ z place at first after p (a, b, w, e, q, (n, same)). sym (ap (λ (t : FieldType). t.element_type) same)) c.in_err-append_to.ensures (λ r. r)

pub returns-in_err-append_mutability : goal.returns-in_err-append_mutability
returns-in_err-append_mutability c =
    let element = wrote (owes field_type c.args.self.now c.args.out.now.items) c.args.self.now.element_type
    (λ z place at first after p (a, b, w, e, q, (n, same)). sym (ap (λ (t : FieldType). t.element_type) same)) (of_thing c.in_ok-append_to.ensures) in
    thing_fails NoReason _ c.from_residual-in_err-append_mutability.ensures.1 element c.args.self.now.mutable
    (λ z place at first after p (n, same). sym (ap (λ (t : FieldType). t.mutable) same)) c.in_err-append_mutability.ensures (λ r. r)

pub returns : goal.returns
returns c =
    let element = wrote (owes field_type c.args.self.now c.args.out.now.items) c.args.self.now.element_type
    (λ z place at first after p (a, b, w, e, q, (n, same)). sym (ap (λ (t : FieldType). t.element_type) same)) (of_thing c.in_ok-append_to.ensures) in
    paid (wrote element c.args.self.now.mutable (λ z place at first after p (n, same). sym (ap (λ (t : FieldType). t.mutable) same)) (of_thing c.in_ok-append_mutability.ensures)) refl
