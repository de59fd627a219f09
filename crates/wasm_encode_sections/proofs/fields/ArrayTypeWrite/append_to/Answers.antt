use Rattle.std.proofs.Common.{ap, sym, refl}
use Rattle.wasm_types.specs.declared.fields.ArrayType.{ArrayType}
use Rattle.wasm_types.specs.Types.{array_type}
use Rattle.wasm_write_grammars.specs.Writing.{NoReason}
use Rattle.wasm_write_grammars.proofs.Owing.{owes, wrote, part_fails, paid}
use Rattle.wasm_encode_sections.proofs.fields.ArrayTypeWrite.append_to.Goals as goal

pub returns-in_err-append_to : goal.returns-in_err-append_to
returns-in_err-append_to c =
    part_fails NoReason _ c.from_residual.ensures.1 (owes array_type c.args.self.now c.args.out.now.items) c.args.self.now.0
    (λ z place at first after p (n, same). sym (ap (λ (t : ArrayType). t.0) same)) c.in_err-append_to.ensures (λ r. r)

pub returns : goal.returns
returns c =
    paid (wrote (owes array_type c.args.self.now c.args.out.now.items) c.args.self.now.0
    (λ z place at first after p (n, same). sym (ap (λ (t : ArrayType). t.0) same)) c.in_ok-append_to.ensures) refl
