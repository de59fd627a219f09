use Rattle.std.proofs.Common.{ap, sym, refl}
use Rattle.wasm_types.specs.declared.fields.StructType.{StructType}
use Rattle.wasm_types.specs.Types.{struct_type}
use Rattle.wasm_write_grammars.proofs.Owing.{owes, wrote, part_fails, paid}
use Rattle.wasm_encode_sections.specs.TypeReasons.{StructReason}
use Rattle.wasm_encode_sections.proofs.SameValue.{writes_as, fails_as}
use Rattle.wasm_encode_sections.proofs.fields.StructTypeWrite.append_to.Goals as goal

pub returns-in_err-append_list : goal.returns-in_err-append_list
returns-in_err-append_list c =
    part_fails StructReason _ c.from_residual.ensures.1 (owes struct_type c.args.self.now c.args.out.now.items) c.args.self.now.fields
    (λ z place at first after p (n, same). sym (ap (λ (t : StructType). t.fields) same)) (fails_as c.as_slice-fields.ensures c.in_err-append_list.ensures) (λ r. r)

pub returns : goal.returns
returns c =
    paid (wrote (owes struct_type c.args.self.now c.args.out.now.items) c.args.self.now.fields
    (λ z place at first after p (n, same). sym (ap (λ (t : StructType). t.fields) same)) (writes_as c.as_slice-fields.ensures c.in_ok-append_list.ensures)) refl
