use Rattle.std.proofs.Common.{true, false, refl, sym, subst}
use Rattle.wasm_types.specs.Types.{storage_type}
use Rattle.wasm_write_grammars.specs.Writing.{AppendsBy, NoReason}
use Rattle.wasm_write_grammars.proofs.Owing.{passed}
use Rattle.wasm_encode_sections.proofs.StorageBytes.{packed_written, val_written}
use Rattle.wasm_encode_sections.proofs.fields.StorageTypeWrite.append_to.Goals as goal

pub returns-in-I8 : goal.returns-in-I8
returns-in-I8 c = subst (λ x. AppendsBy storage_type NoReason x c.append_byte.result c.args.out.now.items c.append_byte.new.out.items) (sym c.in-I8.is)
    (passed NoReason c.append_byte.result (packed_written true 0x78 c.args.out.now.items refl refl) c.append_byte.ensures)

pub returns-in-I16 : goal.returns-in-I16
returns-in-I16 c = subst (λ x. AppendsBy storage_type NoReason x c.append_byte-in-I16.result c.args.out.now.items c.append_byte-in-I16.new.out.items) (sym c.in-I16.is)
    (passed NoReason c.append_byte-in-I16.result (packed_written false 0x77 c.args.out.now.items refl refl) c.append_byte-in-I16.ensures)

pub returns-in-Val : goal.returns-in-Val
returns-in-Val c = subst (λ x. AppendsBy storage_type NoReason x c.append_to.result c.args.out.now.items c.append_to.new.out.items) (sym c.in-Val.is)
    (passed NoReason c.append_to.result (val_written c.in-Val.ty c.args.out.now.items) c.append_to.ensures)
