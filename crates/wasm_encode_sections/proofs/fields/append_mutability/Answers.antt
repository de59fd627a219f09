use Rattle.std.proofs.Common.{true, false, sym, subst}
use Rattle.wasm_types.specs.Types.{mutability}
use Rattle.wasm_write_grammars.specs.Writing.{AppendsBy, NoReason}
use Rattle.wasm_write_grammars.proofs.Owing.{passed}
use Rattle.wasm_encode_sections.proofs.StorageBytes.{mutable_written}
use Rattle.wasm_encode_sections.proofs.fields.append_mutability.Goals as goal

pub returns-then-mutable : goal.returns-then-mutable
returns-then-mutable c = subst (λ m. AppendsBy mutability NoReason m c.append_byte.result c.args.out.now.items c.append_byte.new.out.items) (sym c.if-mutable.true)
    (passed NoReason c.append_byte.result (mutable_written true) c.append_byte.ensures)

pub returns : goal.returns
returns c = subst (λ m. AppendsBy mutability NoReason m c.append_byte-2.result c.args.out.now.items c.append_byte-2.new.out.items) (sym c.if-mutable.false)
    (passed NoReason c.append_byte-2.result (mutable_written false) c.append_byte-2.ensures)
