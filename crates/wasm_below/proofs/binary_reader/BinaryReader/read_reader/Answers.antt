use Rattle.std.proofs.Common.{refl, sym, subst}
use Rattle.wasm_below.specs.Ahead.{Fails}
use Rattle.wasm_below.specs.FromReader.{EncodesReader, ReaderFault}
use Rattle.wasm_below.specs.Number.{EncodesUnsigned}
use Rattle.wasm_below.specs.Source.{HasRead, U32Fault}
use Rattle.wasm_below.proofs.Ahead.{stays, advances}
use Rattle.wasm_below.proofs.Parts.{part_read, part_missing, part_refused}
use Rattle.wasm_below.proofs.binary_reader.BinaryReader.read_reader.Goals as goal

pub returns-in_err-size-clause-reads : goal.returns-in_err-size-clause-reads
returns-in_err-size-clause-reads c =
    let h = c.in_err-size.ensures in
    let fails = subst (λ r. Fails (EncodesUnsigned 32) U32Fault c.in_err-size.field-0.0 r) c.clone-ahead.ensures (h.1, h.2) in
    stays (EncodesReader c.args.self.now.features) ReaderFault c.from_residual.result refl c.from_residual.ensures.1 (part_missing fails)

pub returns-in_err-bytes-clause-reads : goal.returns-in_err-bytes-clause-reads
returns-in_err-bytes-clause-reads c =
    let h = c.in_err-bytes.ensures in
    let first = advances (EncodesUnsigned 32) c.clone-ahead.ensures c.in_ok-size.ensures in
    let returned = c.from_residual-in_err-bytes in
    stays (EncodesReader c.args.self.now.features) ReaderFault returned.result refl returned.ensures.1 (part_refused first (h.1, h.2))

pub returns-clause-reads : goal.returns-clause-reads
returns-clause-reads c =
    let old = c.args.self.now in
    let new = c.read_bytes.new.self in
    let first = advances (EncodesUnsigned 32) c.clone-ahead.ensures c.in_ok-size.ensures in
    subst (λ r. HasRead (EncodesReader old.features) r old new) (sym c.part.ensures)
    (part_read old c.read_var_u32.new.self new c.in_ok-size.field-0 c.in_ok-bytes.bytes c.original_position-offset.result first c.in_ok-bytes.ensures)
