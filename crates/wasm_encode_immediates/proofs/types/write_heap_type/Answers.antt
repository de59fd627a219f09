use Rattle.std.proofs.Common.{arith}
use Rattle.wasm_encode_immediates.proofs.ShortTexts.{not_false}
use Rattle.wasm_encode_immediates.proofs.TypeTexts.{heap_written, heap_fails}
use Rattle.wasm_encode_immediates.proofs.types.write_heap_type.Goals as goal

pub returns-then-fits_ref_type-clause-written : goal.returns-then-fits_ref_type-clause-written
returns-then-fits_ref_type-clause-written c =
    (heap_written c.args.value _ _ (c.fits_ref_type.ensures.0 c.if-fits_ref_type.true) c.write_any_heap_type.ensures.bytes, c.write_any_heap_type.ensures.capacity)

pub returns-clause-written : goal.returns-clause-written
returns-clause-written c =
    (heap_fails c.args.value _ (λ i. not_false (c.fits_ref_type.ensures.1 i) c.if-fits_ref_type.false), omega arith)
