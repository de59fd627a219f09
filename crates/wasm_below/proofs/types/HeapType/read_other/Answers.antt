use Rattle.std.proofs.Common.{refl}
use Rattle.std.proofs.lemmas.Bool.{both_ways}
use Rattle.std.proofs.lemmas.Result.{err_from_is_err_and}
use Rattle.wasm_below.specs.declared.message.TypeName.TheVariants as type_name
use Rattle.wasm_below.specs.TypeEncoding.{LeadsShort, EncodesShort, EncodesExact, EncodesConcrete, EncodesHeapType, ShortFault, ExactFault, ConcreteFault, HeapTypeFault}
use Rattle.wasm_below.proofs.TypeFaults.{end_heap, short_fault, exact_fault, concrete_fault}
use Rattle.wasm_below.proofs.Prefixes.{end_refused, led_reads}
use Rattle.wasm_below.proofs.TypeEncodings.{heap_empty, heap_short, heap_exact, heap_concrete, short_heap, exact_heap, concrete_heap}
use Rattle.wasm_below.proofs.types.HeapType.read_other.Goals as goal

pub returns-in_err-byte : goal.returns-in_err-byte
returns-in_err-byte c =
    let p = err_from_is_err_and c.from_residual.result c.from_residual.ensures.1 in
    let h = c.in_err-byte.ensures.end in
    let e = c.in_err-byte.field-0.0 in
    rw (p.1, p.2) (refl, end_refused EncodesHeapType e c.args.reader.now heap_empty h, end_heap e c.args.reader.now h)

pub returns-then-leads_short : goal.returns-then-leads_short
returns-then-leads_short c =
    let b = c.in_ok-byte.byte in
    let prefix = c.in_ok-byte.ensures.prefix in
    let leads = c.leads_short.ensures.0 c.if-leads_short.true in
    led_reads EncodesShort EncodesHeapType (ShortFault type_name.HeapType) HeapTypeFault c.read_short.result c.args.reader.now c.read_short.new.reader b prefix
    short_heap heap_empty (heap_short b leads) (short_fault b c.args.reader.now prefix leads) c.read_short.ensures

pub returns-then-byte-eq-EXACT : goal.returns-then-byte-eq-EXACT
returns-then-byte-eq-EXACT c =
    let b = c.in_ok-byte.byte in
    let prefix = c.in_ok-byte.ensures.prefix in
    let same = c.if-byte-eq-EXACT.true in
    led_reads EncodesExact EncodesHeapType ExactFault HeapTypeFault c.read_exact.result c.args.reader.now c.read_exact.new.reader b prefix exact_heap heap_empty
    (heap_exact b same) (exact_fault b c.args.reader.now prefix same) c.read_exact.ensures

pub returns : goal.returns
returns c =
    let b = c.in_ok-byte.byte in
    let prefix = c.in_ok-byte.ensures.prefix in
    let no_short = λ (l : LeadsShort b). both_ways _ c.if-leads_short.false (c.leads_short.ensures.1 l) in
    led_reads EncodesConcrete EncodesHeapType ConcreteFault HeapTypeFault c.read_concrete.result c.args.reader.now c.read_concrete.new.reader b prefix
    concrete_heap heap_empty (heap_concrete b no_short c.if-byte-eq-EXACT.false)
    (concrete_fault b c.args.reader.now prefix no_short c.if-byte-eq-EXACT.false) c.read_concrete.ensures
