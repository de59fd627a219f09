use Rattle.std.proofs.Common.{true, false, subst}
use Rattle.wasm_below.specs.declared.message.TypeName.TheVariants as type_name
use Rattle.wasm_below.specs.Source.{rest, BeginsWith}
use Rattle.wasm_below.specs.TypeEncoding.{EncodesShortRef, EncodesLongRef, EncodesRefType, ShortFault, RefTypeFault}
use Rattle.wasm_below.proofs.Prefixes.{led_reads}
use Rattle.wasm_below.proofs.TypeEncodings.{ref_empty, ref_long, ref_short, long_ref, short_ref, short_ref_fault}
use Rattle.wasm_below.proofs.types.RefType.read.Goals as goal

pub returns-then-byte-eq-REF_NULL : goal.returns-then-byte-eq-REF_NULL
returns-then-byte-eq-REF_NULL c =
    led_reads EncodesLongRef EncodesRefType RefTypeFault RefTypeFault c.read_long.result c.args.reader.now c.read_long.new.reader 99
    (subst (λ b. BeginsWith b (rest c.args.reader.now)) c.if-byte-eq-REF_NULL.true c.in_ok-byte.ensures.prefix) long_ref ref_empty (ref_long true)
    (λ m offset h. h) c.read_long.ensures

pub returns-then-byte-eq-REF : goal.returns-then-byte-eq-REF
returns-then-byte-eq-REF c =
    led_reads EncodesLongRef EncodesRefType RefTypeFault RefTypeFault c.read_long-then-byte-eq-REF.result c.args.reader.now
    c.read_long-then-byte-eq-REF.new.reader 100
    (subst (λ b. BeginsWith b (rest c.args.reader.now)) c.if-byte-eq-REF.true c.in_ok-byte.ensures.prefix) long_ref ref_empty (ref_long false)
    (λ m offset h. h) c.read_long-then-byte-eq-REF.ensures

pub returns : goal.returns
returns c =
    let b = c.in_ok-byte.byte in
    led_reads EncodesShortRef EncodesRefType (ShortFault type_name.ReferenceType) RefTypeFault c.read_short.result c.args.reader.now c.read_short.new.reader b
    c.in_ok-byte.ensures.prefix short_ref ref_empty (ref_short b c.if-byte-eq-REF_NULL.false c.if-byte-eq-REF.false)
    (short_ref_fault b c.args.reader.now c.in_ok-byte.ensures.prefix c.if-byte-eq-REF_NULL.false c.if-byte-eq-REF.false) c.read_short.ensures
