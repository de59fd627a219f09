use Rattle.std.proofs.lemmas.Bool.{both_ways}
use Rattle.wasm_below.specs.declared.message.TypeName.TheVariants as type_name
use Rattle.wasm_below.specs.TypeEncoding.{EncodesNumberType, EncodesValType, LeadsRefType, ByteFault, ValTypeFault}
use Rattle.wasm_below.proofs.Prefixes.{led_reads}
use Rattle.wasm_below.proofs.TypeEncodings.{value_empty, value_number, number_value, byte_fault}
use Rattle.wasm_below.proofs.types.ValType.read.Goals as goal

pub returns : goal.returns
returns c =
    let no_ref = λ (l : LeadsRefType c.in_ok-byte.byte). both_ways _ c.if-leads_ref_type.false (c.leads_ref_type.ensures.1 l) in
    led_reads EncodesNumberType EncodesValType (ByteFault type_name.ValueType) ValTypeFault c.read_number.result c.args.reader.now c.read_number.new.reader
    c.in_ok-byte.byte c.in_ok-byte.ensures.prefix number_value value_empty (value_number c.in_ok-byte.byte no_ref)
    (byte_fault c.in_ok-byte.byte c.args.reader.now c.in_ok-byte.ensures.prefix no_ref) c.read_number.ensures
