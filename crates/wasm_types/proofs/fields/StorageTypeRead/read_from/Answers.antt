use Rattle.std.proofs.Common.{refl, ap, arith}
use Rattle.std.proofs.lemmas.Bool.{ne_eqb, or_from}
use Rattle.std.specs.Prelude.{◌==◌}
use Rattle.wasm_below.specs.Source.{offset_of}
use Rattle.wasm_grammars.proofs.Steps.{begins, then, peeked, unpeeked, taken, fails_at, ends_as}
use Rattle.wasm_types.specs.Types.{leads_packed, packed, storage_type}
use Rattle.wasm_types.proofs.Leading.{packed_some, value_some}
use Rattle.wasm_types.proofs.fields.StorageTypeRead.read_from.Goals as goal

pub returns-in-Ok-eq120 : goal.returns-in-Ok-eq120
returns-in-Ok-eq120 c =
    let is = c.in-Ok-eq120.field-0-test in
    let read = then (peeked (begins storage_type refl) c.in-Ok-eq120.ensures.prefix (ap leads_packed is) (packed_some (offset_of c.args.reader.now)))
    (taken c.in-Ok-eq120.ensures.prefix (omega (arith, is)) c.advance.ensures) in
    ends_as read (ap (λ b. packed (b == 0x78)) is)

pub returns-in-Ok-eq119 : goal.returns-in-Ok-eq119
returns-in-Ok-eq119 c =
    let is = c.in-Ok-eq119.field-0-test in
    let read = then (peeked (begins storage_type refl) c.in-Ok-eq119.ensures.prefix (ap leads_packed is) (packed_some (offset_of c.args.reader.now)))
    (taken c.in-Ok-eq119.ensures.prefix (omega (arith, is)) c.advance-in-Ok-eq119.ensures) in
    ends_as read (ap (λ b. packed (b == 0x78)) is)

pub returns-in-Err-read : goal.returns-in-Err-read
returns-in-Err-read c =
    let far = or_from _ _ (ne_eqb _ _ c.in-Ok.field-0-test.0.1) (ne_eqb _ _ c.in-Ok.field-0-test.1) in
    (c.in-Err-read.ensures.0, fails_at (unpeeked (begins storage_type refl) c.in-Ok.ensures.prefix far (value_some (offset_of c.args.reader.now))) c.in-Err-read.ensures)
