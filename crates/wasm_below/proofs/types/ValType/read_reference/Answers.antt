use Rattle.std.proofs.Common.{inl}
use Rattle.wasm_below.specs.TypeEncoding.{EncodesRefType, EncodesValType}
use Rattle.wasm_below.proofs.Prefixes.{led_refused}
use Rattle.wasm_below.proofs.TypeEncodings.{value_empty, value_ref}
use Rattle.wasm_below.proofs.types.ValType.read_reference.Goals as goal

pub returns-in-Err : goal.returns-in-Err
returns-in-Err c =
    let h = c.in-Err.ensures in
    let r = c.requires in (
      h.0,
      led_refused EncodesRefType EncodesValType c.in-Err.e c.args.reader.now r.0 r.2 value_empty (value_ref r.0 r.1) h.1,
      inl (r.0, r.1, r.2, h.2),
    )
