-- What a read of a constant expression says is what its grammar asks for.
use Rattle.std.proofs.Common.{◌≡◌, Result, Ok, Err, refl}
use Rattle.std.specs.Prelude.{IfOk}
use Rattle.wasm_below.specs.declared.error.Error.{Error}
use Rattle.wasm_below.specs.FromReader.{IsRefused, ReadsValue}
use Rattle.wasm_below.specs.Source.{Reader, offset_of}
use Rattle.wasm_grammars.specs.Reading.{Reads}
use Rattle.wasm_grammars.proofs.Steps.{begins, placed, value_fails}
use Rattle.wasm_operators.specs.Constant.{EncodesConstantReader}
use Rattle.wasm_operators.specs.ConstantFaults.{ConstantFault, ConstantMayAllocate}
use Rattle.wasm_constants.specs.ConstantLaws.{EncodesConstantAt, constant_is_part}
use Rattle.wasm_constants.specs.Constants.{const_expr}

pub constant_reads : (result : Result Reader Error) (old new : Reader) →
    ReadsValue (EncodesConstantReader old.features) ConstantFault ConstantMayAllocate result old new → IfOk result (λ c. c.start ≡ offset_of old) →
    Reads (const_expr old.features) result old new
constant_reads (Ok c) old new (text, p, t) at = (placed (begins (const_expr old.features) {old = old} {copy = old} refl)).reads c new (text, (p, at), t)
constant_reads (Err e) old new (same, h) at =
    let constant = placed (begins (const_expr old.features) {old = old} {copy = old} refl) in
    let refused : IsRefused (EncodesConstantAt old.features (offset_of old)) ConstantFault ConstantMayAllocate e old =
    record { refuses = λ more follow text after c p. h.refuses more follow text after c p.0; ahead = h.ahead; fault = h.fault; memory = h.memory } in (
      same,
      constant.fails e (value_fails (EncodesConstantAt old.features (offset_of old)) ConstantFault ConstantMayAllocate
          (constant_is_part old.features (offset_of old)) (offset_of old) e old new constant.later (same, refused)),
    )
