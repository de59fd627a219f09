use Rattle.std.proofs.Common.{◌≤◌, ◌∷◌, [], refl, subst, arith, inl}
use Rattle.wasm_below.specs.Source.{rest, BeginsWith}
use Rattle.wasm_below.specs.TypeEncoding.{EncodesValType}
use Rattle.wasm_below.proofs.Prefixes.{end_refused, led_refused, led_reads, advanced}
use Rattle.wasm_imm.specs.BlockTypes.{EncodesBlockType, EncodesFunctionType}
use Rattle.wasm_imm.specs.BlockTypeFaults.{LeadsValType, FunctionTypeFault, BlockTypeFault}
use Rattle.wasm_imm.proofs.BlockTypes.{block_empty, value_block, function_block, block_function}
use Rattle.wasm_imm.proofs.Faults.{block_ended, index_fault}
use Rattle.wasm_imm.proofs.block_type.read_other.Goals as goal
use Rattle.wasm_imm.proofs.block_type.read_other.Goals.{in_default-via-then-byte-lt64, in_default-via-else-byte-lt64+else-byte-lt128}

pub returns-in-Err : goal.returns-in-Err
returns-in-Err c = (refl, end_refused EncodesBlockType c.in-Err.e c.args.reader.now block_empty c.in-Err.ensures.end, block_ended c.in-Err.e c.args.reader.now c.in-Err.ensures.end)

pub returns-in-64 : goal.returns-in-64
returns-in-64 c =
    let r = c.args.reader.now in
    (64 ∷ [], refl, advanced r c.advance.new.self 64 (subst (λ b. BeginsWith b (rest r)) c.in-64.is c.in-Ok.ensures.prefix) c.advance.ensures)

pub returns-in-Err-read : goal.returns-in-Err-read
returns-in-Err-read c =
    let h = c.in-Err-read.ensures in
    let low : 65 ≤ c.in-Ok.byte = omega arith in
    let high : c.in-Ok.byte ≤ 127 = omega arith in (
      h.0,
      led_refused EncodesValType EncodesBlockType c.in-Err-read.e c.args.reader.now c.in-Ok.byte c.in-Ok.ensures.prefix block_empty
          (value_block c.in-Ok.byte low high) h.1,
      inl (c.in-Ok.byte, (low, high), c.in-Ok.ensures.prefix, h.2),
    )

pub returns-in_default : goal.returns-in_default
returns-in_default c =
    let far : (64 ≤ c.in-Ok.byte) × (c.in-Ok.byte ≤ 127) → ⊥ = λ h.
    elim c.in_default.branch [
      | in_default-via-then-byte-lt64 w ↦ absurd (omega (
        arith,
        h.0,
        h.1,
      ))
      | in_default-via-else-byte-lt64+else-byte-lt128 w ↦ absurd (omega (arith, h.0, h.1))
    ] in
    let none : LeadsValType c.in-Ok.byte → ⊥ = λ h. far (omega (arith, h.0), h.1) in
    led_reads EncodesFunctionType EncodesBlockType FunctionTypeFault BlockTypeFault c.read_function_type.result c.args.reader.now c.read_function_type.new.reader c.in-Ok.byte
    c.in-Ok.ensures.prefix block_function block_empty (function_block c.in-Ok.byte far)
    (index_fault c.args.reader.now c.in-Ok.byte c.in-Ok.ensures.prefix none) c.read_function_type.ensures
