-- Written by tools/lists.py from tools/operators.tsv.
use Rattle.std.proofs.Common.{[], None, refl, subst, arith, ◌≡◌, ◌∷◌}
use Rattle.wasm_imm.specs.declared.memory_argument.MemArgKind.TheVariants as kind
use Rattle.wasm_instr.specs.declared.operator.Operator.TheVariants as operator
use Rattle.wasm_imm.specs.Immediate.{memory_argument}
use Rattle.wasm_decode_opcodes.specs.Decoding.{VisitsRow}
use Rattle.wasm_decode_opcodes.specs.Entries.{align_at}
use Rattle.wasm_decode_groups.proofs.Codes.{one_byte_memory_codes}
use Rattle.wasm_decode_groups.proofs.one_byte_operators.OwnAtOneBytePlainMemArg.at.Goals as goal

pub returns-in_default : goal.returns-in_default
returns-in_default g c =
    let h = one_byte_memory_codes c.args.code c.requires.kinds in
    let same : 0x3e ≡ c.args.code = first_of (omega (arith, h), grind (arith, h)) in
    subst (λ k. VisitsRow g.V.Visitor.visits None k (memory_argument kind.Plain (align_at None k) c.args.it.0 ∷ []) c.args.v.now c.visit_i64_store32.result c.visit_i64_store32.new.self) same (operator.I64Store32 (c.args.it.0), refl, refl, refl, c.visit_i64_store32.ensures)
