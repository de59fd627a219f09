-- Written by tools/lists.py from tools/operators.tsv.
use Rattle.std.proofs.Common.{[], None, refl, subst, arith, ◌≡◌, ◌∷◌}
use Rattle.wasm_instr.specs.declared.operator.Operator.TheVariants as operator
use Rattle.wasm_imm.specs.Immediate.{memory_index}
use Rattle.wasm_decode_opcodes.specs.Decoding.{VisitsRow}
use Rattle.wasm_decode_groups.proofs.Codes.{one_byte_memory_index_codes}
use Rattle.wasm_decode_groups.proofs.one_byte_operators.OwnAtOneByteMemoryIndex.at.Goals as goal

pub returns-in_default : goal.returns-in_default
returns-in_default g c =
    let h = one_byte_memory_index_codes c.args.code c.requires.kinds in
    let same : 0x40 ≡ c.args.code = first_of (omega (arith, h), grind (arith, h)) in
    subst (λ k. VisitsRow g.V.Visitor.visits None k (memory_index c.args.it.0 ∷ []) c.args.v.now c.visit_memory_grow.result c.visit_memory_grow.new.self) same (operator.MemoryGrow (c.args.it.0), refl, refl, refl, c.visit_memory_grow.ensures)
