-- Written by tools/lists.py from tools/operators.tsv.
use Rattle.std.proofs.Common.{[], None, refl, subst, arith, ◌≡◌, ◌∷◌}
use Rattle.wasm_instr.specs.declared.operator.Operator.TheVariants as operator
use Rattle.wasm_imm.specs.Immediate.{memory_index}
use Rattle.wasm_decode_groups.specs.Arms.{IsRow}
use Rattle.wasm_decode_groups.proofs.Codes.{one_byte_memory_index_codes}
use Rattle.wasm_decode_groups.proofs.one_byte_operators.MakerMakesOneByteMemoryIndex.make.Goals as goal

pub returns-in_default : goal.returns-in_default
returns-in_default c =
    let h = one_byte_memory_index_codes c.args.code c.requires.kinds in
    let same : 0x40 ≡ c.args.code = first_of (omega (arith, h), grind (arith, h)) in
    subst (λ k. IsRow None k (memory_index c.args.it.0 ∷ []) (operator.MemoryGrow (c.args.it.0))) same (refl, refl, refl)
