-- Written by tools/lists.py from tools/operators.tsv.
use Rattle.std.proofs.Common.{[], None, refl, subst, arith, ◌≡◌, ◌∷◌}
use Rattle.wasm_instr.specs.declared.operator.Operator.TheVariants as operator
use Rattle.wasm_imm.specs.Immediate.{heap_type}
use Rattle.wasm_decode_groups.specs.Arms.{IsRow}
use Rattle.wasm_decode_groups.proofs.Codes.{one_byte_heap_type_codes}
use Rattle.wasm_decode_groups.proofs.one_byte_operators.MakerMakesOneByteHeapType.make.Goals as goal

pub returns : goal.returns
returns c =
    let h = one_byte_heap_type_codes c.args._code c.requires.kinds in
    let same : 0xd0 ≡ c.args._code = first_of (omega (arith, h), grind (arith, h)) in
    subst (λ k. IsRow None k (heap_type c.args.it ∷ []) (operator.RefNull (c.args.it))) same (refl, refl, refl)
