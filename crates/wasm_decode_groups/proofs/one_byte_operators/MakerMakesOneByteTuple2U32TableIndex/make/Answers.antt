-- Written by tools/lists.py from tools/operators.tsv.
use Rattle.std.proofs.Common.{[], None, refl, subst, arith, ◌≡◌, ◌∷◌}
use Rattle.wasm_instr.specs.declared.operator.Operator.TheVariants as operator
use Rattle.wasm_imm.specs.Immediate.{unsigned_32, table_index_32}
use Rattle.wasm_decode_groups.specs.Arms.{IsRow}
use Rattle.wasm_decode_groups.proofs.Codes.{one_byte_unsigned_table_index_codes}
use Rattle.wasm_decode_groups.proofs.one_byte_operators.MakerMakesOneByteTuple2U32TableIndex.make.Goals as goal

pub returns : goal.returns
returns c =
    let h = one_byte_unsigned_table_index_codes c.args._code c.requires.kinds in
    let same : 0x11 ≡ c.args._code = first_of (omega (arith, h), grind (arith, h)) in
    subst (λ k. IsRow None k (unsigned_32 c.args.it.0 ∷ table_index_32 c.args.it.1.0 ∷ []) (operator.CallIndirect (c.args.it.0) (c.args.it.1.0))) same (refl, refl, refl)
