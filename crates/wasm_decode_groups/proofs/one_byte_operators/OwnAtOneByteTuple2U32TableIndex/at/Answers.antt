-- Written by tools/lists.py from tools/operators.tsv.
use Rattle.std.proofs.Common.{[], None, refl, subst, arith, ◌≡◌, ◌∷◌}
use Rattle.wasm_instr.specs.declared.operator.Operator.TheVariants as operator
use Rattle.wasm_imm.specs.Immediate.{unsigned_32, table_index_32}
use Rattle.wasm_decode_opcodes.specs.Decoding.{VisitsRow}
use Rattle.wasm_decode_groups.proofs.Codes.{one_byte_unsigned_table_index_codes}
use Rattle.wasm_decode_groups.proofs.one_byte_operators.OwnAtOneByteTuple2U32TableIndex.at.Goals as goal

pub returns : goal.returns
returns g c =
    let h = one_byte_unsigned_table_index_codes c.args._code c.requires.kinds in
    let same : 0x11 ≡ c.args._code = first_of (omega (arith, h), grind (arith, h)) in
    subst (λ k. VisitsRow g.V.Visitor.visits None k (unsigned_32 c.args.it.0 ∷ table_index_32 c.args.it.1.0 ∷ []) c.args.v.now c.visit_call_indirect.result c.visit_call_indirect.new.self) same (operator.CallIndirect (c.args.it.0) (c.args.it.1.0), refl, refl, refl, c.visit_call_indirect.ensures)
