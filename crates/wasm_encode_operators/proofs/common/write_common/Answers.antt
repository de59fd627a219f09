use Rattle.std.proofs.Common.{refl, subst, rules}
use mir.Val.{SFits}
use Rattle.std.specs.Int.{w32, w64}
use Rattle.std.proofs.lemmas.Int.{to_z-of_z}
use Rattle.wasm_below.specs.Number.{EncodesUnsigned, EncodesSigned}
use Rattle.wasm_imm.specs.BlockTypes.{EncodesBlockType}
use Rattle.wasm_imm.specs.Immediate.{unsigned_32, signed_32, signed_64, block_type}
use Rattle.wasm_encode_numbers.specs.Appended.{Appends}
use Rattle.wasm_encode_immediates.proofs.Sequences.{nothing_appended, one_appended}
use Rattle.wasm_encode_immediates.proofs.TypeTexts.{block_written}
use Rattle.wasm_encode_operators.proofs.CommonForms.{common_written, plain_written}
use Rattle.wasm_encode_operators.proofs.common.write_common.Goals as goal

pub returns-in-Byte-clause-written : goal.returns-in-Byte-clause-written
returns-in-Byte-clause-written c = λ yes.
    common_written c.args.op.now _ _ _ _ _ c.in-Byte.ensures c.push_reserved.ensures.items (λ f. nothing_appended f _)

pub returns-in-Unsigned-clause-written : goal.returns-in-Unsigned-clause-written
returns-in-Unsigned-clause-written c = λ yes.
    let n = c.in-Unsigned.value in
    common_written c.args.op.now _ _ _ _ _ c.in-Unsigned.ensures c.push_reserved-in-Unsigned.ensures.items
    (λ f. one_appended (EncodesUnsigned 32) f n (unsigned_32 n) _ _ (λ t p. p) (λ t p. p) c.write_u32.ensures.written)

pub returns-in-Signed32-clause-written : goal.returns-in-Signed32-clause-written
returns-in-Signed32-clause-written c = λ yes.
    let n = c.in-Signed32.value in
    let fits : SFits w32 n = search rules in
    let written = subst (λ v. Appends (EncodesSigned 32) v c.push_reserved-in-Signed32.new.self.items c.write_i32.new.out.items) (to_z-of_z w32 n fits) c.write_i32.ensures.written in
    common_written c.args.op.now _ _ _ _ _ c.in-Signed32.ensures c.push_reserved-in-Signed32.ensures.items
    (λ f. one_appended (EncodesSigned 32) f n (signed_32 n) _ _ (λ t p. p) (λ t p. p) written)

pub returns-in-Signed64-clause-written : goal.returns-in-Signed64-clause-written
returns-in-Signed64-clause-written c = λ yes.
    let n = c.in-Signed64.value in
    let fits : SFits w64 n = search rules in
    let written = subst (λ v. Appends (EncodesSigned 64) v c.push_reserved-in-Signed64.new.self.items c.write_i64.new.out.items) (to_z-of_z w64 n fits) c.write_i64.ensures.written in
    common_written c.args.op.now _ _ _ _ _ c.in-Signed64.ensures c.push_reserved-in-Signed64.ensures.items
    (λ f. one_appended (EncodesSigned 64) f n (signed_64 n) _ _ (λ t p. p) (λ t p. p) written)

pub returns-in-Block-clause-written : goal.returns-in-Block-clause-written
returns-in-Block-clause-written c = λ yes.
    let ty = c.in-Block.ty in
    common_written c.args.op.now _ _ _ _ _ c.in-Block.ensures c.push_reserved-in-Block.ensures.items
    (λ f. one_appended EncodesBlockType f ty (block_type ty) _ _ (λ t p. p) (λ t p. p) (block_written ty _ _ c.write_block_type.ensures.fits c.write_block_type.ensures.bytes))

pub returns-else-not-is_plain-clause-written : goal.returns-else-not-is_plain-clause-written
returns-else-not-is_plain-clause-written c = λ yes.
    common_written c.args.op.now _ _ _ _ _ c.in-Access.ensures c.push_reserved-in-Access.ensures.items
    (λ f. plain_written f c.in-Access.natural c.in-Access.memarg _ _ _ (c.if-not-is_plain.ensures refl) c.push_reserved-in-Access-2.ensures.items c.write_u64.ensures.bytes)
