use Rattle.std.proofs.Common.{◌≡◌, ◌∙◌, ℕ, ℤ, pos, false, Fits, w32, refl, sym, ap, subst, arith, rules, w64, ◌<ℤ◌}
use Rattle.std.proofs.Math.Dec.{T}
use Rattle.std.proofs.lemmas.Int.{ints, to_z-of_z}
use lib.IntN.{nat_abs}
use lib.Signed.{non_neg, lt_z}
use mir.Val.{SFits}
use Rattle.wasm_below.specs.Number.{EncodesSigned}
use Rattle.wasm_below.proofs.Ahead.{stays, advances}
use Rattle.wasm_below.proofs.SignedNumbers.{signed_fits}
use Rattle.wasm_imm.specs.BlockTypeFaults.{FunctionTypeFault}
use Rattle.wasm_imm.specs.BlockTypes.{EncodesFunctionType}
use Rattle.wasm_imm.proofs.BlockTypes.{cast_fits, index_fails, negative_fails}
use Rattle.wasm_imm.proofs.block_type.read_function_type.Goals as goal

pub overflow_cast-result : goal.overflow_cast-result
overflow_cast-result c =
    let n = c.in_ok-index.index in
    let fits : SFits w64 n = search rules in
    let same = to_z-of_z w64 n fits in
    let r = c.in_ok-index.ensures in
    let some : lt_z n (pos 0) ≡ false = ap (λ (z : ℤ). lt_z z (pos 0)) (sym same) ∙ c.if-index-lt0.false in
    subst (λ (z : ℤ). T (non_neg z) × Fits w32 (nat_abs z)) (sym same) (cast_fits n some (signed_fits r.0 33 n r.1))

pub returns-then-index-lt0 : goal.returns-then-index-lt0
returns-then-index-lt0 c =
    let fits : SFits w64 c.in_ok-index.index = search rules in
    let same = to_z-of_z w64 c.in_ok-index.index fits in
    let over : (i : ℕ) → c.in_ok-index.index ≡ pos i → ⊥ = λ i e. absurd (omega (arith, ints, c.if-index-lt0.true, same, e)) in
    let under : c.in_ok-index.index <ℤ pos 0 = omega (arith, ints, c.if-index-lt0.true, same) in
    let offset = c.new.ensures.offset ∙ c.original_position.ensures in
    let read = advances (EncodesSigned 33) c.clone-ahead.ensures c.in_ok-index.ensures in
    let k = negative_fails _ _ c.in_ok-index.index read over offset (under, c.new.ensures.message, offset) in
    (refl, k.0, k.1)

pub returns-in_err-index : goal.returns-in_err-index
returns-in_err-index c =
    let h = c.in_err-index.ensures in
    stays EncodesFunctionType FunctionTypeFault _ c.clone-ahead.ensures c.from_residual.ensures.1 (index_fails (h.1, h.2))
