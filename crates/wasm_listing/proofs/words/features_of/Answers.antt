use Rattle.std.proofs.Common.{◌≡◌, ℕ, Some, Option, ap, sym, ◌∙◌, true}
use Rattle.std.specs.Prelude.{codes, nat_eq}
use Rattle.std.specs.Cmp.Lexicographic.{pointwise}
use Rattle.wasm_operators.specs.below.declared.features.WasmFeatures.{WasmFeatures}
use Rattle.wasm_listing.proofs.words.features_of.Goals as goal

all_bits : (n : ℕ) → n ≡ 63 → Some n ≡ Some 63
all_bits n e = ap (λ (x : ℕ). let y : Option ℕ = Some x in y) e

pub returns-in_default : goal.returns-in_default
returns-in_default c =
    let bits : c.all.result.0 ≡ 63 = ap (λ (f : WasmFeatures). f.0) c.all.ensures in
    rw c.in_default.is (all_bits c.all.result.0 bits)

pub returns-then-eq : goal.returns-then-eq
returns-then-eq c =
    let bits : c.all-then-eq.result.0 ≡ 63 = ap (λ (f : WasmFeatures). f.0) c.all-then-eq.ensures in
    let is : pointwise nat_eq c.in-Some.text.now (codes "all") ≡ true = sym c.eq.ensures ∙ c.if-eq.true in
    rw (c.in-Some.is, is) (all_bits c.all-then-eq.result.0 bits)
