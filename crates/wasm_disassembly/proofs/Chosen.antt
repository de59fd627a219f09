use Rattle.std.proofs.Common.{◌≡◌, ℕ, Bool, true, false, not, refl, List, Option, Err}
use Rattle.std.specs.Bool.{OnTrue, OnFalse}
use Rattle.wasm_operators.specs.below.declared.error.Error.{Error}
use Rattle.wasm_operators.specs.below.declared.features.WasmFeatures.{WasmFeatures}
use Rattle.wasm_disassembly.specs.declared.listing_fault.Fault.{Fault}
use Rattle.wasm_disassembly.specs.declared.listing_fault.Fault.TheVariants as fault
use Rattle.wasm_disassembly.specs.ModuleCensus.{CountsModule, TabulatesModule}

pub on_true : (b : Bool) (P : Type 0) → P → OnTrue b P
on_true true P p = p
on_true false P p = tt

pub on_false : (b : Bool) (P : Type 0) → P → OnFalse b P
on_false true P p = tt
on_false false P p = p

pub not_on_false : (b : Bool) (P : Type 0) → not b ≡ false → OnFalse b P
not_on_false true P is = tt
not_on_false false P is = let h : true ≡ false = is in absurd cc

pub not_on_true : (b : Bool) (P : Type 0) → not b ≡ true → OnTrue b P
not_on_true true P is = let h : false ≡ true = is in absurd cc
not_on_true false P is = tt

-- If nothing is counted, nothing is written.
pub tabulates_none : {S : Type 0} (reports : S → ℕ → Error → S → Type 0) (features : WasmFeatures) (only : Option ℕ) (bytes : List ℕ) (f : Fault)
    (before after : S) (old : Option (List ℕ)) → CountsModule reports features only bytes (Err f) before after →
    TabulatesModule reports features only bytes (Err f) before after old old
tabulates_none reports features only bytes (fault.Code e) before after old counts = (counts, refl)
tabulates_none reports features only bytes (fault.Module f) before after old (refuses, same) = (refuses, same, refl)
tabulates_none reports features only bytes (fault.NoFunction i) before after old (refuses, same) = (refuses, same, refl)
tabulates_none reports features only bytes (fault.Section e) before after old (refuses, same) = (refuses, same, refl)
tabulates_none reports features only bytes fault.Writing before after old counts = tt
tabulates_none reports features only bytes fault.Memory before after old counts = tt
