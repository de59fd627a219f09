use Rattle.std.proofs.Common.{◌≡◌, ◌&&◌, ℕ, ◌+◌, ◌-◌, ◌^◌, Bool, true, false, List, [], ◌∷◌, ◌++◌, length, min, Option, Some, None, refl, subst, ap, ◌∙◌, arith}
use Rattle.wasm_operators.specs.below.declared.features.WasmFeatures.{WasmFeatures}
use Rattle.wasm_operators.specs.below.Source.{Reader, reader_of}
use Rattle.wasm_module.specs.Sections.{IsSection}
use Rattle.wasm_module.specs.ModuleFunctions.{ModuleFunctions, DescribesFunctions, IsDefined, index_of}
use Rattle.wasm_disassembly.specs.declared.listing_fault.Fault.{Fault}
use Rattle.wasm_disassembly.specs.declared.listing_fault.Fault.TheVariants as fault
use Rattle.wasm_disassembly.specs.Listing.{is_asked, WhereAsked, AreAsked, HasAsked, IsModuleOf, OpensModule, FailsModule, IsThere, IsOutside}

pub both_true : (a b : Bool) → a ≡ true → b ≡ true → (a && b) ≡ true
both_true true true p q = refl
both_true true false p q = q
both_true false b p q = p

pub asked_split : (Is : Reader → Type 0) (t : ModuleFunctions) (only : Option ℕ) (place : ℕ) (bs : List Reader) (b : Reader) (at : ℕ) → at ≡ place + length bs →
    AreAsked Is t only place (bs ++ b ∷ []) → AreAsked Is t only place bs × WhereAsked (is_asked only (index_of t at)) (Is b) (Unit {0})
asked_split Is t only place [] b at is (one, none) =
    let here : place ≡ at = let h : at ≡ place + 0 = is in omega (arith, h) in
    (tt, subst (λ n. WhereAsked (is_asked only (index_of t n)) (Is b) (Unit {0})) here one)
asked_split Is t only place (c ∷ cs) b at is (first, others) =
    let next : at ≡ place + 1 + length cs = is ∙ omega arith in
    let more = asked_split Is t only (place + 1) cs b at next others in ((first, more.0), more.1)

same_asked : (Is : Reader → Type 0) (t u : ModuleFunctions) (only : Option ℕ) (place : ℕ) (bs : List Reader) → t.imported ≡ u.imported →
    AreAsked Is t only place bs → AreAsked Is u only place bs
same_asked Is t u only place [] same h = tt
same_asked Is t u only place (b ∷ bs) same (one, others) = (
  subst (λ n. WhereAsked (is_asked only (min (n + place) (2 ^ 32 - 1))) (Is b) (Unit {0})) same one,
  same_asked Is t u only (place + 1) bs same others,
)

same_found : (Is : Reader → Type 0) (t u : ModuleFunctions) (only : Option ℕ) (code : Option Reader) → t.imported ≡ u.imported → HasAsked Is t only code →
    HasAsked Is u only code
same_found Is t u only None same h = tt
same_found Is t u only (Some contents) same (bodies, is, asked) = (bodies, is, same_asked Is t u only 0 bodies same asked)

same_own : (t u : ModuleFunctions) (index : ℕ) → t.imported ≡ u.imported → t.types ≡ u.types → IsDefined t index → IsDefined u index
same_own t u index imported types (from, to) = let l = ap length types in (omega (arith, imported, from), omega (arith, imported, l, to))

abbrev OneSection : Type 0
OneSection = (whole : Reader) → (id : ℕ) → (a b : Option Reader) → IsSection whole id a → IsSection whole id b → a ≡ b

abbrev SameFunctions : Type 0
SameFunctions = (whole : Reader) → (t u : ModuleFunctions) → DescribesFunctions whole t → DescribesFunctions whole u → (t.imported ≡ u.imported) × (t.types ≡ u.types)

-- The functions at which a module was opened have the property.
pub asked_there : OneSection → SameFunctions → (Is : Reader → Type 0) (features : WasmFeatures) (only : Option ℕ) (bytes : List ℕ) (t : ModuleFunctions)
    (code : Option Reader) → OpensModule features only bytes t code → IsModuleOf Is features only bytes → HasAsked Is t only code
asked_there one_section same_functions Is features only bytes t code o h =
    let whole = reader_of features 0 bytes in
    let found = one_section whole 10 h.code code h.opens.is_code o.is_code in
    let same = same_functions whole h.functions t h.opens.described o.described in
    subst (λ c. HasAsked Is t only c) found (same_found Is h.functions t only h.code same.0 h.bodies)

pub refused_outside : SameFunctions → (Is : Reader → Type 0) (features : WasmFeatures) (only : Option ℕ) (bytes : List ℕ) (f : Fault) →
    FailsModule features only bytes f → IsModuleOf Is features only bytes → IsOutside f
refused_outside same_functions Is features only bytes (fault.Module f) refuses h = refuses.1 h.functions h.opens.described
refused_outside same_functions Is features only bytes (fault.NoFunction missing) (is, lacks) h =
    let same = same_functions (reader_of features 0 bytes) h.functions lacks.functions h.opens.described lacks.described in
    let own : IsDefined h.functions missing.index = subst (λ o. IsThere h.functions o) is h.opens.is_there in
    absurd (lacks.is_not (same_own h.functions lacks.functions missing.index same.0 same.1 own))
refused_outside same_functions Is features only bytes (fault.Section e) refuses h = absurd refuses
refused_outside same_functions Is features only bytes (fault.Code e) refuses h = absurd refuses
refused_outside same_functions Is features only bytes fault.Writing refuses h = absurd refuses
refused_outside same_functions Is features only bytes fault.Memory refuses h = absurd refuses
