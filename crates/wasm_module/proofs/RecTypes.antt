use Rattle.std.proofs.Common.{◌≡◌, ◌⊎◌, ℕ, true, false, List, [], ◌∷◌, ◌++◌, length, map, get_or, Result, Ok, Err, refl, sym, subst, ap, ◌∙◌, inl, inr, append_assoc, arith}
use Rattle.std.specs.Prelude.{nat_eq}
use Rattle.std.proofs.lemmas.Bool.{eqb-true, eqb-false, cases_Bool}
use Rattle.std.proofs.lemmas.List.{map-append, flat_map_more}
use Rattle.wasm_below.specs.declared.error.Error.{Error}
use Rattle.wasm_below.specs.Source.{Reader, rest, BeginsWith, HasRead}
use Rattle.wasm_module.specs.Types.{EncodesSubType, EncodesRecTypeLength}
use Rattle.wasm_module.specs.declared.composite.CompositeType.{CompositeType}
use Rattle.wasm_module.specs.Items.{ItemsOccur}
use Rattle.wasm_module.specs.Parameters.{parameter_count, parameters_in, Announces, RecTypeOccurs, RecTypesOccur}

pub rec_type_more : (r : Reader) (gs : List (List CompositeType)) (mid new : Reader) (g : List CompositeType) → RecTypesOccur r gs mid → RecTypeOccurs mid g new →
    RecTypesOccur r (gs ++ g ∷ []) new
rec_type_more r [] mid new g same occurs = (new, subst (λ z. RecTypeOccurs z g new) same occurs, refl)
rec_type_more r (h ∷ hs) mid new g (next, first, others) occurs = (next, first, rec_type_more next hs mid new g others occurs)

pub count_more : (before : List ℕ) (types : List CompositeType) (ty : CompositeType) →
    (before ++ map parameter_count types) ++ parameter_count ty ∷ [] ≡ before ++ map parameter_count (types ++ ty ∷ [])
count_more before types ty =
    append_assoc before (map parameter_count types) (parameter_count ty ∷ []) ∙ ap (λ z. before ++ z) (sym (map-append parameter_count types (ty ∷ [])))

pub parameters_more : (rec_types : List (List CompositeType)) (types : List CompositeType) →
    parameters_in rec_types ++ map parameter_count types ≡ parameters_in (rec_types ++ types ∷ [])
parameters_more rec_types types = flat_map_more (λ (g : List CompositeType). map parameter_count g) [] rec_types types

begins_by : (byte b : ℕ) (bs : List ℕ) → (nat_eq b byte ≡ true) ⊎ (nat_eq b byte ≡ false) → BeginsWith byte (b ∷ bs) ⊎ (BeginsWith byte (b ∷ bs) → ⊥)
begins_by byte b bs (inl is) = inl (bs, ap (λ z. z ∷ bs) (eqb-true b byte is))
begins_by byte b bs (inr not) = inr (λ h. eqb-false b byte not (ap (λ z. get_or z 0 0) h.1))

pub begins : (byte : ℕ) (bs : List ℕ) → BeginsWith byte bs ⊎ (BeginsWith byte bs → ⊥)
begins byte [] = inr (λ h. let none = ap length h.1 in absurd (omega (arith, none)))
begins byte (b ∷ bs) = begins_by byte b bs (cases_Bool (nat_eq b byte))

abbrev value_or : Result ℕ Error → ℕ
value_or (Ok n) = n
value_or (Err e) = 0

abbrev read : ℕ → Result ℕ Error
read n = Ok n

announced_by : (n : ℕ) (r first : Reader) → (BeginsWith 0x4e (rest r) → HasRead EncodesRecTypeLength n r first) →
    ((BeginsWith 0x4e (rest r) → ⊥) → (read n ≡ read 1) × (first ≡ r)) → BeginsWith 0x4e (rest r) ⊎ (BeginsWith 0x4e (rest r) → ⊥) → Announces n r first
announced_by n r first rec_type one (inl is) = inl (is, rec_type is)
announced_by n r first rec_type one (inr not) = let o = one not in inr (not, ap value_or o.0, o.1)

pub rec_type_announced : (n : ℕ) (r first : Reader) → (BeginsWith 0x4e (rest r) → HasRead EncodesRecTypeLength n r first) →
    ((BeginsWith 0x4e (rest r) → ⊥) → (read n ≡ read 1) × (first ≡ r)) → Announces n r first
rec_type_announced n r first rec_type one = announced_by n r first rec_type one (begins 0x4e (rest r))

pub rec_type_occurs : (n : ℕ) (r first end : Reader) (types : List CompositeType) → (BeginsWith 0x4e (rest r) → HasRead EncodesRecTypeLength n r first) →
    ((BeginsWith 0x4e (rest r) → ⊥) → (read n ≡ read 1) × (first ≡ r)) → length types ≡ n → ItemsOccur EncodesSubType first types end →
    RecTypeOccurs r types end
rec_type_occurs n r first end types rec_type one all occur =
    (first, subst (λ k. Announces k r first) (sym all) (rec_type_announced n r first rec_type one), occur)
