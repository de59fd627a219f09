-- The fields of a structure, one after another.
use Rattle.std.proofs.Common.{◌≡◌, ℕ, suc, ◌+◌, ◌<◌, Bool, if◌then◌else◌, false, List, length, drop, get_or, sym, ap, ◌∙◌, add-one}
use Rattle.std.proofs.Math.Seq.{drop-cons}
use Rattle.wasm_types.specs.declared.fields.FieldType.{FieldType}
use Rattle.wasm_check_operators.specs.Aggregates.{has_default, have_defaults}

-- The test of one field decides about the rest.
pub field_tested : (fields : List FieldType) (i : ℕ) (d : FieldType) (test : Bool) → i < length fields → has_default (get_or fields i d) ≡ test →
    have_defaults (drop i fields) ≡ have_defaults fields → (if test then have_defaults (drop (i + 1) fields) else false) ≡ have_defaults fields
field_tested fields i d test p t h =
    ap (λ k. if test then have_defaults (drop k fields) else false) (add-one i) ∙ ap (λ b. if b then have_defaults (drop (suc i) fields) else false) (sym t) ∙
    ap have_defaults (sym (drop-cons fields i d p)) ∙ h
