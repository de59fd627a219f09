-- Types that match a label of one type.
use Rattle.std.proofs.Common.{◌≡◌, Bool, true, false, if◌then◌else◌, List, [], ◌∷◌, length, get_or, refl, sym, ap, ◌∙◌, arith}
use Rattle.wasm_below.specs.declared.types.ValType.{ValType}
use Rattle.wasm_typing.specs.declared.value_type.ValueType.{ValueType}
use Rattle.wasm_typing.specs.Types.{Stack, value_type}
use Rattle.wasm_typing.specs.Matching.{TypeOrder, matches}
use Rattle.wasm_typing.specs.Checking.{all_match}
use Rattle.wasm_check_control.specs.Environment.{stack_of}
use Rattle.wasm_check_control.proofs.OnTop.{unequal_lengths, stack_length}

module _ (O : TypeOrder) where
  -- Not one type.
  pub other_length : (types : List ValType) (wanted : ValueType) → (length types ≡ 1 → ⊥) → false ≡ all_match O (stack_of types) (wanted ∷ [])
  other_length types wanted n = unequal_lengths O (stack_of types) (wanted ∷ []) (λ e. n (sym (stack_length types) ∙ e))

  -- No type below a reference that matches.
  pub none_below : (types : List ValType) (k wanted : ValueType) (b : Bool) → matches O k wanted ≡ true → (b ≡ true → length types ≡ 0) → (types ≡ [] → b ≡ true) →
      b ≡ all_match O (k ∷ stack_of types) (wanted ∷ [])
  none_below types k wanted b m f g = go types b f g ∙ sym (ap (λ t. if t then all_match O (stack_of types) [] else false) m)
    where
      go : (ts : List ValType) (b : Bool) → (b ≡ true → length ts ≡ 0) → (ts ≡ [] → b ≡ true) → b ≡ all_match O (stack_of ts) []
      go [] b f g = g refl
      go (t ∷ ts) true f g = let z = f refl in absurd (omega (arith, z))
      go (t ∷ ts) false f g = unequal_lengths O (stack_of (t ∷ ts)) [] (λ e. let n = stack_length (t ∷ ts) in absurd (omega (arith, n, e)))

  pub one_type : (types : List ValType) (d : ValType) (k wanted : ValueType) (b : Bool) → length types ≡ 1 → k ≡ value_type (get_or types 0 d) → b ≡ matches O k wanted →
      b ≡ all_match O (stack_of types) (wanted ∷ [])
  one_type [] d k wanted b n i m = absurd (omega (arith, n))
  one_type (t ∷ []) d k wanted b n i m = m ∙ ap (λ x. matches O x wanted) i ∙ go (matches O (value_type t) wanted)
    where
      go : (test : Bool) → test ≡ (if test then true else false)
      go true = refl
      go false = refl
  one_type (t ∷ u ∷ ts) d k wanted b n i m = absurd (omega (arith, n))
