-- The targets of a branch table, one after another.
use Rattle.std.proofs.Common.{◌≡◌, ℕ, Bool, true, false, if◌then◌else◌, List, [], ◌∷◌, length, Some, None, sym, ap, ◌∙◌}
use Rattle.wasm_typing.specs.declared.value_type.ValueType.TheVariants.{I32}
use Rattle.wasm_typing.specs.Types.{Stack}
use Rattle.wasm_typing.specs.Matching.{TypeOrder}
use Rattle.wasm_typing.specs.Rules.{at}
use Rattle.wasm_typing.specs.Steps.{Frame, labels_of}
use Rattle.wasm_check_control.specs.State.{by_rule, taken, jumped}
use Rattle.wasm_check_control.specs.Switches.{fits, label_fits, targets_fit, switch}
use Rattle.wasm_check_control.proofs.SwitchRules.{switched, same_labels}

module _ (O : TypeOrder) (labels : List Stack) (frames : List Frame) (count : ℕ) (all : Bool) where
  -- The test of one target decides about those after it.
  pub target_tested : (old new : List ℕ) (depth : ℕ) (fits : Bool) → old ≡ depth ∷ new → label_fits O (at labels depth) frames count ≡ fits →
      targets_fit O labels old frames count ≡ all → (if fits then targets_fit O labels new frames count else false) ≡ all
  target_tested old new depth fits is t h =
      ap (λ b. if b then targets_fit O labels new frames count else false) (sym t) ∙ ap (λ ls. targets_fit O labels ls frames count) (sym is) ∙ h

  pub all_tested : (old : List ℕ) → old ≡ [] → targets_fit O labels old frames count ≡ all → true ≡ all
  all_tested old none h = ap (λ ls. targets_fit O labels ls frames count) (sym none) ∙ h

-- The frames after a br_table whose index was taken, by the tests of the default target and of the
-- others.
pub table_outcome : (O : TypeOrder) (old a : List Frame) (targets : List ℕ) (default depth count : ℕ) (last : Stack) (first others : Bool) → taken O (I32 ∷ []) old ≡ Some a →
    Some last ≡ at (labels_of a) depth → depth ≡ default → count ≡ length last → first ≡ fits O last a count → others ≡ targets_fit O (labels_of a) targets a count →
    by_rule O (switch (labels_of old) targets default) old ≡ (if first then (if others then Some (jumped a) else None) else None)
table_outcome O old a targets default depth count last first others e label d n f t =
    let l : labels_of a ≡ labels_of old = same_labels O (I32 ∷ []) old a e in
    switched O (labels_of old) targets default last old a (ap (λ ls. at ls default) (sym l) ∙ ap (at (labels_of a)) (sym d) ∙ sym label) e ∙
    ap (λ b. if b then (if targets_fit O (labels_of old) targets a (length last) then Some (jumped a) else None) else None) (sym (f ∙ ap (fits O last a) n)) ∙
    ap (λ b. if first then (if b then Some (jumped a) else None) else None)
    (sym (t ∙ ap (λ ls. targets_fit O ls targets a count) l ∙ ap (targets_fit O (labels_of old) targets a) n))
