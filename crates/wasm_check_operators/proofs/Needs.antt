-- The steps of operators with the locals that are set: by the step that takes every local as set.
use Rattle.std.proofs.Common.{◌≡◌, ℕ, Bool, List, [], ◌∷◌, Option, Some, None, if◌then◌else◌, refl, sym, subst}
use Rattle.wasm_imm.specs.declared.block_type.BlockType.{BlockType}
use Rattle.wasm_imm.specs.declared.handler_tables.TryTable.{TryTable}
use Rattle.wasm_instr.specs.declared.operator.Operator.{Operator}
use Rattle.wasm_instr.specs.declared.operator.Operator.TheVariants as operator
use Rattle.wasm_instr.specs.Roles.{role_of}
use Rattle.wasm_grammar.specs.Role.{Role, block, loop, try_table}
use Rattle.wasm_typing.specs.Rules.{is_ready}
use Rattle.wasm_typing.specs.Steps.{Frame, step}
use Rattle.wasm_check_control.specs.SetLocals.{set_now, set_outside, set_also, set_in_else, with_set, next_with}
use Rattle.wasm_check_control.specs.State.{outermost, around}
use Rattle.wasm_check_control.proofs.WithSet.{plain_step, get_step, set_step, opens_step, opens_if_step, else_step, end_step}
use Rattle.wasm_check_control.specs.Environment.{Environment}
use Rattle.wasm_check_operators.specs.Language.{rules_of, rules_if_set}

module _ (E : Environment) (frames : List Frame) (sets : List (List ℕ)) where
  -- The frames after an operator, with these locals set, is so.
  abbrev steps_to : (Role Operator → Option (List Frame)) → Operator → Type 0
  steps_to next op = step (outermost (rules_of E)) (with_set frames sets) (role_of op) ≡ next (role_of op)

  abbrev if_set : Role Operator → Option (List Frame)
  if_set role = step (outermost (rules_if_set E)) frames role

  abbrev ready : ℕ → Bool
  ready x = is_ready (outermost (rules_of E)) (Some x) (set_now sets)

  pub gets : (op : Operator) (x : ℕ) → op ≡ operator.LocalGet x → steps_to (λ role. if ready x then next_with sets (if_set role) else None) op
  gets op x e = subst (steps_to (λ role. if ready x then next_with sets (if_set role) else None)) (sym e) (get_step (rules_of E) (operator.LocalGet x) frames sets x (ready x) refl refl refl)

  pub sets_by : (op : Operator) (x : ℕ) → op ≡ operator.LocalSet x → steps_to (λ role. next_with (if ready x then sets else set_also x sets) (if_set role)) op
  sets_by op x e = subst (steps_to (λ role. next_with (if ready x then sets else set_also x sets) (if_set role))) (sym e) (set_step (rules_of E) (operator.LocalSet x) frames sets x (ready x) refl refl refl)

  pub tees : (op : Operator) (x : ℕ) → op ≡ operator.LocalTee x → steps_to (λ role. next_with (if ready x then sets else set_also x sets) (if_set role)) op
  tees op x e = subst (steps_to (λ role. next_with (if ready x then sets else set_also x sets) (if_set role))) (sym e) (set_step (rules_of E) (operator.LocalTee x) frames sets x (ready x) refl refl refl)

  pub opens_block : (op : Operator) (it : BlockType) → op ≡ operator.Block it → steps_to (λ role. next_with (set_now sets ∷ sets) (if_set role)) op
  opens_block op it e = subst (steps_to (λ role. next_with (set_now sets ∷ sets) (if_set role))) (sym e) (opens_step (rules_of E) block (operator.Block it) frames sets)

  pub opens_loop : (op : Operator) (it : BlockType) → op ≡ operator.Loop it → steps_to (λ role. next_with (set_now sets ∷ sets) (if_set role)) op
  opens_loop op it e = subst (steps_to (λ role. next_with (set_now sets ∷ sets) (if_set role))) (sym e) (opens_step (rules_of E) loop (operator.Loop it) frames sets)

  pub opens_an_if : (op : Operator) (it : BlockType) → op ≡ operator.If it → steps_to (λ role. next_with (set_now sets ∷ sets) (if_set role)) op
  opens_an_if op it e = subst (steps_to (λ role. next_with (set_now sets ∷ sets) (if_set role))) (sym e) (opens_if_step (rules_of E) (operator.If it) frames sets)

  pub opens_try_table : (op : Operator) (it : TryTable) → op ≡ operator.TryTable it → steps_to (λ role. next_with (set_now sets ∷ sets) (if_set role)) op
  opens_try_table op it e = subst (steps_to (λ role. next_with (set_now sets ∷ sets) (if_set role))) (sym e) (opens_step (rules_of E) try_table (operator.TryTable it) frames sets)

  pub turns : (op : Operator) → op ≡ operator.Else → steps_to (λ role. next_with (set_in_else (around frames) sets) (if_set role)) op
  turns op e = subst (steps_to (λ role. next_with (set_in_else (around frames) sets) (if_set role))) (sym e) (else_step (rules_of E) frames sets)

  pub ends_by : (op : Operator) → op ≡ operator.End → steps_to (λ role. next_with (set_outside sets) (if_set role)) op
  ends_by op e = subst (steps_to (λ role. next_with (set_outside sets) (if_set role))) (sym e) (end_step (rules_of E) frames sets)

-- All other operators.
pub keeps : (E : Environment) (frames : List Frame) (sets : List (List ℕ)) (op : Operator) →
    ((x : ℕ) → op ≡ operator.LocalGet x → ⊥) → ((x : ℕ) → op ≡ operator.LocalSet x → ⊥) → ((x : ℕ) → op ≡ operator.LocalTee x → ⊥) →
    ((it : BlockType) → op ≡ operator.Block it → ⊥) → ((it : BlockType) → op ≡ operator.Loop it → ⊥) → ((it : BlockType) → op ≡ operator.If it → ⊥) →
    ((it : TryTable) → op ≡ operator.TryTable it → ⊥) → (op ≡ operator.Else → ⊥) → (op ≡ operator.End → ⊥) →
    step (outermost (rules_of E)) (with_set frames sets) (role_of op) ≡ next_with sets (step (outermost (rules_if_set E)) frames (role_of op))
keeps E frames sets (operator.LocalGet x) g s t a b d y e f = absurd (g x refl)
keeps E frames sets (operator.LocalSet x) g s t a b d y e f = absurd (s x refl)
keeps E frames sets (operator.LocalTee x) g s t a b d y e f = absurd (t x refl)
keeps E frames sets (operator.Block it) g s t a b d y e f = absurd (a it refl)
keeps E frames sets (operator.Loop it) g s t a b d y e f = absurd (b it refl)
keeps E frames sets (operator.If it) g s t a b d y e f = absurd (d it refl)
keeps E frames sets (operator.TryTable it) g s t a b d y e f = absurd (y it refl)
keeps E frames sets operator.Else g s t a b d y e f = absurd (e refl)
keeps E frames sets operator.End g s t a b d y e f = absurd (f refl)
keeps E [] sets (operator.Try it) g s t a b d y e f = refl
keeps E (h ∷ outer) sets (operator.Try it) g s t a b d y e f = refl
keeps E [] sets (operator.Catch it) g s t a b d y e f = refl
keeps E (h ∷ outer) sets (operator.Catch it) g s t a b d y e f = refl
keeps E [] sets operator.CatchAll g s t a b d y e f = refl
keeps E (h ∷ outer) sets operator.CatchAll g s t a b d y e f = refl
keeps E [] sets (operator.Delegate it) g s t a b d y e f = refl
keeps E (h ∷ outer) sets (operator.Delegate it) g s t a b d y e f = refl
keeps E frames sets op g s t a b d y e f = plain_step (rules_of E) op frames sets refl refl
