-- The operators that are plain or have no type.
use Rattle.std.proofs.Common.{◌≡◌, ℕ, ◌+◌, ◌<◌, length, map, take, reverse, get_or, List, [], ◌∷◌, Option, Some, Bool, false, refl, sym, subst, ap, ◌∙◌}
use Rattle.std.specs.Prelude.{Result, IfOk, IsTrue, ◌↔◌}
use Rattle.wasm_imm.specs.declared.block_type.BlockType.{BlockType}
use Rattle.wasm_imm.specs.declared.handler_tables.TryTable.{TryTable}
use Rattle.wasm_grammar.specs.Role.{plain}
use Rattle.wasm_instr.specs.declared.operator.Operator.{Operator}
use Rattle.wasm_instr.specs.declared.operator.Operator.TheVariants as operator
use Rattle.wasm_instr.specs.Roles.{role_of}
use Rattle.wasm_typing.specs.declared.value_type.ValueType.{ValueType}
use Rattle.wasm_typing.specs.Steps.{Frame, step, labels_of, receives}
use Rattle.wasm_typing.specs.Matching.{TypeOrder}
use Rattle.wasm_check_control.specs.Environment.{Environment}
use Rattle.wasm_check_control.specs.State.{Answers, by_rule, outermost, taken}
use Rattle.wasm_check_control.proofs.Steps.{step_is, nothing}
use Rattle.wasm_check_control.proofs.Taking.{more_given}
use Rattle.wasm_check_operators.specs.Language.{rule, rules_if_set, opening_type}

pub other : (E : Environment) (frames : List Frame) (op : Operator) →
    ((it : BlockType) → op ≡ operator.Block it → ⊥) → ((it : BlockType) → op ≡ operator.Loop it → ⊥) → ((it : BlockType) → op ≡ operator.If it → ⊥) →
    ((it : TryTable) → op ≡ operator.TryTable it → ⊥) →
    (op ≡ operator.Else → ⊥) → (op ≡ operator.End → ⊥) →
    step (outermost (rules_if_set E)) frames (role_of op) ≡ by_rule E.order (rule E (labels_of frames) op) frames
other E frames (operator.Block it) a b d t e f = absurd (a it refl)
other E frames (operator.Loop it) a b d t e f = absurd (b it refl)
other E frames (operator.If it) a b d t e f = absurd (d it refl)
other E frames operator.Else a b d t e f = absurd (e refl)
other E frames operator.End a b d t e f = absurd (f refl)
other E frames (operator.TryTable it) a b d t e f = absurd (t it refl)
other E frames (operator.Try it) a b d t e f = step_is E.order (rule E) (opening_type E) frames (role_of (operator.Try it)) ∙ sym (nothing E.order frames)
other E frames (operator.Catch it) a b d t e f = step_is E.order (rule E) (opening_type E) frames (role_of (operator.Catch it)) ∙ sym (nothing E.order frames)
other E frames operator.CatchAll a b d t e f = step_is E.order (rule E) (opening_type E) frames (role_of operator.CatchAll) ∙ sym (nothing E.order frames)
other E frames (operator.Delegate it) a b d t e f = step_is E.order (rule E) (opening_type E) frames (role_of (operator.Delegate it)) ∙ sym (nothing E.order frames)
other E frames _ a b d t e f = step_is E.order (rule E) (opening_type E) frames (plain _)

-- A result about an equal next state.
pub moved : {X : Type 0} (r : Result Bool X) (o p : Option (List Frame)) (new : List Frame) → p ≡ o →
    IfOk r (λ yes. Answers yes o new) → IfOk r (λ yes. Answers yes p new)
moved r o p new e h = subst (λ x. IfOk r (λ yes. Answers yes x new)) (sym e) h

-- No operands are taken from frames.
pub taken_nothing : (O : TypeOrder) (frames : List Frame) → (frames ≡ [] → ⊥) → taken O [] frames ≡ Some frames
taken_nothing O [] n = absurd (n refl)
taken_nothing O (f ∷ outer) n = refl

pub not_so : (b : Bool) (P : Type 0) → (IsTrue b ↔ P) → b ≡ false → P → ⊥
not_so b P h e p = absurd (cc (sym e ∙ h.1 p))

-- One more operand is given.
pub given_next : {X : Type 0} (f : X → ValueType) (types : List X) (i : ℕ) (d : X) (before now new : List Frame) (v : ValueType) → i < length types →
    now ≡ receives (reverse (map f (take i types))) before → v ≡ f (get_or types i d) → new ≡ receives (v ∷ []) now →
    new ≡ receives (reverse (map f (take (i + 1) types))) before
given_next f types i d before now new v p e g h =
    h ∙ ap (λ x. receives (x ∷ []) now) g ∙ ap (receives (f (get_or types i d) ∷ [])) e ∙ more_given f types i d before p
