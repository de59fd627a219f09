-- The steps of operators that are checked by their opcode, and of operators on locals.
use Rattle.std.proofs.Common.{◌≡◌, ℕ, Bool, false, List, refl, ap, sym, ◌∙◌}
use Rattle.wasm_imm.specs.declared.memory_argument.MemArg.{MemArg}
use Rattle.wasm_grammar.specs.Role.{plain}
use Rattle.wasm_instr.specs.declared.operator.Operator.{Operator}
use Rattle.wasm_instr.specs.declared.operator.Operator.TheVariants as operator
use Rattle.wasm_instr.specs.Roles.{role_of}
use Rattle.wasm_signatures.specs.Own.{operator_typing}
use Rattle.wasm_signatures.specs.Rows.{HasRow, type_of_row}
use Rattle.wasm_signatures.specs.Types.{OperatorTyping, fixed}
use Rattle.wasm_signatures.specs.declared.rows.Row.{Row}
use Rattle.wasm_typing.specs.Steps.{Frame, step, labels_of}
use Rattle.wasm_check_control.specs.Environment.{Environment}
use Rattle.wasm_check_control.specs.SetLocals.{with_set, next_with}
use Rattle.wasm_check_control.specs.State.{by_rule, outermost}
use Rattle.wasm_check_control.proofs.Steps.{step_is}
use Rattle.wasm_check_control.proofs.WithSet.{plain_step}
use Rattle.wasm_check_operators.specs.Forms.{IsFixed, access, by_typing, fixed_at}
use Rattle.wasm_check_operators.specs.Language.{IsAccess, IsDetermined, opening_type, rule, rules_if_set, rules_of}

pub of_row : (is_64 : Bool) (r : Row) (t : OperatorTyping) → IsFixed t → HasRow r t → by_typing (fixed_at is_64) t ≡ fixed_at is_64 (type_of_row r)
of_row is_64 r (fixed ty) f h = ap (fixed_at is_64) (sym h)
of_row is_64 r _ f h = absurd f

pub determined_fixed : (op : Operator) → IsDetermined op → IsFixed (operator_typing op)
determined_fixed (operator.I32Const x) d = tt
determined_fixed (operator.I64Const x) d = tt
determined_fixed (operator.F32Const x) d = tt
determined_fixed (operator.F64Const x) d = tt
determined_fixed (operator.Numeric x) d = tt
determined_fixed _ d = absurd d

pub access_fixed : (op : Operator) (m : MemArg) → IsAccess op m → IsFixed (operator_typing op)
access_fixed (operator.I32Load x) m d = tt
access_fixed (operator.I64Load x) m d = tt
access_fixed (operator.F32Load x) m d = tt
access_fixed (operator.F64Load x) m d = tt
access_fixed (operator.I32Load8S x) m d = tt
access_fixed (operator.I32Load8U x) m d = tt
access_fixed (operator.I32Load16S x) m d = tt
access_fixed (operator.I32Load16U x) m d = tt
access_fixed (operator.I64Load8S x) m d = tt
access_fixed (operator.I64Load8U x) m d = tt
access_fixed (operator.I64Load16S x) m d = tt
access_fixed (operator.I64Load16U x) m d = tt
access_fixed (operator.I64Load32S x) m d = tt
access_fixed (operator.I64Load32U x) m d = tt
access_fixed (operator.I32Store x) m d = tt
access_fixed (operator.I64Store x) m d = tt
access_fixed (operator.F32Store x) m d = tt
access_fixed (operator.F64Store x) m d = tt
access_fixed (operator.I32Store8 x) m d = tt
access_fixed (operator.I32Store16 x) m d = tt
access_fixed (operator.I64Store8 x) m d = tt
access_fixed (operator.I64Store16 x) m d = tt
access_fixed (operator.I64Store32 x) m d = tt
access_fixed _ m d = absurd d

module _ (E : Environment) (frames : List Frame) where
  -- A plain operator, if every local is set.
  pub plainly : (op : Operator) → role_of op ≡ plain op → step (outermost (rules_if_set E)) frames (role_of op) ≡ by_rule E.order (rule E (labels_of frames) op) frames
  plainly op e = ap (step (outermost (rules_if_set E)) frames) e ∙ step_is E.order (rule E) (opening_type E) frames (plain op)

  module _ (sets : List (List ℕ)) where
    pub determined_step : (op : Operator) → IsDetermined op →
        step (outermost (rules_of E)) (with_set frames sets) (role_of op) ≡ next_with sets (by_rule E.order (by_typing (fixed_at false) (operator_typing op)) frames)
    determined_step (operator.I32Const x) d = plain_step (rules_of E) (operator.I32Const x) frames sets refl refl ∙ ap (next_with sets) (plainly (operator.I32Const x) refl)
    determined_step (operator.I64Const x) d = plain_step (rules_of E) (operator.I64Const x) frames sets refl refl ∙ ap (next_with sets) (plainly (operator.I64Const x) refl)
    determined_step (operator.F32Const x) d = plain_step (rules_of E) (operator.F32Const x) frames sets refl refl ∙ ap (next_with sets) (plainly (operator.F32Const x) refl)
    determined_step (operator.F64Const x) d = plain_step (rules_of E) (operator.F64Const x) frames sets refl refl ∙ ap (next_with sets) (plainly (operator.F64Const x) refl)
    determined_step (operator.Numeric x) d = plain_step (rules_of E) (operator.Numeric x) frames sets refl refl ∙ ap (next_with sets) (plainly (operator.Numeric x) refl)
    determined_step _ d = absurd d

    pub access_step : (op : Operator) (m : MemArg) → IsAccess op m →
        step (outermost (rules_of E)) (with_set frames sets) (role_of op) ≡ next_with sets (by_rule E.order (access E m.target m (operator_typing op)) frames)
    access_step (operator.I32Load x) m d = plain_step (rules_of E) (operator.I32Load x) frames sets refl refl ∙ ap (next_with sets) (plainly (operator.I32Load x) refl) ∙ ap (λ (y : MemArg). next_with sets (by_rule E.order (access E y.target y (operator_typing (operator.I32Load x))) frames)) d
    access_step (operator.I64Load x) m d = plain_step (rules_of E) (operator.I64Load x) frames sets refl refl ∙ ap (next_with sets) (plainly (operator.I64Load x) refl) ∙ ap (λ (y : MemArg). next_with sets (by_rule E.order (access E y.target y (operator_typing (operator.I64Load x))) frames)) d
    access_step (operator.F32Load x) m d = plain_step (rules_of E) (operator.F32Load x) frames sets refl refl ∙ ap (next_with sets) (plainly (operator.F32Load x) refl) ∙ ap (λ (y : MemArg). next_with sets (by_rule E.order (access E y.target y (operator_typing (operator.F32Load x))) frames)) d
    access_step (operator.F64Load x) m d = plain_step (rules_of E) (operator.F64Load x) frames sets refl refl ∙ ap (next_with sets) (plainly (operator.F64Load x) refl) ∙ ap (λ (y : MemArg). next_with sets (by_rule E.order (access E y.target y (operator_typing (operator.F64Load x))) frames)) d
    access_step (operator.I32Load8S x) m d = plain_step (rules_of E) (operator.I32Load8S x) frames sets refl refl ∙ ap (next_with sets) (plainly (operator.I32Load8S x) refl) ∙ ap (λ (y : MemArg). next_with sets (by_rule E.order (access E y.target y (operator_typing (operator.I32Load8S x))) frames)) d
    access_step (operator.I32Load8U x) m d = plain_step (rules_of E) (operator.I32Load8U x) frames sets refl refl ∙ ap (next_with sets) (plainly (operator.I32Load8U x) refl) ∙ ap (λ (y : MemArg). next_with sets (by_rule E.order (access E y.target y (operator_typing (operator.I32Load8U x))) frames)) d
    access_step (operator.I32Load16S x) m d = plain_step (rules_of E) (operator.I32Load16S x) frames sets refl refl ∙ ap (next_with sets) (plainly (operator.I32Load16S x) refl) ∙ ap (λ (y : MemArg). next_with sets (by_rule E.order (access E y.target y (operator_typing (operator.I32Load16S x))) frames)) d
    access_step (operator.I32Load16U x) m d = plain_step (rules_of E) (operator.I32Load16U x) frames sets refl refl ∙ ap (next_with sets) (plainly (operator.I32Load16U x) refl) ∙ ap (λ (y : MemArg). next_with sets (by_rule E.order (access E y.target y (operator_typing (operator.I32Load16U x))) frames)) d
    access_step (operator.I64Load8S x) m d = plain_step (rules_of E) (operator.I64Load8S x) frames sets refl refl ∙ ap (next_with sets) (plainly (operator.I64Load8S x) refl) ∙ ap (λ (y : MemArg). next_with sets (by_rule E.order (access E y.target y (operator_typing (operator.I64Load8S x))) frames)) d
    access_step (operator.I64Load8U x) m d = plain_step (rules_of E) (operator.I64Load8U x) frames sets refl refl ∙ ap (next_with sets) (plainly (operator.I64Load8U x) refl) ∙ ap (λ (y : MemArg). next_with sets (by_rule E.order (access E y.target y (operator_typing (operator.I64Load8U x))) frames)) d
    access_step (operator.I64Load16S x) m d = plain_step (rules_of E) (operator.I64Load16S x) frames sets refl refl ∙ ap (next_with sets) (plainly (operator.I64Load16S x) refl) ∙ ap (λ (y : MemArg). next_with sets (by_rule E.order (access E y.target y (operator_typing (operator.I64Load16S x))) frames)) d
    access_step (operator.I64Load16U x) m d = plain_step (rules_of E) (operator.I64Load16U x) frames sets refl refl ∙ ap (next_with sets) (plainly (operator.I64Load16U x) refl) ∙ ap (λ (y : MemArg). next_with sets (by_rule E.order (access E y.target y (operator_typing (operator.I64Load16U x))) frames)) d
    access_step (operator.I64Load32S x) m d = plain_step (rules_of E) (operator.I64Load32S x) frames sets refl refl ∙ ap (next_with sets) (plainly (operator.I64Load32S x) refl) ∙ ap (λ (y : MemArg). next_with sets (by_rule E.order (access E y.target y (operator_typing (operator.I64Load32S x))) frames)) d
    access_step (operator.I64Load32U x) m d = plain_step (rules_of E) (operator.I64Load32U x) frames sets refl refl ∙ ap (next_with sets) (plainly (operator.I64Load32U x) refl) ∙ ap (λ (y : MemArg). next_with sets (by_rule E.order (access E y.target y (operator_typing (operator.I64Load32U x))) frames)) d
    access_step (operator.I32Store x) m d = plain_step (rules_of E) (operator.I32Store x) frames sets refl refl ∙ ap (next_with sets) (plainly (operator.I32Store x) refl) ∙ ap (λ (y : MemArg). next_with sets (by_rule E.order (access E y.target y (operator_typing (operator.I32Store x))) frames)) d
    access_step (operator.I64Store x) m d = plain_step (rules_of E) (operator.I64Store x) frames sets refl refl ∙ ap (next_with sets) (plainly (operator.I64Store x) refl) ∙ ap (λ (y : MemArg). next_with sets (by_rule E.order (access E y.target y (operator_typing (operator.I64Store x))) frames)) d
    access_step (operator.F32Store x) m d = plain_step (rules_of E) (operator.F32Store x) frames sets refl refl ∙ ap (next_with sets) (plainly (operator.F32Store x) refl) ∙ ap (λ (y : MemArg). next_with sets (by_rule E.order (access E y.target y (operator_typing (operator.F32Store x))) frames)) d
    access_step (operator.F64Store x) m d = plain_step (rules_of E) (operator.F64Store x) frames sets refl refl ∙ ap (next_with sets) (plainly (operator.F64Store x) refl) ∙ ap (λ (y : MemArg). next_with sets (by_rule E.order (access E y.target y (operator_typing (operator.F64Store x))) frames)) d
    access_step (operator.I32Store8 x) m d = plain_step (rules_of E) (operator.I32Store8 x) frames sets refl refl ∙ ap (next_with sets) (plainly (operator.I32Store8 x) refl) ∙ ap (λ (y : MemArg). next_with sets (by_rule E.order (access E y.target y (operator_typing (operator.I32Store8 x))) frames)) d
    access_step (operator.I32Store16 x) m d = plain_step (rules_of E) (operator.I32Store16 x) frames sets refl refl ∙ ap (next_with sets) (plainly (operator.I32Store16 x) refl) ∙ ap (λ (y : MemArg). next_with sets (by_rule E.order (access E y.target y (operator_typing (operator.I32Store16 x))) frames)) d
    access_step (operator.I64Store8 x) m d = plain_step (rules_of E) (operator.I64Store8 x) frames sets refl refl ∙ ap (next_with sets) (plainly (operator.I64Store8 x) refl) ∙ ap (λ (y : MemArg). next_with sets (by_rule E.order (access E y.target y (operator_typing (operator.I64Store8 x))) frames)) d
    access_step (operator.I64Store16 x) m d = plain_step (rules_of E) (operator.I64Store16 x) frames sets refl refl ∙ ap (next_with sets) (plainly (operator.I64Store16 x) refl) ∙ ap (λ (y : MemArg). next_with sets (by_rule E.order (access E y.target y (operator_typing (operator.I64Store16 x))) frames)) d
    access_step (operator.I64Store32 x) m d = plain_step (rules_of E) (operator.I64Store32 x) frames sets refl refl ∙ ap (next_with sets) (plainly (operator.I64Store32 x) refl) ∙ ap (λ (y : MemArg). next_with sets (by_rule E.order (access E y.target y (operator_typing (operator.I64Store32 x))) frames)) d
    access_step _ m d = absurd d
