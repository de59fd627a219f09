-- The clauses of a try_table, one after another.
use Rattle.std.proofs.Common.{◌≡◌, ℕ, suc, ◌+◌, ◌<◌, Bool, if◌then◌else◌, false, List, length, drop, get_or, sym, ap, ◌∙◌, add-one}
use Rattle.std.proofs.Math.Seq.{drop-cons}
use Rattle.wasm_imm.specs.declared.handlers.Catch.{Catch}
use Rattle.wasm_typing.specs.Types.{Stack}
use Rattle.wasm_check_control.specs.Environment.{Environment}
use Rattle.wasm_check_operators.specs.Exceptions.{clause_fits, clauses_fit}

-- The test of one clause decides about the rest.
pub clause_tested : (E : Environment) (labels : List Stack) (clauses : List Catch) (i : ℕ) (d : Catch) (test : Bool) → i < length clauses → clause_fits E labels (get_or clauses i d) ≡ test →
    clauses_fit E labels (drop i clauses) ≡ clauses_fit E labels clauses → (if test then clauses_fit E labels (drop (i + 1) clauses) else false) ≡ clauses_fit E labels clauses
clause_tested E labels clauses i d test p t h =
    ap (λ k. if test then clauses_fit E labels (drop k clauses) else false) (add-one i) ∙ ap (λ b. if b then clauses_fit E labels (drop (suc i) clauses) else false) (sym t) ∙
    ap (clauses_fit E labels) (sym (drop-cons clauses i d p)) ∙ h
