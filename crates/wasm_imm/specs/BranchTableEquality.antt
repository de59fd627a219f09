use Rattle.std.specs.Prelude.{Bool, nat_eq}
use Rattle.std.specs.Ordering.{on, eq_of_both}
use Rattle.std.specs.Cmp.{IsPartialEquivalence, IsEquivalence, partial_equiv_from_equiv, and_equiv, on_equiv, nat_eq_equiv}
use Rattle.std.specs.Cmp.Lexicographic.{pointwise, nat_list_eq_equiv}
use Rattle.wasm_imm.specs.BranchTables.{BranchTable}

-- Count, default target and target bytes are equal.
abbrev pub same_table : BranchTable → BranchTable → Bool
same_table = eq_of_both (on (λ t. t.count) nat_eq) (eq_of_both (on (λ t. t.default) nat_eq) (on (λ t. t.targets) (pointwise nat_eq)))

pub same_table_equiv : IsEquivalence same_table
same_table_equiv = and_equiv (on_equiv (λ t. t.count) nat_eq_equiv) (and_equiv (on_equiv (λ t. t.default) nat_eq_equiv) (on_equiv (λ t. t.targets) nat_list_eq_equiv))

pub same_table_partial : IsPartialEquivalence same_table
same_table_partial = partial_equiv_from_equiv same_table_equiv
