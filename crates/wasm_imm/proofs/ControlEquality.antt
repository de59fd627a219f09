use Rattle.std.proofs.Common.{◌≡◌, ℕ, Bool, List, refl, ap, ◌∙◌}
use Rattle.std.specs.Cmp.Lexicographic.{pointwise}
use Rattle.std.specs.Prelude.{nat_eq}
use Rattle.std.proofs.lemmas.Bool.Decides.{Decides-eqb, Decides-and, Decides-like}
use Rattle.std.proofs.lemmas.Slice.Eq.{slice_eq-Decides}
use mathlib.Core.Bool.{◌&&◌}
use Rattle.wasm_below.specs.Equality.{IsExact}
use Rattle.wasm_below.specs.contracts.types.ValTypePartialEq.TheImpl as val_eq
use Rattle.wasm_below.proofs.EnumEquality.{enum_exact, ◌▸◌, none, one, two}
use Rattle.wasm_below.proofs.TypeEquality.{value_exact}
use Rattle.wasm_imm.specs.BranchTableEquality.{same_table}
use Rattle.wasm_imm.specs.BranchTables.{BranchTable}
use Rattle.wasm_imm.specs.declared.block_type.BlockType.{BlockType}
use Rattle.wasm_imm.specs.declared.handler_tables.ResumeTable.{ResumeTable}
use Rattle.wasm_imm.specs.declared.handler_tables.TryTable.{TryTable}
use Rattle.wasm_imm.specs.declared.handlers.Catch.{Catch}
use Rattle.wasm_imm.specs.declared.handlers.Handle.{Handle}
use Rattle.wasm_imm.specs.contracts.block_type.BlockType as block_type
use Rattle.wasm_imm.specs.contracts.block_type.BlockTypePartialEq.TheImpl as block_eq
use Rattle.wasm_imm.specs.contracts.handler_tables.ResumeTablePartialEq.TheImpl as resume_eq
use Rattle.wasm_imm.specs.contracts.handler_tables.TryTablePartialEq.TheImpl as try_eq
use Rattle.wasm_imm.specs.contracts.handlers.Catch as catch_type
use Rattle.wasm_imm.specs.contracts.handlers.CatchPartialEq.TheImpl as catch_eq
use Rattle.wasm_imm.specs.contracts.handlers.Handle as handle_type
use Rattle.wasm_imm.specs.contracts.handlers.HandlePartialEq.TheImpl as handle_eq

-- Lists are compared member by member.
pub list_exact : {A : Type 0} (E : A → A → Bool) → IsExact E → IsExact (pointwise E)
list_exact E h xs ys = slice_eq-Decides h xs ys (pointwise E xs ys) refl

pub block_exact : IsExact block_eq.ghosts.eq
block_exact = enum_exact block_type.enum _ (none ▸ one _ value_exact ▸ one _ Decides-eqb ▸ tt)

pub table_exact : IsExact same_table
table_exact s t =
    Decides-like (same_table s t)
    (λ (p : (s.count ≡ t.count) × ((s.default ≡ t.default) × (s.targets ≡ t.targets))).
    ap (λ (n : ℕ). record { count = n; targets = s.targets; default = s.default }) p.0 ∙
    ap (λ (n : ℕ). record { count = t.count; targets = s.targets; default = n }) p.1.0 ∙
    ap (λ (bytes : List ℕ). record { count = t.count; targets = bytes; default = t.default }) p.1.1)
    (λ e. (ap (λ (x : BranchTable). x.count) e, (ap (λ (x : BranchTable). x.default) e, ap (λ (x : BranchTable). x.targets) e)))
    (Decides-and (nat_eq s.count t.count) (nat_eq s.default t.default && pointwise nat_eq s.targets t.targets) (Decides-eqb s.count t.count)
    (Decides-and (nat_eq s.default t.default) (pointwise nat_eq s.targets t.targets) (Decides-eqb s.default t.default)
    (list_exact nat_eq Decides-eqb s.targets t.targets)))

pub types_exact : IsExact (pointwise val_eq.ghosts.eq)
types_exact = list_exact val_eq.ghosts.eq value_exact

catch_exact : IsExact catch_eq.ghosts.eq
catch_exact = enum_exact catch_type.enum _
    (two _ _ Decides-eqb Decides-eqb ▸ two _ _ Decides-eqb Decides-eqb ▸ one _ Decides-eqb ▸ one _ Decides-eqb ▸ tt)

handle_exact : IsExact handle_eq.ghosts.eq
handle_exact = enum_exact handle_type.enum _ (two _ _ Decides-eqb Decides-eqb ▸ one _ Decides-eqb ▸ tt)

pub try_exact : IsExact try_eq.ghosts.eq
try_exact a b =
    Decides-like (try_eq.ghosts.eq a b)
    (λ (p : (a.ty ≡ b.ty) × (a.catches ≡ b.catches)). ap (λ (ty : BlockType). record { ty = ty; catches = a.catches }) p.0 ∙
    ap (λ (list : List Catch). record { ty = b.ty; catches = list }) p.1)
    (λ e. (ap (λ (t : TryTable). t.ty) e, ap (λ (t : TryTable). t.catches) e))
    (Decides-and (block_eq.ghosts.eq a.ty b.ty) (pointwise catch_eq.ghosts.eq a.catches b.catches) (block_exact a.ty b.ty)
    (list_exact catch_eq.ghosts.eq catch_exact a.catches b.catches))

pub resume_exact : IsExact resume_eq.ghosts.eq
resume_exact a b =
    Decides-like (resume_eq.ghosts.eq a b) (λ p. ap (λ (list : List Handle). record { handlers = list }) p) (λ e. ap (λ (t : ResumeTable). t.handlers) e)
    (list_exact handle_eq.ghosts.eq handle_exact a.handlers b.handlers)
