use Rattle.std.proofs.Common.{◌≡◌, ℕ, Bool, true, false, List, Option, Some, None, refl, sym, ap, ◌∙◌}
use Rattle.std.specs.Cmp.Lexicographic.{pointwise}
use Rattle.std.specs.Prelude.{nat_eq}
use Rattle.std.specs.contracts.prelude.OptionPartialEq.TheImpl as option_eq
use Rattle.std.proofs.lemmas.Bool.Decides.{Decides-eqb, Decides-and, Decides-like}
use Rattle.wasm_below.specs.Equality.{IsExact}
use Rattle.wasm_below.proofs.EnumEquality.{enum_exact, bare_exact, ◌▸◌, one}
use Rattle.wasm_imm.proofs.ControlEquality.{list_exact}
use Rattle.wasm_imm.specs.declared.constants.V128.{V128}
use Rattle.wasm_imm.specs.declared.memory_argument.MemArg.{MemArg}
use Rattle.wasm_imm.specs.declared.memory_argument.MemArgOrdering.{MemArgOrdering}
use Rattle.wasm_imm.specs.declared.memory_argument.MemArgTarget.{MemArgTarget}
use Rattle.wasm_imm.specs.contracts.constants.V128PartialEq.TheImpl as vector_eq
use Rattle.wasm_imm.specs.contracts.memory_argument.MemArgPartialEq.TheImpl as argument_eq
use Rattle.wasm_imm.specs.contracts.memory_argument.MemArgOrdering as announced_type
use Rattle.wasm_imm.specs.contracts.memory_argument.MemArgOrderingPartialEq.TheImpl as announced_eq
use Rattle.wasm_imm.specs.contracts.memory_argument.MemArgTarget as target_type
use Rattle.wasm_imm.specs.contracts.memory_argument.MemArgTargetPartialEq.TheImpl as target_eq
use Rattle.wasm_imm.specs.contracts.ordering.Ordering as order_type
use Rattle.wasm_imm.specs.contracts.ordering.OrderingPartialEq.TheImpl as order_eq

pub order_exact : IsExact order_eq.ghosts.eq
order_exact = bare_exact order_type.the_type tt

announced_exact : IsExact announced_eq.ghosts.eq
announced_exact = enum_exact announced_type.enum _ (one _ order_exact ▸ one _ order_exact ▸ tt)

target_exact : IsExact target_eq.ghosts.eq
target_exact = enum_exact target_type.enum _ (one _ Decides-eqb ▸ one _ Decides-eqb ▸ tt)

option_exact : {A : Type 0} (E : A → A → Bool) (O : Option A → Option A → Bool) → IsExact E → O None None ≡ true → ((b : A) → O None (Some b) ≡ false) →
    ((a : A) → O (Some a) None ≡ false) → ((a b : A) → O (Some a) (Some b) ≡ E a b) → IsExact O
option_exact E O h both right left one None None = (λ e. refl, λ e. both)
option_exact E O h both right left one None (Some b) = (λ e. absurd (let k : true ≡ false = sym e ∙ right b in cc k), λ e. absurd (cc e))
option_exact E O h both right left one (Some a) None = (λ e. absurd (let k : true ≡ false = sym e ∙ left a in cc k), λ e. absurd (cc e))
option_exact {A} E O h both right left one (Some a) (Some b) =
    let d = h a b in (λ e. ap (λ (x : A). Some x) (d.0 (sym (one a b) ∙ e)), λ e. one a b ∙ d.1 (cc e))

maybe_announced_exact : IsExact (option_eq.ghosts announced_type.the_row announced_eq.ghosts announced_eq.dict).eq
maybe_announced_exact = option_exact announced_eq.ghosts.eq _ announced_exact refl (λ _. refl) (λ _. refl) (λ _ _. refl)

pub argument_exact : IsExact argument_eq.ghosts.eq
argument_exact a b =
    Decides-like (argument_eq.ghosts.eq a b)
    (λ (p : (a.offset ≡ b.offset) × ((a.target ≡ b.target) × ((a.align ≡ b.align) × ((a.max_align ≡ b.max_align) × (a.ordering ≡ b.ordering))))).
    ap (λ (n : ℕ). record { offset = n; target = a.target; align = a.align; max_align = a.max_align; ordering = a.ordering }) p.0 ∙
    ap (λ (t : MemArgTarget). record { offset = b.offset; target = t; align = a.align; max_align = a.max_align; ordering = a.ordering }) p.1.0 ∙
    ap (λ (n : ℕ). record { offset = b.offset; target = b.target; align = n; max_align = a.max_align; ordering = a.ordering }) p.1.1.0 ∙
    ap (λ (n : ℕ). record { offset = b.offset; target = b.target; align = b.align; max_align = n; ordering = a.ordering }) p.1.1.1.0 ∙
    ap (λ (o : Option MemArgOrdering). record { offset = b.offset; target = b.target; align = b.align; max_align = b.max_align; ordering = o }) p.1.1.1.1)
    (λ e. (
      ap (λ (m : MemArg). m.offset) e,
      (
        ap (λ (m : MemArg). m.target) e,
        (ap (λ (m : MemArg). m.align) e, (ap (λ (m : MemArg). m.max_align) e, ap (λ (m : MemArg). m.ordering) e)),
      ),
    ))
    (Decides-and _ _ (Decides-eqb a.offset b.offset) (Decides-and _ _ (target_exact a.target b.target) (Decides-and _ _ (Decides-eqb a.align b.align)
    (Decides-and _ _ (Decides-eqb a.max_align b.max_align)
    (maybe_announced_exact a.ordering b.ordering)))))

pub lanes_exact : IsExact (pointwise nat_eq)
lanes_exact = list_exact nat_eq Decides-eqb

pub vector_exact : IsExact vector_eq.ghosts.eq
vector_exact a b =
    Decides-like (vector_eq.ghosts.eq a b) (λ (p : a.0 ≡ b.0). ap (λ (bytes : List ℕ). record { 0 = bytes }) p) (λ e. ap (λ (v : V128). v.0) e)
    (lanes_exact a.0 b.0)
