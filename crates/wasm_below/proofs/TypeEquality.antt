use Rattle.std.proofs.Common.{◌≡◌, ◌==◌, ◌/◌, ◌%◌, ℕ, Bool, true, false, refl, sym, ap, ◌∙◌, arith}
use Rattle.std.specs.contracts.prelude.BoolPartialEq.TheImpl as bool_eq
use Rattle.std.proofs.lemmas.Bool.Decides.{Decides-eqb, Decides-and, Decides-like}
use mathlib.Core.Bool.{◌&&◌}
use Rattle.wasm_below.specs.Equality.{IsExact}
use Rattle.wasm_below.specs.Reference.{Reference}
use Rattle.wasm_below.specs.ShortTypes.{heap_type_of, short_of}
use Rattle.wasm_below.specs.declared.types.HeapType.{HeapType}
use Rattle.wasm_below.specs.declared.types.HeapType.TheVariants as heap
use Rattle.wasm_below.specs.contracts.types.AbstractHeapType as abstract_type
use Rattle.wasm_below.specs.contracts.types.AbstractHeapTypePartialEq.TheImpl as abstract_eq
use Rattle.wasm_below.specs.contracts.types.HeapType as heap_type
use Rattle.wasm_below.specs.contracts.types.HeapTypePartialEq.TheImpl as heap_eq
use Rattle.wasm_below.specs.contracts.types.RefTypePartialEq.TheImpl as ref_eq
use Rattle.wasm_below.specs.contracts.types.ValType as val_type
use Rattle.wasm_below.specs.contracts.types.ValTypePartialEq.TheImpl as val_eq
use Rattle.wasm_below.specs.contracts.types.short.ShortHeapType as short_type
use Rattle.wasm_below.specs.contracts.types.short.ShortHeapTypePartialEq.TheImpl as short_eq
use Rattle.wasm_below.specs.contracts.types.short.ShortIndexPartialEq.TheImpl as index_eq
use Rattle.wasm_below.proofs.EnumEquality.{enum_exact, bare_exact, ◌▸◌, none, one, two}

pub flag_exact : IsExact bool_eq.ghosts.eq
flag_exact true true = (λ e. refl, λ e. refl)
flag_exact true false = (λ e. absurd (cc e), λ e. absurd (cc e))
flag_exact false true = (λ e. absurd (cc e), λ e. absurd (cc e))
flag_exact false false = (λ e. refl, λ e. refl)

abstract_exact : IsExact abstract_eq.ghosts.eq
abstract_exact = bare_exact abstract_type.the_type tt

pub heap_exact : IsExact heap_eq.ghosts.eq
heap_exact = enum_exact heap_type.enum _ (two _ _ flag_exact abstract_exact ▸ one _ Decides-eqb ▸ one _ Decides-eqb ▸ tt)

-- Three bytes are one number.
bytes_one : (a b : ℕ) → a / 256 / 256 ≡ b / 256 / 256 → a / 256 % 256 ≡ b / 256 % 256 → a % 256 ≡ b % 256 → a ≡ b
bytes_one a b high middle low = omega (arith, high, middle, low)

index_exact : IsExact index_eq.ghosts.eq
index_exact a b =
    Decides-like _ (λ p. bytes_one a b p.0 p.1.0 p.1.1) (λ e. (ap (λ n. n / 256 / 256) e, (ap (λ n. n / 256 % 256) e, ap (λ n. n % 256) e)))
    (Decides-and (a / 256 / 256 == b / 256 / 256) ((a / 256 % 256 == b / 256 % 256) && (a % 256 == b % 256)) (Decides-eqb (a / 256 / 256) (b / 256 / 256))
    (Decides-and (a / 256 % 256 == b / 256 % 256) (a % 256 == b % 256) (Decides-eqb (a / 256 % 256) (b / 256 % 256)) (Decides-eqb (a % 256) (b % 256))))

short_exact : IsExact short_eq.ghosts.eq
short_exact = enum_exact short_type.enum _ (two _ _ flag_exact abstract_exact ▸ one _ index_exact ▸ one _ index_exact ▸ tt)

seen_again : (t : HeapType) → heap_type_of (short_of t) ≡ t
seen_again (heap.Abstract shared ty) = refl
seen_again (heap.Concrete index) = refl
seen_again (heap.Exact index) = refl

pub ref_exact : IsExact ref_eq.ghosts.eq
ref_exact a b =
    let held : short_of a.heap_type ≡ short_of b.heap_type → a.heap_type ≡ b.heap_type =
    λ e. sym (seen_again a.heap_type) ∙ ap heap_type_of e ∙ seen_again b.heap_type in
    Decides-like _
    (λ (p : (a.nullable ≡ b.nullable) × (short_of a.heap_type ≡ short_of b.heap_type)).
    ap (λ (n : Bool). record { nullable = n; heap_type = a.heap_type }) p.0 ∙ ap (λ (t : HeapType). record { nullable = b.nullable; heap_type = t }) (held p.1))
    (λ e. (ap (λ (r : Reference). r.nullable) e, ap (λ (r : Reference). short_of r.heap_type) e))
    (Decides-and _ _ (flag_exact a.nullable b.nullable) (short_exact (short_of a.heap_type) (short_of b.heap_type)))

pub value_exact : IsExact val_eq.ghosts.eq
value_exact = enum_exact val_type.enum _ (none ▸ none ▸ none ▸ none ▸ none ▸ one _ ref_exact ▸ tt)
