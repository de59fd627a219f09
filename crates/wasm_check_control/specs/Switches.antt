-- Branches of a br_table. WebAssembly Core Specification 3.0: Appendix, Validation Algorithm.
use Rattle.std.specs.Prelude.{ℕ, Bool, true, false, if◌then◌else◌, nat_eq, is_some, List, [], ◌∷◌, length, Option, Some, None}
use Rattle.std.specs.Option.{option_map, option_and_then}
use Rattle.wasm_typing.specs.Types.{Stack}
use Rattle.wasm_typing.specs.Matching.{TypeOrder}
use Rattle.wasm_typing.specs.Rules.{Rule, switches, at, or_invalid}
use Rattle.wasm_typing.specs.Steps.{Frame}
use Rattle.wasm_check_control.specs.State.{taken}

-- These are `count` types, and the innermost frame has operands of them on top.
abbrev pub fits : TypeOrder → Stack → List Frame → ℕ → Bool
fits O s frames count = if nat_eq (length s) count then is_some (taken O s frames) else false

abbrev pub label_fits : TypeOrder → Option Stack → List Frame → ℕ → Bool
label_fits O None frames count = false
label_fits O (Some s) frames count = fits O s frames count

-- The targets have labels, and each of them fits.
abbrev pub targets_fit : TypeOrder → List Stack → List ℕ → List Frame → ℕ → Bool
targets_fit O labels [] frames count = true
targets_fit O labels (l ∷ ls) frames count = if label_fits O (at labels l) frames count then targets_fit O labels ls frames count else false

-- The labels of targets, if all of them have one.
abbrev pub all_at : List Stack → List ℕ → Option (List Stack)
all_at labels [] = Some []
all_at labels (l ∷ ls) = option_and_then (λ s. option_map (λ ss. s ∷ ss) (all_at labels ls)) (at labels l)

-- The rule of br_table with these targets and this default target.
abbrev pub switch : List Stack → List ℕ → ℕ → Rule
switch labels targets default = or_invalid (λ (last : Stack). or_invalid (λ (others : List Stack). switches others last) (all_at labels targets)) (at labels default)
