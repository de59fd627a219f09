use Rattle.std.specs.Prelude.{◌≡◌, ℕ, ◌+◌, ◌-◌, ◌^◌, List, [], ◌∷◌, Result, Ok, Err, codes, nat_eq, if◌then◌else◌, map, min}
use Rattle.std.specs.Cmp.Lexicographic.{pointwise}
use Rattle.wasm_operators.specs.below.Source.{Reader}
use Rattle.wasm_operators.specs.instr.declared.operator.Operator.{Operator}
use Rattle.wasm_operators.specs.imm.Proposal.{proposal_name}
use Rattle.wasm_operators.specs.instr.Row.{proposal_of}
use Rattle.wasm_operators.specs.opcodes.Allowed.{EncodesAllowed}
use Rattle.wasm_operators.specs.Expression.{Placed, OfPlaced}
use Rattle.wasm_operators.specs.Next.{NextMayAllocate}
use Rattle.wasm_operators.specs.Reading.{State, TakesOperators}
use Rattle.wasm_operators.specs.Locals.{Declaration}
use Rattle.wasm_operators.specs.Body.{OpensBody}
use Rattle.wasm_operators.specs.Visiting.{Visited}
use Rattle.wasm_listing.specs.declared.fault.DumpFault.{DumpFault}
use Rattle.wasm_listing.specs.declared.fault.DumpFault.TheVariants as fault
use Rattle.wasm_listing.specs.Dump.{IsBody, IsNoBody}

-- The names of the proposals, in the order of the counts.
abbrev pub proposals : List (List ℕ)
proposals =
    codes "mvp"
    ∷ codes "sign_extension"
    ∷ codes "gc"
    ∷ codes "custom_descriptors"
    ∷ codes "saturating_float_to_int"
    ∷ codes "bulk_memory"
    ∷ codes "reference_types"
    ∷ codes "tail_call"
    ∷ codes "memory_control"
    ∷ codes "threads"
    ∷ codes "simd"
    ∷ codes "relaxed_simd"
    ∷ codes "exceptions"
    ∷ codes "legacy_exceptions"
    ∷ codes "shared_everything_threads"
    ∷ codes "function_references"
    ∷ codes "stack_switching"
    ∷ codes "wide_arithmetic"
    ∷ codes "acquire_release_atomics"
    ∷ []

abbrev pub count_of : List ℕ → Placed → ℕ
count_of proposal [] = 0
count_of proposal (p ∷ ps) = (if pointwise nat_eq proposal (proposal_name (proposal_of p.0)) then 1 else 0) + count_of proposal ps

abbrev pub counts_of : Placed → List ℕ
counts_of placed = map (λ proposal. count_of proposal placed) proposals

abbrev pub one_more : ℕ → ℕ
one_more n = min (n + 1) (2 ^ 64 - 1)

-- The counts of the proposals in the second list, in their order, after one more operator of
-- `proposal`. A count is at most 2^64 - 1.
abbrev pub one_more_of : List ℕ → List (List ℕ) → List ℕ → List ℕ
one_more_of proposal (p ∷ ps) (n ∷ ns) = (if pointwise nat_eq p proposal then one_more n else n) ∷ one_more_of proposal ps ns
one_more_of proposal _ _ = []

abbrev pub CountsVisit : List ℕ → Operator → List ℕ → Type 0
CountsVisit before op after = after ≡ one_more_of (proposal_name (proposal_of op)) proposals before

-- These operators were counted, one visit each.
abbrev pub Counted : List ℕ → List ℕ → OfPlaced
Counted before after placed = Visited {A = Unit {0}} (λ s op outcome t. CountsVisit s op t) before after placed

-- After the body's locals and some operators, the next one owns a list, or opens a frame without
-- capacity.
pub record BodyMayAllocate (body : Reader) : Type 0 where
  pub opened : State
  pub opens : OpensBody (Ok opened) body
  pub stopped : State
  pub placed : Placed
  pub takes : TakesOperators opened stopped placed
  pub asks : NextMayAllocate EncodesAllowed stopped

-- The counts of a body's operators, or the error of its listing.
abbrev pub Counts : Reader → Result (List ℕ) DumpFault → Type 0
Counts input (Ok counts) = (declarations : List Declaration) × (placed : Placed) × IsBody input declarations placed × (counts ≡ counts_of placed)
Counts input (Err (fault.Refused e)) = (placed : Placed) × IsNoBody e input placed
Counts input (Err fault.Memory) = Unit {0}
Counts input (Err _) = ⊥
