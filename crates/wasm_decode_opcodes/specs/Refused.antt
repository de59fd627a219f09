-- Where reading an operator may allocate.
use Rattle.std.specs.Prelude.{◌≡◌, ℕ, ◌⊎◌, List, ◌∷◌, None}
use Rattle.wasm_below.specs.Number.{EncodesUnsigned}
use Rattle.wasm_below.specs.Sequence.{Then}
use Rattle.wasm_below.specs.Source.{Reader, rest, BeginsWith, NoPrefix, SomePrefix}
use Rattle.wasm_imm.specs.HandlerTables.{EncodesTypeCount, EncodesTryTableCount, EncodesHandlerCount}
use Rattle.wasm_imm.specs.Immediate.{Kind, is_unsigned_32, is_select_types, is_try_clauses, is_resume_clauses}
use Rattle.wasm_instr.specs.declared.operator.Operator.{Operator}
use Rattle.wasm_instr.specs.Kinds.{HoldsList}
use Rattle.wasm_decode_opcodes.specs.Entry.{free}
use Rattle.wasm_decode_opcodes.specs.Entries.{entry_at}
use Rattle.wasm_decode_opcodes.specs.Owners.{EncodesWithoutList}

-- The opcodes of typed select, try_table, resume, resume_throw and resume_throw_ref, which may own a list.
abbrev pub LeadsList : ℕ → Type 0
LeadsList byte = (byte ≡ 0x1c) ⊎ ((byte ≡ 0x1f) ⊎ ((byte ≡ 0xe3) ⊎ ((byte ≡ 0xe4) ⊎ (byte ≡ 0xe5))))

-- Immediates of these kinds up to a list's count, which is within its limit.
abbrev pub EncodesToCount : List Kind → List ℕ → ℕ → Type 0
EncodesToCount (is_select_types ∷ ks) = EncodesTypeCount
EncodesToCount (is_try_clauses ∷ ks) = EncodesTryTableCount
EncodesToCount (is_resume_clauses ∷ ks) = EncodesHandlerCount
EncodesToCount (is_unsigned_32 ∷ ks) = Then (EncodesUnsigned 32) (λ index. EncodesToCount ks)
EncodesToCount _ = λ text count. ⊥

-- An opcode, and its immediates up to the count of a list.
abbrev pub EncodesListStart : List ℕ → ℕ → Type 0
EncodesListStart text count = (byte : ℕ) × (ks : List Kind) × (after : List ℕ) × (entry_at None byte ≡ free ks) × (text ≡ byte ∷ after) × EncodesToCount ks after count

-- The next byte is the opcode of an operator that may own a list. A count within the list's limit follows. No prefix of the rest encodes an operator without a
-- list.
pub record MayAllocate (Encodes : List ℕ → Operator → Type 0) (old : Reader) : Type 0 where
  pub leads : (byte : ℕ) × LeadsList byte × BeginsWith byte (rest old)
  pub sized : SomePrefix EncodesListStart (rest old)
  pub owns : NoPrefix (λ text op. Encodes text op × ¬ HoldsList op) (rest old)

-- As `MayAllocate`, for immediates of these kinds.
pub record KindsMayAllocate (ks : List Kind) (old : Reader) : Type 0 where
  pub sized : SomePrefix (EncodesToCount ks) (rest old)
  pub owns : NoPrefix (EncodesWithoutList old.features ks) (rest old)
