use Rattle.std.proofs.Common.{◌≡◌, ℕ, ◌<◌, inl, inr, Option, None, arith}
use Rattle.wasm_below.specs.declared.features.WasmFeatures.{WasmFeatures}
use Rattle.wasm_below.specs.declared.error.Error.{Error}
use Rattle.wasm_below.specs.declared.message.Message.{Message}
use Rattle.wasm_below.specs.declared.message.Message.TheVariants as message
use Rattle.wasm_below.specs.Number.{EncodesUnsigned}
use Rattle.wasm_below.specs.Source.{Reader, IsRefusal, HasRead}
use Rattle.wasm_below.proofs.Blocks.{refused_now}
use Rattle.wasm_imm.specs.declared.memory_argument.MemArgTarget.{MemArgTarget}
use Rattle.wasm_imm.specs.declared.memory_argument.MemArgTarget.TheVariants as target
use Rattle.wasm_imm.specs.declared.memory_argument.MemArgOrdering.{MemArgOrdering}
use Rattle.wasm_imm.specs.declared.memory_argument.MemArgKind.{MemArgKind}
use Rattle.wasm_imm.specs.FlagsNumber.{NamesBoth, OrdersPlain, IsReserved, IsTarget, IsOrdering}
use Rattle.wasm_imm.specs.MemoryArgumentFaults.{TargetFault, OrderingFault, OffsetFault, FlagsFault}
use Rattle.wasm_imm.proofs.FlagsNumber.{memory_zero, no_ordering, none_reserved}

module _ (f : WasmFeatures) (k : MemArgKind) (flags start : ℕ) (mid : Reader) (one : ¬ NamesBoth f flags) where
  pub target_fault : (e : Error) → IsRefusal (IsTarget f flags) e mid → TargetFault f flags e.message mid e.offset →
      FlagsFault f k flags start e.message mid e.offset
  target_fault e none h = inr (one, inl (refused_now (IsTarget f flags) e mid none, h))

  pub plain_fault : (t : MemArgTarget) (now : Reader) → HasRead (IsTarget f flags) t mid now → (m : Message) (offset : ℕ) → OrdersPlain f k flags →
      m ≡ message.OrderingOnPlain → offset ≡ start → FlagsFault f k flags start m mid offset
  plain_fault t now rt m offset plain em eo = inr (one, inr (t, now, rt, inl (plain, em, eo)))

  module _ (t : MemArgTarget) (now : Reader) (rt : HasRead (IsTarget f flags) t mid now) (may : ¬ OrdersPlain f k flags) where
    pub ordering_fault : (e : Error) → IsRefusal (IsOrdering f k flags) e now → OrderingFault f k flags e.message now e.offset →
        FlagsFault f k flags start e.message mid e.offset
    ordering_fault e none h = inr (one, inr (t, now, rt, inr (may, inl (refused_now (IsOrdering f k flags) e now none, h))))

    module _ (o : Option MemArgOrdering) (last : Reader) (ro : HasRead (IsOrdering f k flags) o now last) where
      pub reserved_fault : (m : Message) (offset : ℕ) → IsReserved f flags → m ≡ message.ReservedFlags → offset ≡ start →
          FlagsFault f k flags start m mid offset
      reserved_fault m offset h em eo = inr (one, inr (t, now, rt, inr (may, inr (o, last, ro, inl (h, em, eo)))))

      pub offset_fault : (m : Message) (offset : ℕ) → ¬ IsReserved f flags → OffsetFault f m last offset → FlagsFault f k flags start m mid offset
      offset_fault m offset whole h = inr (one, inr (t, now, rt, inr (may, inr (o, last, ro, inr (whole, h)))))

pub short_fault : (f : WasmFeatures) (k : MemArgKind) (flags start : ℕ) (old mid : Reader) → HasRead (EncodesUnsigned 32) flags old mid → flags < 16 →
    (m : Message) (offset : ℕ) → OffsetFault f m mid offset → FlagsFault f k flags start m mid offset
short_fault f k flags start old mid r small m offset h =
    offset_fault f k flags start mid (λ both. absurd (omega (arith, both.1))) (target.Memory 0) mid (memory_zero f k 0 flags old mid r small)
    (λ plain. absurd (omega (arith, plain.1))) None mid (no_ordering f k 0 flags old mid r small) m offset (none_reserved f k 0 flags old mid r small) h
