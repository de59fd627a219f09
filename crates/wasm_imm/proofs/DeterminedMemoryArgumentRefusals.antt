use Rattle.std.proofs.Common.{ℕ, inl, inr, true, sym, ◌∙◌}
use Rattle.wasm_below.specs.declared.features.WasmFeatures.{WasmFeatures}
use Rattle.wasm_below.specs.declared.message.Message.{Message}
use Rattle.wasm_below.specs.declared.message.Message.TheVariants as message
use Rattle.wasm_below.specs.declared.message.NumberName.TheVariants as number_name
use Rattle.wasm_below.specs.Fault.{ThenFault, DeterminesRefusal}
use Rattle.wasm_below.specs.Features.{HasFeature, memory64}
use Rattle.wasm_below.specs.Number.{EncodesUnsigned}
use Rattle.wasm_below.specs.Source.{Reader, offset_of, U32Fault, U64Fault}
use Rattle.wasm_below.proofs.DeterminedRefusals.{number_determines, u32_determines, then_determines, either_determines, checked_determines}
use Rattle.wasm_imm.specs.declared.memory_argument.MemArgKind.{MemArgKind}
use Rattle.wasm_imm.specs.FlagsNumber.{NamesBoth, OrdersPlain, IsReserved, IsTarget, IsOrdering}
use Rattle.wasm_imm.specs.MemoryArgumentFaults.{CheckFault, TargetFault, IsNoOrdering, OrderingFault, OffsetFault, FaultAfterOrdering, FaultAfterTarget, FlagsFault, MemArgFault}
use Rattle.wasm_imm.proofs.FlagsNumber.{target_prefix_code, ordering_prefix_code}
use Rattle.wasm_below.proofs.Steps.{number_prefix_code}

pub check_determines : (IsWrong : Type 0) (refusal : Message) (place : ℕ) (Later : Message → Reader → ℕ → Type 0) → DeterminesRefusal Later →
    DeterminesRefusal (CheckFault IsWrong refusal place Later)
check_determines IsWrong refusal place Later later m k r a b (inl h) (inl q) = (h.1 ∙ sym q.1, h.2 ∙ sym q.2)
check_determines IsWrong refusal place Later later m k r a b (inl h) (inr q) = absurd (q.0 h.0)
check_determines IsWrong refusal place Later later m k r a b (inr h) (inl q) = absurd (h.0 q.0)
check_determines IsWrong refusal place Later later m k r a b (inr h) (inr q) = later m k r a b h.1 q.1

target_determines : (f : WasmFeatures) (flags : ℕ) → DeterminesRefusal (TargetFault f flags)
target_determines f flags m k r a b h q = u32_determines m k r a b h.1 q.1

ordering_determines : (f : WasmFeatures) (kind : MemArgKind) (flags : ℕ) → DeterminesRefusal (OrderingFault f kind flags)
ordering_determines f kind flags m k r a b h q =
    checked_determines (IsNoOrdering kind) (λ byte. message.InvalidOrdering byte true) (offset_of r) m k r a b h.1 q.1

offset_determines : (f : WasmFeatures) → DeterminesRefusal (OffsetFault f)
offset_determines f = either_determines (HasFeature memory64 f) U64Fault U32Fault (number_determines 64 number_name.VarU64) u32_determines

module _ (f : WasmFeatures) (kind : MemArgKind) (flags start : ℕ) where
  after_ordering : DeterminesRefusal (FaultAfterOrdering f flags start)
  after_ordering = check_determines (IsReserved f flags) message.ReservedFlags start (OffsetFault f) (offset_determines f)

  after_target : DeterminesRefusal (FaultAfterTarget f kind flags start)
  after_target =
      check_determines (OrdersPlain f kind flags) message.OrderingOnPlain start
      (ThenFault (IsOrdering f kind flags) (OrderingFault f kind flags) (λ o. FaultAfterOrdering f flags start))
      (then_determines (IsOrdering f kind flags) (OrderingFault f kind flags) (λ o. FaultAfterOrdering f flags start) (ordering_prefix_code f kind flags)
      (ordering_determines f kind flags) (λ o. after_ordering))

  after_flags : DeterminesRefusal (FlagsFault f kind flags start)
  after_flags =
      check_determines (NamesBoth f flags) message.MemoryAndArray start
      (ThenFault (IsTarget f flags) (TargetFault f flags) (λ t. FaultAfterTarget f kind flags start))
      (then_determines (IsTarget f flags) (TargetFault f flags) (λ t. FaultAfterTarget f kind flags start) (target_prefix_code f flags)
      (target_determines f flags) (λ t. after_target))

pub memarg_determines : (f : WasmFeatures) (kind : MemArgKind) → DeterminesRefusal (MemArgFault f kind)
memarg_determines f kind m k r a b h q =
    then_determines (EncodesUnsigned 32) U32Fault (λ flags. FlagsFault f kind flags (offset_of r)) (number_prefix_code 32) u32_determines
    (λ flags. after_flags f kind flags (offset_of r)) m k r a b h q
