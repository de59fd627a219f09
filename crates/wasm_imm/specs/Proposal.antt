-- Written by tools/lists.py from tools/operators.tsv.
use Rattle.std.specs.Prelude.{ℕ, List, codes}
use Rattle.wasm_imm.specs.declared.proposal.Proposal.{Proposal}
use Rattle.wasm_imm.specs.declared.proposal.Proposal.TheVariants as proposal

-- The name of a proposal.
abbrev pub proposal_name : Proposal → List ℕ
proposal_name proposal.Mvp = codes "mvp"
proposal_name proposal.SignExtension = codes "sign_extension"
proposal_name proposal.Gc = codes "gc"
proposal_name proposal.CustomDescriptors = codes "custom_descriptors"
proposal_name proposal.SaturatingFloatToInt = codes "saturating_float_to_int"
proposal_name proposal.BulkMemory = codes "bulk_memory"
proposal_name proposal.ReferenceTypes = codes "reference_types"
proposal_name proposal.TailCall = codes "tail_call"
proposal_name proposal.MemoryControl = codes "memory_control"
proposal_name proposal.Threads = codes "threads"
proposal_name proposal.Simd = codes "simd"
proposal_name proposal.RelaxedSimd = codes "relaxed_simd"
proposal_name proposal.Exceptions = codes "exceptions"
proposal_name proposal.LegacyExceptions = codes "legacy_exceptions"
proposal_name proposal.SharedEverythingThreads = codes "shared_everything_threads"
proposal_name proposal.FunctionReferences = codes "function_references"
proposal_name proposal.StackSwitching = codes "stack_switching"
proposal_name proposal.WideArithmetic = codes "wide_arithmetic"
proposal_name proposal.AcquireReleaseAtomics = codes "acquire_release_atomics"
