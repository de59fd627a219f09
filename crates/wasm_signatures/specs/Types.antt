-- The type of an instruction, and how an operator is typed. Specification: Validation, Conventions,
-- Instruction Types.
use Rattle.std.specs.Prelude.{Bool, true, false, List}
use Rattle.wasm_below.specs.declared.types.AbstractHeapType.{AbstractHeapType}
use Rattle.wasm_below.specs.declared.types.AbstractHeapType.TheVariants as heap
use Rattle.wasm_below.specs.declared.types.HeapType.TheVariants as heap_type
use Rattle.wasm_below.specs.declared.types.ValType.{ValType}
use Rattle.wasm_below.specs.declared.types.ValType.TheVariants as value
use Rattle.wasm_imm.specs.declared.proposal.Proposal.{Proposal}
use Rattle.wasm_signatures.specs.declared.operand_type.OperandType.{OperandType}
use Rattle.wasm_signatures.specs.declared.operand_type.OperandType.TheVariants as t
use Rattle.wasm_signatures.specs.declared.rule.Rule.{Rule}
use Rattle.wasm_signatures.specs.declared.signature.Signature.{Signature}
use Rattle.wasm_signatures.specs.declared.signature.Typing.{Typing}
use Rattle.wasm_signatures.specs.declared.signature.Typing.TheVariants as typing

-- A reference type that is not shared between threads.
abbrev pub reference_of : Bool → AbstractHeapType → ValType
reference_of nullable ty = value.Ref (record { nullable = nullable; heap_type = heap_type.Abstract false ty })

-- The value type of an operand, for the address type of the memory.
abbrev pub value_of : ValType → OperandType → ValType
value_of address t.I32 = value.I32
value_of address t.I64 = value.I64
value_of address t.F32 = value.F32
value_of address t.F64 = value.F64
value_of address t.V128 = value.V128
value_of address t.Address = address
value_of address t.EqRef = reference_of true heap.Eq
value_of address t.ArrayRef = reference_of true heap.Array
value_of address t.I31Ref = reference_of true heap.I31
value_of address t.I31 = reference_of false heap.I31

-- What an instruction takes from the stack, and what it leaves there. The last type is on top.
pub record InstructionType : Type 0 where
  pub takes : List OperandType
  pub leaves : List OperandType

-- How an operator is typed: it determines the types, a rule does, or no rule of the standard does.
pub data OperatorTyping : Type 0 where
  fixed : InstructionType → OperatorTyping
  by_rule : Rule → OperatorTyping
  unsupported : Proposal → OperatorTyping

-- The instruction type that a signature says.
abbrev pub type_of : Signature → InstructionType
type_of s = record { takes = s.takes.now; leaves = s.leaves.now }

-- What the code says of the typing of an operator.
abbrev pub typing_of : Typing → OperatorTyping
typing_of (typing.Fixed s) = fixed (type_of s)
typing_of (typing.ByRule r) = by_rule r
typing_of (typing.Unsupported p) = unsupported p
