use Rattle.wasm_decode_opcodes.specs.Allowed.{EncodesAllowed, EncodesScalar}
use Rattle.wasm_operators.specs.Next.{all_operators, scalar_operators}
use Rattle.wasm_operators.proofs.GuardedReads.{of_operators, scalar_of_operators, are_operators, scalar_are_operators, read_misplaced, misplaced_read, misplaced_not_read}
use Rattle.wasm_operators.proofs.decoding_laws.reads_in_wrong_frame.Goals as goal

pub returns-clause-only : goal.returns-clause-only
returns-clause-only c = read_misplaced all_operators of_operators

pub returns-clause-comes : goal.returns-clause-comes
returns-clause-comes c = misplaced_read all_operators of_operators

pub returns-clause-never_read : goal.returns-clause-never_read
returns-clause-never_read c = misplaced_not_read EncodesAllowed are_operators

pub returns-clause-scalar_only : goal.returns-clause-scalar_only
returns-clause-scalar_only c = read_misplaced scalar_operators scalar_of_operators

pub returns-clause-scalar_comes : goal.returns-clause-scalar_comes
returns-clause-scalar_comes c = misplaced_read scalar_operators scalar_of_operators

pub returns-clause-scalar_never_read : goal.returns-clause-scalar_never_read
returns-clause-scalar_never_read c = misplaced_not_read EncodesScalar scalar_are_operators
