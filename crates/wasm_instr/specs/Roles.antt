-- Written by tools/lists.py from tools/operators.tsv.
-- Specification: Structure, Control Instructions; Binary Format, Control Instructions and Expressions. Proposal legacy exception handling.
use Rattle.std.specs.Prelude.{ℕ, ◌==◌, if◌then◌else◌, List, [], ◌∷◌}
use Rattle.wasm_grammar.specs.declared.frame_kind.FrameKind.TheVariants as frame
use Rattle.wasm_grammar.specs.declared.frame_change.FrameChange.{FrameChange}
use Rattle.wasm_grammar.specs.declared.frame_change.FrameChange.TheVariants as change
use Rattle.wasm_grammar.specs.Role.{Role, block, loop, try_table, plain, opens, opens_if, opens_try, turns_else, turns_catch, turns_catch_all, delegates, ends}
use Rattle.wasm_instr.specs.declared.operator.Operator.{Operator}
use Rattle.wasm_instr.specs.declared.operator.Operator.TheVariants as operator

-- The role of an operator.
abbrev pub role_of : Operator → Role Operator
role_of (operator.Block it) = opens block (operator.Block it)
role_of (operator.Loop it) = opens loop (operator.Loop it)
role_of (operator.TryTable it) = opens try_table (operator.TryTable it)
role_of (operator.If it) = opens_if (operator.If it)
role_of (operator.Try it) = opens_try (operator.Try it)
role_of operator.Else = turns_else
role_of (operator.Catch it) = turns_catch it
role_of operator.CatchAll = turns_catch_all
role_of (operator.Delegate it) = delegates it
role_of operator.End = ends
role_of op = plain op

-- The roles of operators, in order.
abbrev pub roles_of : List Operator → List (Role Operator)
roles_of [] = []
roles_of (op ∷ ops) = role_of op ∷ roles_of ops

-- What the operators whose first byte this is do to the frames.
abbrev pub change_at : ℕ → FrameChange
change_at byte =
    if byte == 0x02 then change.Opens frame.Block else (
    if byte == 0x03 then change.Opens frame.Loop else (
    if byte == 0x04 then change.Opens frame.If else (
    if byte == 0x05 then change.Turns frame.Else else (
    if byte == 0x06 then change.Opens frame.LegacyTry else (
    if byte == 0x07 then change.Turns frame.LegacyCatch else (
    if byte == 0x0b then change.Closes else (
    if byte == 0x18 then change.Closes else (
    if byte == 0x19 then change.Turns frame.LegacyCatchAll else (
    if byte == 0x1f then change.Opens frame.TryTable else (
    change.Stays))))))))))
