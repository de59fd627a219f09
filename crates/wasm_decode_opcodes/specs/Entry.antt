-- The entry of an opcode, or of a prefix byte and a subopcode: what follows it.
-- Specification: Binary Format, Instructions; Appendix, Index of Instructions.
use Rattle.std.specs.Prelude.{◌≡◌, ℕ, List, ◌∷◌, Option, Some, None, map}
use Rattle.wasm_below.specs.declared.message.InstructionName.{InstructionName}
use Rattle.wasm_below.specs.declared.message.InstructionName.TheVariants as instruction_name
use Rattle.wasm_below.specs.declared.message.FrameName.{FrameName}
use Rattle.wasm_below.specs.declared.message.FrameName.TheVariants as frame_name
use Rattle.wasm_decode_opcodes.specs.declared.guard.Guard.{Guard}
use Rattle.wasm_decode_opcodes.specs.declared.guard.Guard.TheVariants as guard
use Rattle.wasm_grammar.specs.Role.{Role, opens_try, turns_else, turns_catch, turns_catch_all, delegates}
use Rattle.wasm_instr.specs.declared.operator.Operator.{Operator}
use Rattle.wasm_instr.specs.Roles.{role_of}
use Rattle.wasm_instr.specs.Row.{immediates_of}
use Rattle.wasm_imm.specs.Immediate.{Kind, kind_of, is_memory_argument}

-- What follows a code. `unknown`: no operator has it. `prefixes`: a subopcode. `free`: immediates of these kinds, in every frame and under all features.
-- `guarded`: immediates of these kinds, after this guard's checks.
pub data Entry : Type 0 where
  unknown : Entry
  prefixes : Entry
  free : List Kind → Entry
  guarded : Guard → List Kind → Entry

-- The kinds of the immediates of an operator.
abbrev pub kinds_of : Operator → List Kind
kinds_of op = map kind_of (immediates_of op)

-- The guard of the operators with this role, if they have one.
abbrev pub guard_of : {A : Type 0} → Role A → Option Guard
guard_of turns_else = Some guard.Else
guard_of (opens_try _) = Some guard.Try
guard_of (turns_catch _) = Some guard.Catch
guard_of turns_catch_all = Some guard.CatchAll
guard_of (delegates _) = Some guard.Delegate
guard_of _ = None

-- The entry with these kinds, and with the guard if there is one.
abbrev pub guarded_entry : Option Guard → List Kind → Entry
guarded_entry None ks = free ks
guarded_entry (Some g) ks = guarded g ks

-- The entry that an operator's opcode must have.
abbrev pub entry_of : Operator → Entry
entry_of op = guarded_entry (guard_of (role_of op)) (kinds_of op)

-- The role of a guarded operator, with 0 as its immediate.
abbrev pub guarded_role : Guard → Role ℕ
guarded_role guard.Else = turns_else
guarded_role guard.Try = opens_try 0
guarded_role guard.Catch = turns_catch 0
guarded_role guard.CatchAll = turns_catch_all
guarded_role guard.Delegate = delegates 0

-- The name of a guarded operator in messages.
abbrev pub guarded_instruction : Guard → InstructionName
guarded_instruction guard.Else = instruction_name.Else
guarded_instruction guard.Try = instruction_name.Try
guarded_instruction guard.Catch = instruction_name.Catch
guarded_instruction guard.CatchAll = instruction_name.CatchAll
guarded_instruction guard.Delegate = instruction_name.Delegate

-- The name of the frame that a guarded operator needs, in messages.
abbrev pub needed_frame : Guard → FrameName
needed_frame guard.Else = frame_name.If
needed_frame _ = frame_name.LegacyTry

-- The operator needs the feature legacy_exceptions.
abbrev pub NeedsLegacy : Guard → Type 0
NeedsLegacy guard.Else = ⊥
NeedsLegacy guard.Delegate = ⊥
NeedsLegacy _ = Unit {0}

-- The kinds in the entry, if an operator has it.
abbrev pub entry_kinds : Entry → Option (List Kind)
entry_kinds (free ks) = Some ks
entry_kinds (guarded g ks) = Some ks
entry_kinds _ = None

-- The exponent of the natural alignment in the entry, or 0 without a memory argument.
abbrev pub align_in : Entry → ℕ
align_in (free (is_memory_argument kind align ∷ ks)) = align
align_in _ = 0
