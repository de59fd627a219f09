-- Specification: Binary Format, Control Instructions. Proposal legacy exception handling.
use Rattle.std.specs.Prelude.{◌≡◌, ℕ, ◌<◌, List, None, Some}
use Rattle.wasm_below.specs.Source.{Reader, rest, BeginsWith}
use Rattle.wasm_grammar.specs.declared.frame_kind.FrameKind.{FrameKind}
use Rattle.wasm_grammar.specs.Frames.{Allows, innermost}
use Rattle.wasm_imm.specs.Immediate.{Kind}
use Rattle.wasm_decode_opcodes.specs.declared.guard.Guard.{Guard}
use Rattle.wasm_decode_opcodes.specs.Entry.{guarded, guarded_role}
use Rattle.wasm_decode_opcodes.specs.Entries.{entry_at}
use Rattle.wasm_decode_opcodes.specs.OperatorFaults.{LacksFeature}
use Rattle.wasm_operators.specs.Reading.{State}

-- The opcode of the operator with this guard is next.
abbrev pub BeginsGuarded : Guard → Reader → Type 0
BeginsGuarded g r = (code : ℕ) × (ks : List Kind) × (code < 256) × BeginsWith code (rest r) × (entry_at None code ≡ guarded g ks)

-- In an open frame, the operator with this guard is next, without its feature.
abbrev pub NextLacksFeature : Guard → State → Type 0
NextLacksFeature g s = (kind : FrameKind) × (innermost s.frames ≡ Some kind) × BeginsGuarded g s.reader × LacksFeature s.reader.features g

-- The operator with this guard is next, with its feature, and the innermost frame does not allow it.
abbrev pub NextIsMisplaced : Guard → State → Type 0
NextIsMisplaced g s =
    (kind : FrameKind) × (innermost s.frames ≡ Some kind) × BeginsGuarded g s.reader × (¬ LacksFeature s.reader.features g) × ¬ Allows kind (guarded_role g)
