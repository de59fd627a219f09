-- Specification: Appendix, Validation Algorithm, control frames.
use Rattle.std.specs.Prelude.{◌==◌, ℕ, List, map, if◌then◌else◌}
use Rattle.wasm_operators.specs.grammar.declared.frame_kind.FrameKind.{FrameKind}
use Rattle.wasm_operators.specs.grammar.declared.frame_kind.FrameKind.TheVariants as frame

-- The kind of a frame. A byte of no kind counts as a block.
abbrev pub kind_of : ℕ → FrameKind
kind_of byte =
    if byte == 1 then frame.If else (
    if byte == 2 then frame.Else else (
    if byte == 3 then frame.Loop else (
    if byte == 4 then frame.TryTable else (
    if byte == 5 then frame.LegacyTry else (
    if byte == 6 then frame.LegacyCatch else (
    if byte == 7 then frame.LegacyCatchAll else frame.Block))))))

abbrev pub kinds : List ℕ → List FrameKind
kinds bytes = map kind_of bytes
