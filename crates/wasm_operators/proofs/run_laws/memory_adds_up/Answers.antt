use Rattle.std.proofs.Common.{length}
use Rattle.wasm_operators.specs.Stack.{frame_memory}
use Rattle.wasm_operators.proofs.FrameMemory.{little_both}
use Rattle.wasm_operators.proofs.run_laws.memory_adds_up.Goals as goal

pub returns : goal.returns
returns c = λ first second old mid new little few next.
    little_both (frame_memory old.frames old.room) (length old.frames) first (frame_memory mid.frames mid.room) (length mid.frames) second
    (frame_memory new.frames new.room) little few next
