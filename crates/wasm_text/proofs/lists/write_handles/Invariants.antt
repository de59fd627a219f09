use Rattle.std.proofs.Common.{◌≡◌, ◌++◌, string_bytes, flat_map, take}
use Rattle.wasm_text.specs.Values.{handle_text}
use Rattle.wasm_text.proofs.lists.write_handles.Given as goal

abbrev pub invariant-loop-handle : goal.invariant-loop-handle
invariant-loop-handle l = string_bytes l.out ≡ string_bytes l.fn.out ++ flat_map handle_text (take l.handle-index l.handles)
