use Rattle.std.proofs.Common.{◌≡◌, ◌+◌, ◌++◌, length}
use Rattle.std.specs.Vec.Iter.{into_iter_items}
use Rattle.wasm_subtypes.specs.Types.{placed, AllExtend}
use Rattle.wasm_subtypes.proofs.type_list.TypeList.append.Given as goal

abbrev pub invariant-loop-ty : goal.invariant-loop-ty
invariant-loop-ty l =
    (l.types ≡ l.fn.self ++ placed (length l.fn.self) l.start l.yielded) ×
    (l.identity ≡ l.start + length l.yielded) ×
    AllExtend l.fn.self (length l.fn.self) l.start l.yielded ×
    (l.yielded ++ into_iter_items l.ty-iterator ≡ into_iter_items l.initial.ty-iterator)
