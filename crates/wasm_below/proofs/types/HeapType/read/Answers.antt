use Rattle.std.proofs.Common.{◌≤◌, ◌∷◌, [], pos, sym, subst, arith}
use Rattle.wasm_below.specs.Number.{EncodesSigned}
use Rattle.wasm_below.specs.Reference.{max_type_index}
use Rattle.wasm_below.proofs.Prefixes.{advanced}
use Rattle.wasm_below.proofs.TypeEncodings.{short_index}
use Rattle.wasm_below.proofs.types.HeapType.read.Goals as goal

pub returns-in-Ok-0-to-63 : goal.returns-in-Ok-0-to-63
returns-in-Ok-0-to-63 c =
    let a = c.in-Ok-0-to-63 in
    let step = c.advance in
    let index = subst (λ n. EncodesSigned 33 (a.byte ∷ []) (pos n)) (sym c.from.ensures) (short_index a.byte (omega arith)) in
    let within : c.from.result ≤ max_type_index = omega (arith, c.from.ensures) in
    (a.byte ∷ [], (index, within), advanced c.args.reader.now step.new.self a.byte a.ensures.prefix step.ensures)
