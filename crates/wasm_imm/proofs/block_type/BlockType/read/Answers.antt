use Rattle.std.proofs.Common.{◌∷◌, [], pos, sym, subst, arith}
use Rattle.wasm_below.specs.Number.{EncodesSigned}
use Rattle.wasm_below.proofs.Prefixes.{advanced}
use Rattle.wasm_below.proofs.TypeEncodings.{short_index}
use Rattle.wasm_imm.proofs.block_type.BlockType.read.Goals as goal

pub returns-in-Ok-123-to-127 : goal.returns-in-Ok-123-to-127
returns-in-Ok-123-to-127 c =
    let a = c.in-Ok-123-to-127 in
    let step = c.advance-in-Ok-123-to-127 in
    (a.byte ∷ [], c.short_value_type.ensures, advanced c.args.reader.now step.new.self a.byte a.ensures.prefix step.ensures)

pub returns-in-Ok-0-to-63 : goal.returns-in-Ok-0-to-63
returns-in-Ok-0-to-63 c =
    let a = c.in-Ok-0-to-63 in
    let step = c.advance-in-Ok-0-to-63 in
    let index = subst (λ n. EncodesSigned 33 (a.byte ∷ []) (pos n)) (sym c.from.ensures) (short_index a.byte (omega arith)) in
    (a.byte ∷ [], index, advanced c.args.reader.now step.new.self a.byte a.ensures.prefix step.ensures)
