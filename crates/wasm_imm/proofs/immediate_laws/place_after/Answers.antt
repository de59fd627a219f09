use Rattle.std.proofs.Common.{◌≡◌, ◌+◌, length, ap, arith}
use Rattle.wasm_below.specs.Source.{Reader}
use Rattle.wasm_imm.proofs.immediate_laws.place_after.Goals as goal

pub returns : goal.returns
returns c = λ old new text takes.
    let at : new.position ≡ old.position + length text = ap (λ (r : Reader). r.position) takes.moved in
    let starts : new.start ≡ old.start = ap (λ (r : Reader). r.start) takes.moved in
    (omega (arith, at, starts), ap (λ (r : Reader). r.features) takes.moved)
