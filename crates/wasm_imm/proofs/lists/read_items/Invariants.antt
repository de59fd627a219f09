use Rattle.std.proofs.Common.{ℕ, List}
use Rattle.std.specs.Prelude.{vec_capacity, vec_len, ◌≡◌}
use Rattle.wasm_below.specs.Source.{Takes}
use Rattle.wasm_imm.specs.Lists.{EncodesMany}
use Rattle.wasm_imm.proofs.lists.read_items.Given as goal

abbrev pub invariant-loop-member : goal.invariant-loop-member
invariant-loop-member g l = (text : List ℕ) × EncodesMany (g.T.FromReader.encodes l.initial.ahead.features) l._member text l.items.items ×
    Takes l.initial.ahead l.ahead text × (vec_len l.items ≡ l._member) × (vec_capacity l.items ≡ l.count)
