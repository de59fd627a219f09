use Rattle.std.proofs.Common.{◌≡◌, ◌≤◌, length, subst, ap}
use Rattle.std.proofs.lemmas.Result.{err_from_is_err_and}
use Rattle.wasm_below.specs.Source.{Reader}
use Rattle.wasm_below.proofs.Blocks.{size_refused, count_refused}
use Rattle.wasm_below.proofs.binary_reader.BinaryReader.read_size.Goals as goal

pub returns-in_err-size : goal.returns-in_err-size
returns-in_err-size c =
    let p = err_from_is_err_and c.from_residual.result c.from_residual.ensures.1 in
    rw (p.1, p.2) (count_refused c.args.desc c.args.limit c.in_err-size.field-0.0 c.args.self.now c.read_var_u32.new.self c.in_err-size.ensures)

pub returns-then-size-limit : goal.returns-then-size-limit
returns-then-size-limit c =
    let h = c.refuse.ensures in
    let at : c.self.inside.position ≡ c.args.self.now.position = ap (λ (r : Reader). r.position) c.self.view_is in
    let le : c.self.inside.position ≤ length c.args.self.now.buffer =
    subst (λ (r : Reader). c.self.inside.position ≤ length r.buffer) c.self.view_is c.self.invariant.0 in
    size_refused c.args.desc c.args.limit c.in_ok-size.field-0 c.refuse.result c.args.self.now c.read_var_u32.new.self c.refuse.new.self c.self.inside.position
    c.in_ok-size.ensures c.if-size-limit.true at le h.rewound h.offset h.message
