use Rattle.std.proofs.Common.{◌≡◌, ◌+◌, ◌-◌, ◌≤◌, length, take, refl, subst, length-drop, arith}
use Rattle.wasm_below.specs.Source.{Reader, rest, at_position, IsBlock, Takes}
use Rattle.wasm_below.proofs.Blocks.{short_refused, takes_block}
use Rattle.wasm_below.proofs.binary_reader.BinaryReader.read_bytes.Goals as goal

pub returns-then-n-self : goal.returns-then-n-self
returns-then-n-self c =
    let le : c.args.self.now.position ≤ length c.args.self.now.buffer =
    subst (λ (r : Reader). r.position ≤ length r.buffer) c.self.view_is c.self.invariant.0 in
    (refl, short_refused (IsBlock c.args.n) c.args.n c.block_missing.result c.args.self.now (λ text x p. p.1) le c.block_missing.ensures, c.block_missing.ensures)

pub returns : goal.returns
returns c =
    let old : Reader = record {
      features = c.self.inside.features;
      start = c.self.inside.original_offset;
      buffer = c.self.inside.buffer.now;
      position =
          c.self.inside.position;
    } in
    let n = c.args.n in
    let t = takes_block old (at_position old (old.position + n)) n (old.position + n - old.position) (omega arith)
    (let left : length (rest old) ≡ length old.buffer - old.position = length-drop old.position old.buffer in omega arith) refl in
    let text = take (old.position + n - old.position) (rest old) in
    (text, (refl, t.0), subst (λ (r : Reader). Takes r (at_position old (old.position + n)) text) c.self.view_is t.1)
