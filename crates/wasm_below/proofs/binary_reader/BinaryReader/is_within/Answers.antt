use Rattle.std.proofs.Common.{◌≡◌, ◌+◌, length, ap, arith}
use Rattle.wasm_below.specs.Source.{offset_of, end_of}
use Rattle.wasm_below.proofs.binary_reader.BinaryReader.is_within.Goals as goal

pub returns : goal.returns
returns c =
    let r = c.self.inside in
    let at : r.original_offset + r.position ≡ offset_of c.args.self.now = ap offset_of c.self.view_is in
    let end : r.original_offset + length r.buffer.now ≡ end_of c.args.self.now = ap end_of c.self.view_is in
    let le = c.self.invariant.0 in omega (arith, at, end, le)
