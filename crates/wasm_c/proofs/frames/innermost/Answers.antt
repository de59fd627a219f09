use Rattle.std.proofs.Common.{Some, sym, ap, ◌∙◌}
use Rattle.wasm_c.proofs.Stepped.{innermost_taken}
use Rattle.wasm_c.proofs.frames.innermost.Goals as goal

pub returns : goal.returns
returns c = sym (ap Some c.kind_of.ensures ∙ innermost_taken c.args.frames.now c.args.depth c.requires.some c.requires.within)
