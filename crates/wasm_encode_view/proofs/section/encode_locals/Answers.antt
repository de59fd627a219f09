use Rattle.std.proofs.Common.{refl}
use Rattle.wasm_encode_view.proofs.Sections.{locals_placed, not_twice}
use Rattle.wasm_encode_view.proofs.section.encode_locals.Goals as goal

pub returns-in-Some-put_locals : goal.returns-in-Some-put_locals
returns-in-Some-put_locals c =
    locals_placed c.args.locals.now c.in-Some.needed 0 c.in-Some-put_locals.end c.args.length.now _ _ _ c.args.out.now c.put_locals-2.new.out c.in-Some.ensures.puts
    c.if-needed-out.false c.in-Some-put_locals.ensures.puts refl refl

pub returns-in-None : goal.returns-in-None
returns-in-None c = absurd (not_twice c.args.locals.now c.in-Some.needed _ _ c.in-Some.ensures.puts c.in-None.ensures.puts)
