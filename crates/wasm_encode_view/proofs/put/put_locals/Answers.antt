use Rattle.std.proofs.Common.{[], length, sym, subst, arith}
use Rattle.wasm_below.specs.Number.{EncodesUnsigned}
use Rattle.wasm_encode_numbers.specs.Appended.{Appends}
use Rattle.wasm_encode_view.proofs.Sections.{locals_put, too_many}
use Rattle.wasm_encode_view.proofs.put.put_locals.Goals as goal

pub returns-then-locals-gt4294967295-clause-puts : goal.returns-then-locals-gt4294967295-clause-puts
returns-then-locals-gt4294967295-clause-puts c = let more = c.if-locals-gt4294967295.true in too_many c.args.locals.now (omega (arith, more))

pub returns-clause-puts : goal.returns-clause-puts
returns-clause-puts c =
    locals_put c.args.locals.now c.args.at c.put_bytes-next.result c.put_each.result c.as_slice.result.now c.args.out.now c.put_bytes-next.new.out c.put_each.new.out
    (subst (λ t. Appends (EncodesUnsigned 32) (length c.args.locals.now) [] t) (sym c.as_slice.ensures) c.write_number-count.ensures.written) c.put_bytes-next.ensures c.put_each.ensures.puts
