use Rattle.std.proofs.Common.{◌++◌, [], sym, subst}
use Rattle.wasm_below.specs.Number.{EncodesUnsigned}
use Rattle.wasm_encode_numbers.specs.Appended.{Appends}
use Rattle.wasm_encode_view.specs.Locals.{EncodesType}
use Rattle.wasm_encode_view.proofs.Puts.{puts_both}
use Rattle.wasm_encode_view.proofs.Sections.{one_shortest, none_of_type}
use Rattle.wasm_encode_view.proofs.put.put_one.Goals as goal

pub returns-in-Some-clause-puts : goal.returns-in-Some-clause-puts
returns-in-Some-clause-puts c =
    let local = c.args.local.now in
    let number = c.as_slice.result.now in
    let ty = c.as_slice-in-Some.result.now in (
      number ++ ty,
      one_shortest local number ty
          (subst (λ t. Appends (EncodesUnsigned 32) local.count [] t) (sym c.as_slice.ensures) c.write_number-number.ensures.written)
          (subst (λ t. Appends EncodesType local.ty [] t) (sym c.as_slice-in-Some.ensures) c.in-Some.ensures.0),
      puts_both number ty c.args.at c.put_bytes-next.result c.put_bytes.result c.args.out.now c.put_bytes-next.new.out c.put_bytes.new.out c.put_bytes-next.ensures c.put_bytes.ensures,
    )

pub returns-in-None-clause-puts : goal.returns-in-None-clause-puts
returns-in-None-clause-puts c = none_of_type c.args.local.now c.in-None.ensures
