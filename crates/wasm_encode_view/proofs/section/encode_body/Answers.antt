use Rattle.std.proofs.Common.{[], length, refl, sym, subst, ap, ◌∙◌, arith}
use Rattle.wasm_below.specs.Number.{EncodesUnsigned}
use Rattle.wasm_encode_numbers.specs.Appended.{Appends}
use Rattle.wasm_encode_view.specs.Sections.{EncodesDeclarations, EncodesSized}
use Rattle.wasm_encode_view.proofs.Sections.{none_sized, none_placed, body_too_large, body_no_room, body_placed}
use Rattle.wasm_encode_view.proofs.section.encode_body.Goals as goal

pub returns-in_default : goal.returns-in_default
returns-in_default c =
    none_placed (EncodesSized EncodesDeclarations c.args.locals.now) c.args.operators.now 112 c.args.length.now c.args.out.now
    (none_sized EncodesDeclarations c.args.locals.now c.args.operators.now c.in_default.ensures.puts) refl

pub returns-in_default-size_of : goal.returns-in_default-size_of
returns-in_default-size_of c =
    body_too_large c.args.locals.now c.args.operators.now c.in-Some.declared 112 c.args.length.now _ _ c.args.out.now c.in-Some.ensures.puts
    (c.size_of.ensures.long c.in_default-size_of.is) refl

pub returns-then-needed-out : goal.returns-then-needed-out
returns-then-needed-out c =
    body_no_room c.args.locals.now c.args.operators.now c.as_slice.result.now c.in-Some.declared c.in-Some-size_of.size _ 102 c.args.length.now _ _ _ c.args.out.now c.in-Some.ensures.puts
    c.in-Some-size_of.ensures.fits (subst (λ t. Appends (EncodesUnsigned 32) c.in-Some-size_of.size [] t) (sym c.as_slice.ensures) c.write_number-number.ensures.written) refl refl c.if-needed-out.true refl

pub returns-in-Some-put_body : goal.returns-in-Some-put_body
returns-in-Some-put_body c =
    body_placed c.args.locals.now c.args.operators.now c.as_slice-2.result.now c.in-Some.declared c.in-Some-size_of.size 0 c.in-Some-put_body.end c.args.length.now _ _ _ c.args.out.now c.put_body.new.out
    c.in-Some.ensures.puts c.in-Some-size_of.ensures.fits
    (subst (λ t. Appends (EncodesUnsigned 32) c.in-Some-size_of.size [] t) (sym c.as_slice-2.ensures) c.write_number-number.ensures.written)
    (let fits = c.if-needed-out.false in let same = ap length (c.as_slice-2.ensures ∙ sym c.as_slice.ensures) in omega (arith, fits, same)) c.in-Some-put_body.ensures refl refl
