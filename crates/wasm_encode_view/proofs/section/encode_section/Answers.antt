use Rattle.std.proofs.Common.{[], length, refl, sym, subst, ap, ◌∙◌, arith}
use Rattle.wasm_below.specs.Number.{EncodesUnsigned}
use Rattle.wasm_encode_numbers.specs.Appended.{Appends}
use Rattle.wasm_encode_view.proofs.Sections.{section_no_room, section_placed, section_too_large}
use Rattle.wasm_encode_view.proofs.section.encode_section.Goals as goal

pub returns-in_default : goal.returns-in_default
returns-in_default c =
    section_too_large c.args.id c.args.count 112 c.args.length.now c.as_slice.result.now c.args.entries.now c.args.out.now
    (subst (λ t. Appends (EncodesUnsigned 32) c.args.count [] t) (sym c.as_slice.ensures) c.write_number-number.ensures.written)
    (c.size_of.ensures.long c.in_default.is) refl

pub returns-then-needed-out : goal.returns-then-needed-out
returns-then-needed-out c =
    section_no_room c.args.id c.args.count c.in-Some.size 102 c.args.length.now _ c.as_slice.result.now c.args.entries.now c.as_slice-2.result.now c.args.out.now
    (subst (λ t. Appends (EncodesUnsigned 32) c.args.count [] t) (sym c.as_slice.ensures) c.write_number-number.ensures.written) c.in-Some.ensures.fits
    (subst (λ t. Appends (EncodesUnsigned 32) c.in-Some.size [] t) (sym c.as_slice-2.ensures) c.write_number-first.ensures.written) refl c.if-needed-out.true refl

pub returns : goal.returns
returns c =
    section_placed c.args.id c.args.count c.in-Some.size 0 c.put_section.result c.args.length.now _ c.as_slice-4.result.now c.args.entries.now c.as_slice-3.result.now c.args.out.now c.put_section.new.out
    (subst (λ t. Appends (EncodesUnsigned 32) c.args.count [] t) (sym c.as_slice-4.ensures) c.write_number-number.ensures.written)
    (let sum = c.in-Some.ensures.fits in let same = ap length (c.as_slice-4.ensures ∙ sym c.as_slice.ensures) in omega (arith, sum, same))
    (subst (λ t. Appends (EncodesUnsigned 32) c.in-Some.size [] t) (sym c.as_slice-3.ensures) c.write_number-first.ensures.written)
    (let fits = c.if-needed-out.false in let same = ap length (c.as_slice-3.ensures ∙ sym c.as_slice-2.ensures) in omega (arith, fits, same)) c.put_section.ensures refl refl
