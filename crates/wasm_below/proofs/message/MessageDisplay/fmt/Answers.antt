use Rattle.std.proofs.Common.{◌≡◌, rules, false, [], Some, ap, ◌∙◌}
use Rattle.std.specs.Prelude.{◌-◌, ◌^◌, codes}
use Rattle.std.specs.Option.{option_map}
use Rattle.std.specs.Fmt.{◌++?◌, digits_output, styled_digits_output, padded_integral, format_spec, DisplaysOnOk}
use Rattle.wasm_below.specs.MessageText.{eight_digits}
use Rattle.wasm_below.proofs.MessageTexts.{zero_padded_byte}
use Rattle.wasm_below.proofs.message.MessageDisplay.fmt.Goals as goal

pub returns-in-UnknownSubopcode-clause-writes : goal.returns-in-UnknownSubopcode-clause-writes
returns-in-UnknownSubopcode-clause-writes g c =
    let prefix = c.in_radix-in-UnknownSubopcode.result in
    let code = c.in_radix-in-UnknownSubopcode-2.result in
    let written : DisplaysOnOk g.W.Write.write_str_gives c.args.f.now c.write-in-UnknownSubopcode.result
    (Some (codes "unknown 0x") ++? digits_output prefix ++? Some (codes " subopcode: 0x") ++? digits_output code) c.write-in-UnknownSubopcode.new.self =
    c.write-in-UnknownSubopcode.ensures.writes in
    rw c.in-UnknownSubopcode.is (rw (c.in_radix-in-UnknownSubopcode.ensures, c.in_radix-in-UnknownSubopcode-2.ensures) at written)

pub returns-in-InvalidCastFlags-clause-writes : goal.returns-in-InvalidCastFlags-clause-writes
returns-in-InvalidCastFlags-clause-writes g c =
    let flags = c.in-InvalidCastFlags.flags in
    let number = c.in_radix-in-InvalidCastFlags.result in
    let padded : styled_digits_output number c.laid_out.result ≡ Some (eight_digits flags) =
    ap (λ layout. styled_digits_output number layout) c.laid_out.ensures ∙
    ap (option_map (padded_integral (format_spec 32 0 4 8 (2 ^ 64 - 1)) false [])) c.in_radix-in-InvalidCastFlags.ensures ∙
    ap Some (zero_padded_byte flags (search rules)) in
    let written : DisplaysOnOk g.W.Write.write_str_gives c.args.f.now c.write-in-InvalidCastFlags.result
    (Some (codes "invalid cast flags: ") ++? styled_digits_output number c.laid_out.result) c.write-in-InvalidCastFlags.new.self =
    c.write-in-InvalidCastFlags.ensures.writes in
    rw c.in-InvalidCastFlags.is (rw padded at written)
