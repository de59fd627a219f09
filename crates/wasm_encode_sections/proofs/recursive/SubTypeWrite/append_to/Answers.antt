use Rattle.std.proofs.Common.{inl, inr, sym, ◌∙◌}
use Rattle.wasm_write_grammars.proofs.Owing.{part_fails, thing_fails, given}
use Rattle.wasm_encode_sections.specs.Subtypes.{sub_byte}
use Rattle.wasm_encode_sections.specs.TypeReasons.{SubReason}
use Rattle.wasm_encode_sections.proofs.SubtypeSteps.{full_starts, super_starts, full_written, plain_starts, plain_written, only_super_of, only_type_of, only_plain}
use Rattle.wasm_encode_sections.proofs.recursive.SubTypeWrite.append_to.Goals as goal

pub returns-in_err-append_to : goal.returns-in_err-append_to
returns-in_err-append_to c =
    let plain = sym c.is_plain.ensures ∙ c.if-is_plain.true in
    part_fails SubReason _ c.from_residual.ensures.1 (plain_starts c.args.self.now c.args.out.now.items plain) c.args.self.now.composite_type (only_plain c.args.self.now)
    c.in_err-append_to.ensures (λ r. inr r)

pub returns-then-is_plain : goal.returns-then-is_plain
returns-then-is_plain c =
    plain_written c.args.self.now c.args.out.now.items (sym c.is_plain.ensures ∙ c.if-is_plain.true) c.in_ok-append_to.ensures

pub returns-in_err-append_byte : goal.returns-in_err-append_byte
returns-in_err-append_byte c =
    let (extends, why) = c.in_err-append_byte.ensures in
    given SubReason _ c.from_residual-in_err-append_byte.ensures.1 extends (λ known. absurd (why known).reason)

pub returns-in_err-append_supertype : goal.returns-in_err-append_supertype
returns-in_err-append_supertype c =
    let full = sym c.is_plain.ensures ∙ c.if-is_plain.false in
    thing_fails SubReason _ c.from_residual-in_err-append_supertype.ensures.1 (full_starts c.args.self.now c.args.out.now.items full c.sub_byte.ensures c.in_ok-append_byte.ensures) c.args.self.now.supertype_idx
    (only_super_of (sub_byte c.args.self.now.is_final) c.args.self.now) c.in_err-append_supertype.ensures (λ r. inl r)

pub returns-in_err-append_to-2 : goal.returns-in_err-append_to-2
returns-in_err-append_to-2 c =
    let full = sym c.is_plain.ensures ∙ c.if-is_plain.false in
    thing_fails SubReason _ c.from_residual-in_err-append_to-2.ensures.1 (super_starts c.args.self.now c.args.out.now.items full c.sub_byte.ensures c.in_ok-append_byte.ensures c.in_ok-append_supertype.ensures)
    c.args.self.now.composite_type (only_type_of (sub_byte c.args.self.now.is_final) c.args.self.now.supertype_idx c.args.self.now) c.in_err-append_to-2.ensures (λ r. inr r)

pub returns : goal.returns
returns c =
    let full = sym c.is_plain.ensures ∙ c.if-is_plain.false in
    full_written c.args.self.now c.args.out.now.items full c.sub_byte.ensures c.in_ok-append_byte.ensures c.in_ok-append_supertype.ensures c.in_ok-append_to-2.ensures
