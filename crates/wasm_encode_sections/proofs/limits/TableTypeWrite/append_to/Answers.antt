use Rattle.std.proofs.Common.{◌≡◌, false, inl, inr, ap, sym, ◌∙◌}
use Rattle.wasm_externals.specs.Limits.{table_type}
use Rattle.wasm_write_grammars.proofs.Owing.{owes, part_fails, thing_fails, given, extends_then}
use Rattle.wasm_encode_sections.specs.ExternalReasons.{TableReason}
use Rattle.wasm_encode_sections.specs.Flags.{flag_byte}
use Rattle.wasm_encode_sections.proofs.FlagBytes.{flag_bits}
use Rattle.wasm_encode_sections.proofs.LimitSteps.{table_byte, only_element, only_initial, only_most, element_starts, table_flags_starts, table_initial_starts, table_written, flag_at, table_most_fails}
use Rattle.wasm_encode_sections.proofs.limits.TableTypeWrite.append_to.Goals as goal

pub append_maximum-requires : goal.append_maximum-requires
append_maximum-requires c =
    let x = c.args.self.now in
    let flags = c.flag_byte-flags.ensures.value ∙ ap (λ z. flag_byte z x.shared x.table64 false) c.is_some.ensures in
    flag_at 1 flags (flag_bits _ x.shared x.table64 false).0

pub returns-in_err-append_to : goal.returns-in_err-append_to
returns-in_err-append_to c =
    part_fails (TableReason c.args.features) _ c.from_residual.ensures.1 (owes (table_type c.args.features) c.args.self.now c.args.out.now.items) c.args.self.now.element_type
    (only_element c.args.features c.args.self.now) c.in_err-append_to.ensures (λ r. absurd r)

pub returns-in_err-append_byte : goal.returns-in_err-append_byte
returns-in_err-append_byte c =
    let (extends, why) = c.in_err-append_byte.ensures in
    given (TableReason c.args.features) _ c.from_residual-in_err-append_byte.ensures.1
    (extends_then (element_starts c.args.features c.args.self.now c.args.out.now.items c.in_ok-append_to.ensures).appended extends) (λ known. absurd (why known).reason)

pub returns-in_err-append_address : goal.returns-in_err-append_address
returns-in_err-append_address c =
    let x = c.args.self.now in
    let flags = c.flag_byte-flags.ensures.value ∙ ap (λ z. flag_byte z x.shared x.table64 false) c.is_some.ensures in
    thing_fails (TableReason c.args.features) _ c.from_residual-in_err-append_address.ensures.1
    (table_flags_starts c.args.features x c.args.out.now.items flags c.in_ok-append_to.ensures c.in_ok-append_byte.ensures) x.initial
    (only_initial c.args.features x x.element_type (table_byte x)) c.in_err-append_address.ensures (λ r. inl r)

pub returns-in_err-append_maximum : goal.returns-in_err-append_maximum
returns-in_err-append_maximum c =
    let x = c.args.self.now in
    let flags = c.flag_byte-flags.ensures.value ∙ ap (λ z. flag_byte z x.shared x.table64 false) c.is_some.ensures in
    table_most_fails c.args.features x c.args.out.now.items flags c.in_ok-append_to.ensures c.in_ok-append_byte.ensures c.in_ok-append_address.ensures _
    c.from_residual-in_err-append_maximum.ensures.1 c.in_err-append_maximum.ensures

pub returns : goal.returns
returns c =
    let x = c.args.self.now in
    let flags = c.flag_byte-flags.ensures.value ∙ ap (λ z. flag_byte z x.shared x.table64 false) c.is_some.ensures in
    table_written c.args.features x c.args.out.now.items flags c.in_ok-append_to.ensures c.in_ok-append_byte.ensures c.in_ok-append_address.ensures c.in_ok-append_maximum.ensures
