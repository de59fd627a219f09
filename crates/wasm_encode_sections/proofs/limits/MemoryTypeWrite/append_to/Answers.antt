use Rattle.std.proofs.Common.{◌≡◌, inl, inr, ap, sym, ◌∙◌}
use Rattle.std.specs.Prelude.{is_some}
use Rattle.wasm_write_grammars.proofs.Owing.{thing_fails, given}
use Rattle.wasm_encode_sections.specs.ExternalReasons.{MemoryReason}
use Rattle.wasm_encode_sections.specs.Flags.{flag_byte}
use Rattle.wasm_encode_sections.proofs.FlagBytes.{flag_bits}
use Rattle.wasm_encode_sections.proofs.LimitSteps.{memory_byte, only_pages, memory_flags_starts, memory_written, memory_limit_fails, memory_page_fails, flag_at}
use Rattle.wasm_encode_sections.proofs.limits.MemoryTypeWrite.append_to.Goals as goal

pub append_maximum-requires : goal.append_maximum-requires
append_maximum-requires c =
    let x = c.args.self.now in
    let flags = c.flag_byte-flags.ensures.value ∙ ap (λ z. flag_byte z x.shared x.memory64 c.is_some-2.result) c.is_some.ensures ∙ ap (λ z. flag_byte (is_some x.maximum) x.shared x.memory64 z) c.is_some-2.ensures in
    flag_at 1 flags (flag_bits (is_some x.maximum) x.shared x.memory64 (is_some x.page_size_log2)).0

pub append_page_size-requires : goal.append_page_size-requires
append_page_size-requires c =
    let x = c.args.self.now in
    let flags = c.flag_byte-flags.ensures.value ∙ ap (λ z. flag_byte z x.shared x.memory64 c.is_some-2.result) c.is_some.ensures ∙ ap (λ z. flag_byte (is_some x.maximum) x.shared x.memory64 z) c.is_some-2.ensures in
    flag_at 8 flags (flag_bits (is_some x.maximum) x.shared x.memory64 (is_some x.page_size_log2)).3

pub returns-in_err-append_byte : goal.returns-in_err-append_byte
returns-in_err-append_byte c =
    let (extends, why) = c.in_err-append_byte.ensures in
    given (MemoryReason c.args.features) _ c.from_residual.ensures.1 extends (λ known. absurd (why known).reason)

pub returns-in_err-append_address : goal.returns-in_err-append_address
returns-in_err-append_address c =
    let x = c.args.self.now in
    let flags = c.flag_byte-flags.ensures.value ∙ ap (λ z. flag_byte z x.shared x.memory64 c.is_some-2.result) c.is_some.ensures ∙ ap (λ z. flag_byte (is_some x.maximum) x.shared x.memory64 z) c.is_some-2.ensures in
    thing_fails (MemoryReason c.args.features) _ c.from_residual-in_err-append_address.ensures.1
    (memory_flags_starts c.args.features x c.args.out.now.items flags c.flag_byte-flags.ensures.small c.in_ok-append_byte.ensures) x.initial
    (only_pages c.args.features x (memory_byte x)) c.in_err-append_address.ensures (λ r. inl r)

pub returns-in_err-append_maximum : goal.returns-in_err-append_maximum
returns-in_err-append_maximum c =
    let x = c.args.self.now in
    let flags = c.flag_byte-flags.ensures.value ∙ ap (λ z. flag_byte z x.shared x.memory64 c.is_some-2.result) c.is_some.ensures ∙ ap (λ z. flag_byte (is_some x.maximum) x.shared x.memory64 z) c.is_some-2.ensures in
    memory_limit_fails c.args.features x c.args.out.now.items flags c.flag_byte-flags.ensures.small c.in_ok-append_byte.ensures c.in_ok-append_address.ensures _
    c.from_residual-in_err-append_maximum.ensures.1 c.in_err-append_maximum.ensures

pub returns-in_err-append_page_size : goal.returns-in_err-append_page_size
returns-in_err-append_page_size c =
    let x = c.args.self.now in
    let flags = c.flag_byte-flags.ensures.value ∙ ap (λ z. flag_byte z x.shared x.memory64 c.is_some-2.result) c.is_some.ensures ∙ ap (λ z. flag_byte (is_some x.maximum) x.shared x.memory64 z) c.is_some-2.ensures in
    memory_page_fails c.args.features x c.args.out.now.items flags c.flag_byte-flags.ensures.small c.in_ok-append_byte.ensures c.in_ok-append_address.ensures
    c.in_ok-append_maximum.ensures _ c.from_residual-in_err-append_page_size.ensures.1 c.in_err-append_page_size.ensures

pub returns : goal.returns
returns c =
    let x = c.args.self.now in
    let flags = c.flag_byte-flags.ensures.value ∙ ap (λ z. flag_byte z x.shared x.memory64 c.is_some-2.result) c.is_some.ensures ∙ ap (λ z. flag_byte (is_some x.maximum) x.shared x.memory64 z) c.is_some-2.ensures in
    memory_written c.args.features x c.args.out.now.items flags c.flag_byte-flags.ensures.small c.in_ok-append_byte.ensures c.in_ok-append_address.ensures
    c.in_ok-append_maximum.ensures c.in_ok-append_page_size.ensures
