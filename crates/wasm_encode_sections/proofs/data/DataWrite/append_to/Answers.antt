use Rattle.std.proofs.Common.{inl, inr}
use Rattle.wasm_segments.specs.Segments.{data_segment}
use Rattle.wasm_write_grammars.proofs.Owing.{given, thing_fails}
use Rattle.wasm_encode_sections.specs.SegmentReasons.{DataReason}
use Rattle.wasm_encode_sections.specs.SegmentFlags.{data_flags}
use Rattle.wasm_encode_sections.proofs.DataSteps.{flags_starts, only_kind, only_bytes, kind_starts, data_written}
use Rattle.wasm_encode_sections.proofs.data.DataWrite.append_to.Goals as goal

pub returns-in_err-append_u32 : goal.returns-in_err-append_u32
returns-in_err-append_u32 g c =
    let (extends, why) = c.in_err-append_u32.ensures in
    given (DataReason (g.C.Write.reason c.args.features)) _ c.from_residual.ensures.1 extends (λ known. absurd (why known).reason)

pub returns-in_err-append_place : goal.returns-in_err-append_place
returns-in_err-append_place g c =
    let p = g.C.Write.grammar c.args.features in
    let x = c.args.self.now in
    thing_fails (DataReason (g.C.Write.reason c.args.features)) _ c.from_residual-in_err-append_place.ensures.1 (flags_starts p x c.data_flags.ensures c.in_ok-append_u32.ensures) x.kind
    (only_kind p x (data_flags x.kind)) c.in_err-append_place.ensures (λ r. inl r)

pub returns-in_err-append_to : goal.returns-in_err-append_to
returns-in_err-append_to g c =
    let p = g.C.Write.grammar c.args.features in
    let x = c.args.self.now in
    thing_fails (DataReason (g.C.Write.reason c.args.features)) _ c.from_residual-in_err-append_to.ensures.1
    (kind_starts p x c.data_flags.ensures c.in_ok-append_u32.ensures c.in_ok-append_place.ensures) x.«data» (only_bytes p x x.kind) c.in_err-append_to.ensures (λ r. inr r)

pub returns : goal.returns
returns g c = data_written (g.C.Write.grammar c.args.features) c.args.self.now c.data_flags.ensures c.in_ok-append_u32.ensures c.in_ok-append_place.ensures c.in_ok-append_to.ensures
