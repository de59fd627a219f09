use Rattle.wasm_write_grammars.proofs.Owing.{given}
use Rattle.wasm_encode_sections.specs.SegmentReasons.{PlaceReason}
use Rattle.wasm_encode_sections.proofs.DataSteps.{passive_written, active_written, active_fails}
use Rattle.wasm_encode_sections.proofs.data.append_place.Goals as goal

pub returns-in-Passive : goal.returns-in-Passive
returns-in-Passive g c = passive_written (g.C.Write.grammar c.args.features) c.in-Passive.is c.args.out.now.items

pub returns-in_err-append_memory_index-in-Active : goal.returns-in_err-append_memory_index-in-Active
returns-in_err-append_memory_index-in-Active g c =
    let (extends, why) = c.in_err-append_memory_index-in-Active.ensures in
    given (PlaceReason (g.C.Write.reason c.args.features)) _ c.from_residual.ensures.1 extends (λ known. absurd (why known).reason)

pub returns-in_err-append_to-in-Active : goal.returns-in_err-append_to-in-Active
returns-in_err-append_to-in-Active g c =
    active_fails (g.C.Write.grammar c.args.features) c.in-Active.memory_index c.in-Active.offset_expr (g.C.Write.reason c.args.features) c.in-Active.is
    c.in_ok-append_memory_index-in-Active.ensures _ c.from_residual-in_err-append_to-in-Active.ensures.1 c.in_err-append_to-in-Active.ensures

pub returns-in_ok-append_to-in-Active : goal.returns-in_ok-append_to-in-Active
returns-in_ok-append_to-in-Active g c =
    active_written (g.C.Write.grammar c.args.features) c.in-Active.memory_index c.in-Active.offset_expr c.in-Active.is c.in_ok-append_memory_index-in-Active.ensures
    c.in_ok-append_to-in-Active.ensures
