use Rattle.std.proofs.Common.{true, false}
use Rattle.wasm_write_grammars.proofs.Owing.{given}
use Rattle.wasm_encode_sections.specs.ElementReasons.{OffsetReason}
use Rattle.wasm_encode_sections.proofs.ElementSteps.{inactive_written, place_written, place_fails}
use Rattle.wasm_encode_sections.proofs.elements.append_kind.Goals as goal

pub returns-in-Passive : goal.returns-in-Passive
returns-in-Passive g c =
    inactive_written (g.C.Write.grammar c.args.features) c.args.flags false c.in-Passive.is c.requires.0 c.requires.1 c.args.out.now.items

pub returns-in-Declared : goal.returns-in-Declared
returns-in-Declared g c =
    inactive_written (g.C.Write.grammar c.args.features) c.args.flags true c.in-Declared.is c.requires.0 c.requires.1 c.args.out.now.items

pub returns-in_err-append_index-in-Active : goal.returns-in_err-append_index-in-Active
returns-in_err-append_index-in-Active g c =
    let (extends, why) = c.in_err-append_index-in-Active.ensures in
    given (OffsetReason (g.C.Write.reason c.args.features)) _ c.from_residual.ensures.1 extends (λ known. absurd (why known).reason)

pub returns-in_err-append_to-in-Active : goal.returns-in_err-append_to-in-Active
returns-in_err-append_to-in-Active g c =
    place_fails (g.C.Write.grammar c.args.features) c.args.flags c.in-Active.table_index c.in-Active.offset_expr c.in-Active.is c.requires.0 c.requires.1
    (g.C.Write.reason c.args.features) c.is_some.ensures c.in_ok-append_index-in-Active.ensures _ c.from_residual-in_err-append_to-in-Active.ensures.1 c.in_err-append_to-in-Active.ensures

pub returns-in_ok-append_to-in-Active : goal.returns-in_ok-append_to-in-Active
returns-in_ok-append_to-in-Active g c =
    place_written (g.C.Write.grammar c.args.features) c.args.flags c.in-Active.table_index c.in-Active.offset_expr c.in-Active.is c.requires.0 c.requires.1
    c.is_some.ensures c.in_ok-append_index-in-Active.ensures c.in_ok-append_to-in-Active.ensures
