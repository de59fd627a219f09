use Rattle.std.proofs.Common.{sym, subst, ◌∙◌}
use Rattle.std.proofs.lemmas.Bool.{false≢true}
use Rattle.wasm_grammar.specs.Frames.{OpensFrame}
use Rattle.wasm_decode_opcodes.specs.Allowed.{EncodesAllowed, EncodesScalar}
use Rattle.wasm_decode_opcodes.specs.OperatorFaults.{OperatorFault, ScalarOperatorFault}
use Rattle.wasm_operators.proofs.Begins.{begun_without_room, not_reserved}
use Rattle.wasm_operators.proofs.begin.begin.Goals as goal
use Rattle.wasm_operators.proofs.begin.begin.Goals.{in-Opens, in_default-matches}

pub returns-then-is_err-clause-refused : goal.returns-then-is_err-clause-refused
returns-then-is_err-clause-refused c =
    let opens : OpensFrame c.frame_change_at.result = elim c.match-matches.branch [
      | in-Opens w ↦ subst OpensFrame (sym w.in-Opens.is) tt
      | in_default-matches w ↦ absurd (false≢true (sym w.matches-is ∙ c.if-matches.true))
    ] in
    let failed = not_reserved c.reserve.result c.args.control.now c.reserve.new.self (sym c.is_err.ensures.value ∙ c.if-is_err.true) c.reserve.ensures.enough c.reserve.ensures.refused in
    begun_without_room EncodesAllowed OperatorFault c.args.reader.now c.read_u8.new.self c.refuse.new.self c.args.control.now c.reserve.new.self c.in-Some.frame
    c.in-Ok.code c.current_position-start.result c.frame_change_at.result c.refuse.result (sym c.last.ensures ∙ c.in-Some.is) c.in-Ok.ensures c.current_position-start.ensures c.frame_change_at.ensures opens failed.0
    failed.1 c.refuse.ensures.rewound c.refuse.ensures.message c.refuse.ensures.offset

pub returns-then-is_err-clause-scalar : goal.returns-then-is_err-clause-scalar
returns-then-is_err-clause-scalar c =
    let opens : OpensFrame c.frame_change_at.result = elim c.match-matches.branch [
      | in-Opens w ↦ subst OpensFrame (sym w.in-Opens.is) tt
      | in_default-matches w ↦ absurd (false≢true (sym w.matches-is ∙ c.if-matches.true))
    ] in
    let failed = not_reserved c.reserve.result c.args.control.now c.reserve.new.self (sym c.is_err.ensures.value ∙ c.if-is_err.true) c.reserve.ensures.enough c.reserve.ensures.refused in
    begun_without_room EncodesScalar ScalarOperatorFault c.args.reader.now c.read_u8.new.self c.refuse.new.self c.args.control.now c.reserve.new.self c.in-Some.frame
    c.in-Ok.code c.current_position-start.result c.frame_change_at.result c.refuse.result (sym c.last.ensures ∙ c.in-Some.is) c.in-Ok.ensures c.current_position-start.ensures c.frame_change_at.ensures opens failed.0
    failed.1 c.refuse.ensures.rewound c.refuse.ensures.message c.refuse.ensures.offset
