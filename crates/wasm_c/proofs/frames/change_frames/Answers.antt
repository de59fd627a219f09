use Rattle.std.proofs.Common.{◌+◌, ◌-◌, take, sym, subst, ap, ◌∙◌, arith}
use Rattle.std.proofs.lemmas.List.{drop-set-lt}
use Rattle.wasm_operators.specs.grammar.Frames.{frames_changed, OpensFrame}
use Rattle.wasm_c.specs.Frames.{kinds}
use Rattle.wasm_c.proofs.Stepped.{opened_in, closed_in, turned_in}
use Rattle.wasm_c.proofs.frames.change_frames.Goals as goal

pub returns-in-Opens-clause-frames : goal.returns-in-Opens-clause-frames
returns-in-Opens-clause-frames c =
    opened_in c.args.frames.now c.in-Opens.kind c.args.depth c.byte_of.result (c.requires.room (subst OpensFrame (sym c.in-Opens.is) tt)) c.byte_of.ensures ∙
    ap (frames_changed (kinds (take c.args.depth c.args.frames.now))) (sym c.in-Opens.is)

pub returns-in-Turns-clause-frames : goal.returns-in-Turns-clause-frames
returns-in-Turns-clause-frames c =
    turned_in c.args.frames.now c.in-Turns.kind c.args.depth c.byte_of-in-Turns.result c.requires.some c.requires.within c.byte_of-in-Turns.ensures ∙
    ap (frames_changed (kinds (take c.args.depth c.args.frames.now))) (sym c.in-Turns.is)

pub returns-in-Closes-clause-frames : goal.returns-in-Closes-clause-frames
returns-in-Closes-clause-frames c =
    closed_in c.args.frames.now c.args.depth c.requires.some c.requires.within ∙
    ap (frames_changed (kinds (take c.args.depth c.args.frames.now))) (sym c.in-Closes.is)

pub returns-in-Opens-clause-past : goal.returns-in-Opens-clause-past
returns-in-Opens-clause-past c = drop-set-lt (c.args.depth + 1) c.args.frames.now c.args.depth c.byte_of.result (omega arith)

pub returns-in-Turns-clause-past : goal.returns-in-Turns-clause-past
returns-in-Turns-clause-past c =
    drop-set-lt c.args.depth c.args.frames.now (c.args.depth - 1) c.byte_of-in-Turns.result (omega (arith, c.requires.some))
