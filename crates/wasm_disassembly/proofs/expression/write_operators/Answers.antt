use Rattle.std.proofs.Common.{◌≡◌, ◌≢◌, [], Err, ap, ◌∙◌, sym, subst, refl, rules, inl, inr}
use Rattle.std.proofs.lemmas.Result.{err_from_is_err_and}
use Rattle.wasm_operators.specs.below.declared.message.Message.TheVariants as message
use Rattle.wasm_operators.specs.below.Source.{rest, source_of}
use Rattle.wasm_operators.specs.Expression.{EncodesExpression}
use Rattle.wasm_text.specs.Lines.{between}
use Rattle.wasm_disassembly.specs.Disassembly.{ListsOperators}
use Rattle.wasm_disassembly.specs.Faults.{IsOutputFailure}
use Rattle.wasm_disassembly.proofs.Halts.{at_halt, at_fault, memory_halts}
use Rattle.wasm_disassembly.proofs.OperatorLines.{shown_names, listed_none, listed_more, fewer_left, listed_whole, listed_part}
use Rattle.wasm_disassembly.proofs.expression.write_operators.Goals as goal

pub operators-init : goal.operators-init
operators-init g c = listed_none (shown_names c.args.function c.args.names.now) c.args.start c.args.bytes.now c.new-operators.result (g.W.Write.contents c.args.writer.now) c.single_reads.ensures.first

pub operators-preserved : goal.operators-preserved
operators-preserved g c =
    let l = c.operators in
    let at = c.original_position-offset.result in
    let shown = c.bytes_between-shown.ensures.bytes ∙ ap (λ n. between c.args.start c.args.bytes.now at n) c.original_position.ensures in
    listed_more (shown_names c.args.function c.args.names.now) c.args.start l.depth c.in_ok-depth.depth at c.args.bytes.now c.bytes_between-shown.result.now c.new-operators.result l.operators
    c.read.new.self (g.W.Write.contents c.args.writer.now) (g.W.Write.contents l.writer) (g.W.Write.contents c.write_operator.new.writer) c.in-Ok.op
    c.single_reads.ensures.next c.single_reads.ensures.progress l.invariant c.in-Ok.ensures c.original_position-offset.ensures shown
    c.in_ok-depth.ensures.lines c.in_ok-depth.ensures.after

pub operators-smaller : goal.operators-smaller
operators-smaller g c = fewer_left c.in-Ok.op c.operators.operators c.read.new.self c.single_reads.ensures.progress c.in-Ok.ensures

pub returns-in-Err-clause-lists : goal.returns-in-Err-clause-lists
returns-in-Err-clause-lists g c =
    let l = c.operators.invariant in
    let e = c.in-Err.e in
    let opened = c.new-operators.result in
    let new = c.read.new.self in
    let same = c.in-Err.ensures.0 in
    let some : rest c.operators.operators.reader ≡ [] → ⊥ = search rules in
    let ran = c.single_reads.ensures.refused opened c.operators.operators new l.placed l.ran same in
    let stops = inr (λ none. some (ap rest (sym same.0) ∙ none), c.read_to_the_end.ensures.refused e new c.in-Err.ensures.1) in
    let before = g.W.Write.contents c.args.writer.now in
    let after = g.W.Write.contents c.operators.writer in
    let part = λ (other : e.message ≢ message.OutOfMemory).
    listed_part (shown_names c.args.function c.args.names.now) c.args.start c.operators.depth c.args.bytes.now c.args.reader e opened c.operators.operators new before after l c.new-operators.ensures.reader
    c.new-operators.ensures.fresh same.0
    (c.read_to_the_end.ensures.beginning [] e opened new l.placed c.new-operators.ensures.read_so_far ran stops) other in
    subst (λ f. ListsOperators {X = Unit {0}} (shown_names c.args.function c.args.names.now) c.args.start c.args.bytes.now (Err f) c.args.reader before after) (sym c.fault_of.ensures)
    (at_fault (λ f. ListsOperators {X = Unit {0}} (shown_names c.args.function c.args.names.now) c.args.start c.args.bytes.now (Err f) c.args.reader before after) e.message e tt part)

pub returns-in-Err-clause-whole : goal.returns-in-Err-clause-whole
returns-in-Err-clause-whole g c =
    let l = c.operators.invariant in
    let e = c.in-Err.e in
    let opened = c.new-operators.result in
    let new = c.read.new.self in
    let same = c.in-Err.ensures.0 in
    let some : rest c.operators.operators.reader ≡ [] → ⊥ = search rules in
    let ran = c.single_reads.ensures.refused opened c.operators.operators new l.placed l.ran same in
    let stops = inr (λ none. some (ap rest (sym same.0) ∙ none), c.read_to_the_end.ensures.refused e new c.in-Err.ensures.1) in
    λ placed encodes.
    let whole = subst (λ r. EncodesExpression (source_of r) placed) (sym c.new-operators.ensures.reader) encodes in
    subst IsOutputFailure (sym c.fault_of.ensures)
    (memory_halts e (c.read_to_the_end.ensures.only [] e opened new l.placed placed c.new-operators.ensures.read_so_far ran stops whole))

pub returns-in-Ok-finish-clause-lists : goal.returns-in-Ok-finish-clause-lists
returns-in-Ok-finish-clause-lists g c =
    let l = c.operators.invariant in
    let opened = c.new-operators.result in
    let now = c.operators.operators in
    let tree = c.read_to_the_end.ensures.tree [] opened now l.placed c.new-operators.ensures.read_so_far l.ran c.in-Ok-finish.ensures.0 c.in-Ok-finish.ensures.1 in
    listed_whole tt (shown_names c.args.function c.args.names.now) c.args.start c.operators.depth c.args.bytes.now c.args.reader opened now (g.W.Write.contents c.args.writer.now)
    (g.W.Write.contents c.operators.writer) l c.new-operators.ensures.reader tree

pub returns-clause-lists : goal.returns-clause-lists
returns-clause-lists g c =
    let l = c.operators.invariant in
    let e = c.in-Err-finish.e in
    let opened = c.new-operators.result in
    let now = c.operators.operators in
    let all : rest now.reader ≡ [] = search rules in
    let left = c.read_to_the_end.ensures.finished e now all c.in-Err-finish.ensures in
    listed_part (shown_names c.args.function c.args.names.now) c.args.start c.operators.depth c.args.bytes.now c.args.reader e opened now now (g.W.Write.contents c.args.writer.now)
    (g.W.Write.contents c.operators.writer) l c.new-operators.ensures.reader c.new-operators.ensures.fresh refl
    (c.read_to_the_end.ensures.beginning [] e opened now l.placed c.new-operators.ensures.read_so_far l.ran (inl left))
    (λ is. absurd (cc (is, left.2)))

pub returns-clause-whole : goal.returns-clause-whole
returns-clause-whole g c =
    let l = c.operators.invariant in
    let e = c.in-Err-finish.e in
    let opened = c.new-operators.result in
    let now = c.operators.operators in
    let all : rest now.reader ≡ [] = search rules in
    let left = c.read_to_the_end.ensures.finished e now all c.in-Err-finish.ensures in
    λ placed encodes.
    let whole = subst (λ r. EncodesExpression (source_of r) placed) (sym c.new-operators.ensures.reader) encodes in
    let memory = c.read_to_the_end.ensures.only [] e opened now l.placed placed c.new-operators.ensures.read_so_far l.ran (inl left) whole in
    let frames = left.2 in
    absurd (cc (memory, frames))

pub returns-in_err-depth-clause-lists : goal.returns-in_err-depth-clause-lists
returns-in_err-depth-clause-lists g c =
    let p = err_from_is_err_and c.from_residual.result c.from_residual.ensures.1 in
    rw (p.1, p.2) (at_halt (λ f. ListsOperators {X = Unit {0}} (shown_names c.args.function c.args.names.now) c.args.start c.args.bytes.now (Err f) c.args.reader
    (g.W.Write.contents c.args.writer.now) (g.W.Write.contents c.write_operator.new.writer)) c.in_err-depth.field-0.0
    c.in_err-depth.ensures.halts tt tt)

pub returns-in_err-depth-clause-whole : goal.returns-in_err-depth-clause-whole
returns-in_err-depth-clause-whole g c = λ placed encodes. let p = err_from_is_err_and c.from_residual.result c.from_residual.ensures.1 in rw (p.1, p.2) c.in_err-depth.ensures.halts
