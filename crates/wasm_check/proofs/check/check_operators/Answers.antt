use Rattle.std.proofs.Common.{◌≡◌, true, false, [], refl, sym, ap, subst, ◌∙◌}
use Rattle.wasm_below.specs.Source.{Reader, source_of}
use Rattle.wasm_operators.specs.Laws.{LaysOutBoth, BeginsLonger}
use Rattle.wasm_instr.specs.declared.operator.Operator.TheVariants as operator
use Rattle.wasm_check_control.specs.State.{outermost}
use Rattle.wasm_check_control.specs.SetLocals.{with_set}
use Rattle.wasm_check_operators.specs.Language.{rules_of}
use Rattle.wasm_check.specs.Constants.{may_occur, OccursNotAt}
use Rattle.wasm_check.specs.Typed.{IsUntypedAt, StepsOne}
use Rattle.wasm_check.proofs.Along.{HasChecked, checked_none, checked_more, untyped_at, is_not_typed, occurs_not_at, none_occurs, typed_expression}
use Rattle.wasm_check.proofs.Driving.{visited, memory_said, explained, undecoded, stops_at_read, stops_at_end, not_ended, has_ended}
use Rattle.wasm_check.proofs.check.check_operators.Goals as goal

pub loop-reader-init : goal.loop-reader-init
loop-reader-init g c =
    let E = g.M.ModuleContext.environment c.args.context.now in
    let may = may_occur c.args.constant E in
    let R = rules_of E in
    let results = E.results in
    (ap (λ m. m.now) c.in-Ok.ensures.same, refl, subst (HasChecked may R results c.args.reader c.args.reader) (sym c.in-Ok.ensures.starts) (checked_none may R results c.args.reader c.single_reads.ensures.first))

pub loop-reader-preserved : goal.loop-reader-preserved
loop-reader-preserved g c =
    let E = g.M.ModuleContext.environment c.args.context.now in
    let may = may_occur c.args.constant E in
    let R = rules_of E in
    let results = E.results in
    let h = c.loop-reader.invariant in
    let v = c.in-Ok-visit_operator_simd.ensures in
    let occurs : c.visit_operator_simd.new.v.may_occur ≡ may v.0 =
    v.2.2 ∙ ap (λ m. may_occur c.loop-reader.visitor.constant (g.M.ModuleContext.environment m) v.0) h.0 ∙ ap (λ k. may_occur k E v.0) h.1 in
    let good : may v.0 ≡ true = cc (occurs, c.if-not-visitor.false) in
    let said = subst (λ m. StepsOne (rules_of (g.M.ModuleContext.environment m)) (with_set c.loop-reader.visitor.checker.operators.control c.loop-reader.visitor.checker.locals) v.0 c.in-Ok-visit_operator_simd.outcome (with_set c.visit_operator_simd.new.v.checker.operators.control c.visit_operator_simd.new.v.checker.locals)) h.0 v.2.3 in
    let is = visited R (with_set c.loop-reader.visitor.checker.operators.control c.loop-reader.visitor.checker.locals) (with_set c.visit_operator_simd.new.v.checker.operators.control c.visit_operator_simd.new.v.checker.locals) v.0 c.in-Ok-visit_operator_simd.outcome c.in-Ok-true.field-0 true said c.in-Ok-true.is c.in-Ok-true.field-0-test in (
      ap (λ m. m.now) v.2.0 ∙ h.0,
      v.2.1 ∙ h.1,
      checked_more may R results c.args.reader c.loop-reader.reader c.visit_operator_simd.new.self (with_set c.loop-reader.visitor.checker.operators.control c.loop-reader.visitor.checker.locals) (with_set c.visit_operator_simd.new.v.checker.operators.control c.visit_operator_simd.new.v.checker.locals) v.0
          c.single_reads.ensures.next c.steps_on.ensures h.2 v.1 good is,
    )

pub returns-then-not-visitor-clause-error : goal.returns-then-not-visitor-clause-error
returns-then-not-visitor-clause-error g c =
    let E = g.M.ModuleContext.environment c.args.context.now in
    let may = may_occur c.args.constant E in
    let R = rules_of E in
    let results = E.results in
    let h = c.loop-reader.invariant in
    let v = c.in-Ok-visit_operator_simd.ensures in
    let occurs : c.visit_operator_simd.new.v.may_occur ≡ may v.0 =
    v.2.2 ∙ ap (λ m. may_occur c.loop-reader.visitor.constant (g.M.ModuleContext.environment m) v.0) h.0 ∙ ap (λ k. may_occur k E v.0) h.1 in
    let bad : may v.0 ≡ false = cc (occurs, c.if-not-visitor.true) in
    let joined = subst LaysOutBoth (c.features-features.ensures ∙ ap (λ (r : Reader). r.features) c.get_binary_reader.ensures) c.layouts.ensures.joined in
    subst (OccursNotAt may R results (source_of c.args.reader.reader)) (sym c.original_position-offset.ensures)
    (occurs_not_at may R results c.args.reader c.loop-reader.reader c.visit_operator_simd.new.self (with_set c.loop-reader.visitor.checker.operators.control c.loop-reader.visitor.checker.locals) v.0
    (λ results roles. c.accepts_what_is_typed.ensures (outermost R) results roles c.is_well_formed.ensures) (c.refuses_at_once.ensures.goes_on (outermost R) operator.Unreachable (record { jumps_always = λ labels. refl; needs_none = refl })) joined h.2 v.1 bad)

pub returns-then-not-visitor-clause-whole : goal.returns-then-not-visitor-clause-whole
returns-then-not-visitor-clause-whole g c = λ placed encodes occur.
    let E = g.M.ModuleContext.environment c.args.context.now in
    let may = may_occur c.args.constant E in
    let R = rules_of E in
    let results = E.results in
    let h = c.loop-reader.invariant in
    let v = c.in-Ok-visit_operator_simd.ensures in
    let occurs : c.visit_operator_simd.new.v.may_occur ≡ may v.0 =
    v.2.2 ∙ ap (λ m. may_occur c.loop-reader.visitor.constant (g.M.ModuleContext.environment m) v.0) h.0 ∙ ap (λ k. may_occur k E v.0) h.1 in
    let bad : may v.0 ≡ false = cc (occurs, c.if-not-visitor.true) in
    let joined = subst LaysOutBoth (c.features-features.ensures ∙ ap (λ (r : Reader). r.features) c.get_binary_reader.ensures) c.layouts.ensures.joined in
    let longer = subst BeginsLonger (c.features-features.ensures ∙ ap (λ (r : Reader). r.features) c.get_binary_reader.ensures) c.one_layout.ensures.beginning in
    absurd (none_occurs may R results c.args.reader c.loop-reader.reader c.visit_operator_simd.new.self (with_set c.loop-reader.visitor.checker.operators.control c.loop-reader.visitor.checker.locals) v.0 placed
    c.single_reads.ensures.next joined longer c.whole_is_longest.ensures c.flat_beginnings.ensures c.requires.0 h.2 v.1 bad encodes.0 occur)

pub returns-in-Ok-false-clause-error : goal.returns-in-Ok-false-clause-error
returns-in-Ok-false-clause-error g c =
    let E = g.M.ModuleContext.environment c.args.context.now in
    let may = may_occur c.args.constant E in
    let R = rules_of E in
    let results = E.results in
    let h = c.loop-reader.invariant in
    let v = c.in-Ok-visit_operator_simd.ensures in
    let said = subst (λ m. StepsOne (rules_of (g.M.ModuleContext.environment m)) (with_set c.loop-reader.visitor.checker.operators.control c.loop-reader.visitor.checker.locals) v.0 c.in-Ok-visit_operator_simd.outcome (with_set c.visit_operator_simd.new.v.checker.operators.control c.visit_operator_simd.new.v.checker.locals)) h.0 v.2.3 in
    let is = visited R (with_set c.loop-reader.visitor.checker.operators.control c.loop-reader.visitor.checker.locals) (with_set c.visit_operator_simd.new.v.checker.operators.control c.visit_operator_simd.new.v.checker.locals) v.0 c.in-Ok-visit_operator_simd.outcome c.in-Ok-false.field-0 false said c.in-Ok-false.is c.in-Ok-false.field-0-test in
    let joined = subst LaysOutBoth (c.features-features.ensures ∙ ap (λ (r : Reader). r.features) c.get_binary_reader.ensures) c.layouts.ensures.joined in
    let longer = subst BeginsLonger (c.features-features.ensures ∙ ap (λ (r : Reader). r.features) c.get_binary_reader.ensures) c.one_layout.ensures.beginning in
    let there = untyped_at may R results c.args.reader c.loop-reader.reader c.visit_operator_simd.new.self (with_set c.loop-reader.visitor.checker.operators.control c.loop-reader.visitor.checker.locals) v.0
    c.single_reads.ensures.next c.steps_on.ensures (λ results roles. c.accepts_what_is_typed.ensures (outermost R) results roles c.is_well_formed.ensures) (c.refuses_at_once.ensures.goes_on (outermost R) operator.Unreachable (record { jumps_always = λ labels. refl; needs_none = refl })) (λ results roles. c.refuses_at_once.ensures.refuses (outermost R) results roles c.is_well_formed.ensures) joined longer
    c.whole_is_longest.ensures c.flat_beginnings.ensures c.requires.0 h.2 v.1 is in
    subst (IsUntypedAt R results (source_of c.args.reader.reader)) (sym c.original_position-offset.ensures) there

pub returns-in-Ok-false-clause-whole : goal.returns-in-Ok-false-clause-whole
returns-in-Ok-false-clause-whole g c = λ placed encodes occur.
    let E = g.M.ModuleContext.environment c.args.context.now in
    let may = may_occur c.args.constant E in
    let R = rules_of E in
    let results = E.results in
    absurd (is_not_typed R results (source_of c.args.reader.reader) c.original_position-offset.result placed (returns-in-Ok-false-clause-error g c) encodes)

pub returns-in-Err-clause-whole : goal.returns-in-Err-clause-whole
returns-in-Err-clause-whole g c = λ placed encodes occur.
    let h = c.loop-reader.invariant in
    let e = c.in-Err.error in
    let unchanged = c.in-Err.ensures.0 in
    let taken = c.single_reads.ensures.refused c.args.reader c.loop-reader.reader c.visit_operator_simd.new.self h.2.placed h.2.taken unchanged in
    let some = not_ended c.eof.result _ c.eof.ensures c.loop-reader-test.true in
    let stops = stops_at_read e c.loop-reader.reader c.visit_operator_simd.new.self some unchanged (c.read_to_the_end.ensures.refused e c.visit_operator_simd.new.self c.in-Err.ensures.2) in
    memory_said e c.decoding.result c.decoding.ensures (c.read_to_the_end.ensures.only [] e c.args.reader c.visit_operator_simd.new.self h.2.placed placed c.requires.1 taken stops encodes.0)

pub returns-in-Err-clause-error : goal.returns-in-Err-clause-error
returns-in-Err-clause-error g c =
    let E = g.M.ModuleContext.environment c.args.context.now in
    let may = may_occur c.args.constant E in
    let R = rules_of E in
    let results = E.results in
    let h = c.loop-reader.invariant in
    let e = c.in-Err.error in
    let unchanged = c.in-Err.ensures.0 in
    let taken = c.single_reads.ensures.refused c.args.reader c.loop-reader.reader c.visit_operator_simd.new.self h.2.placed h.2.taken unchanged in
    let some = not_ended c.eof.result _ c.eof.ensures c.loop-reader-test.true in
    let stops = stops_at_read e c.loop-reader.reader c.visit_operator_simd.new.self some unchanged (c.read_to_the_end.ensures.refused e c.visit_operator_simd.new.self c.in-Err.ensures.2) in
    let joined = subst LaysOutBoth (c.features-features.ensures ∙ ap (λ (r : Reader). r.features) c.get_binary_reader.ensures) c.layouts.ensures.joined in
    let reads = c.read_to_the_end.ensures.beginning [] e c.args.reader c.visit_operator_simd.new.self h.2.placed c.requires.1 taken stops in
    explained may R results c.args.reader.reader e c.decoding.result c.decoding.ensures
    (undecoded R results c.args.reader.reader c.args.reader c.visit_operator_simd.new.self h.2.placed (with_set c.loop-reader.visitor.checker.operators.control c.loop-reader.visitor.checker.locals) e refl joined
    (λ results roles. c.accepts_what_is_typed.ensures (outermost R) results roles c.is_well_formed.ensures) (c.refuses_at_once.ensures.goes_on (outermost R) operator.Unreachable (record { jumps_always = λ labels. refl; needs_none = refl })) h.2.stepped reads)

pub returns-in-Ok-finish-clause-typed : goal.returns-in-Ok-finish-clause-typed
returns-in-Ok-finish-clause-typed g c =
    let E = g.M.ModuleContext.environment c.args.context.now in
    let may = may_occur c.args.constant E in
    let R = rules_of E in
    let results = E.results in
    let h = c.loop-reader.invariant in
    typed_expression may R results c.args.reader c.loop-reader.reader (with_set c.loop-reader.visitor.checker.operators.control c.loop-reader.visitor.checker.locals) (λ results roles. c.accepts_what_is_typed.ensures (outermost R) results roles c.is_well_formed.ensures) c.same_frames.ensures c.requires.0
    (λ placed taken closed all. c.read_to_the_end.ensures.tree [] c.args.reader c.loop-reader.reader placed c.requires.1 taken closed all) h.2 c.in-Ok-finish.ensures.0 c.in-Ok-finish.ensures.1

pub returns-clause-whole : goal.returns-clause-whole
returns-clause-whole g c = λ placed encodes occur.
    let h = c.loop-reader.invariant in
    let e = c.in-Err-finish.error in
    let ended = has_ended c.eof.result _ c.eof.ensures c.loop-reader-test.false in
    let stops = stops_at_end e c.loop-reader.reader (c.read_to_the_end.ensures.finished e c.loop-reader.reader ended c.in-Err-finish.ensures) in
    memory_said e c.decoding-in-Err-finish.result c.decoding-in-Err-finish.ensures
    (c.read_to_the_end.ensures.only [] e c.args.reader c.loop-reader.reader h.2.placed placed c.requires.1 h.2.taken stops encodes.0)

pub returns-clause-error : goal.returns-clause-error
returns-clause-error g c =
    let E = g.M.ModuleContext.environment c.args.context.now in
    let may = may_occur c.args.constant E in
    let R = rules_of E in
    let results = E.results in
    let h = c.loop-reader.invariant in
    let e = c.in-Err-finish.error in
    let ended = has_ended c.eof.result _ c.eof.ensures c.loop-reader-test.false in
    let stops = stops_at_end e c.loop-reader.reader (c.read_to_the_end.ensures.finished e c.loop-reader.reader ended c.in-Err-finish.ensures) in
    let joined = subst LaysOutBoth (c.features-features.ensures ∙ ap (λ (r : Reader). r.features) c.get_binary_reader.ensures) c.layouts.ensures.joined in
    let reads = c.read_to_the_end.ensures.beginning [] e c.args.reader c.loop-reader.reader h.2.placed c.requires.1 h.2.taken stops in
    explained may R results c.args.reader.reader e c.decoding-in-Err-finish.result c.decoding-in-Err-finish.ensures
    (undecoded R results c.args.reader.reader c.args.reader c.loop-reader.reader h.2.placed (with_set c.loop-reader.visitor.checker.operators.control c.loop-reader.visitor.checker.locals) e refl joined
    (λ results roles. c.accepts_what_is_typed.ensures (outermost R) results roles c.is_well_formed.ensures) (c.refuses_at_once.ensures.goes_on (outermost R) operator.Unreachable (record { jumps_always = λ labels. refl; needs_none = refl })) h.2.stepped reads)
