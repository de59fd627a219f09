use Rattle.std.proofs.Common.{◌≡◌, ◌≢◌, ◌⊎◌, inl, inr, Some, None, sym, ◌∙◌}
use Rattle.wasm_operators.specs.below.declared.message.Message.TheVariants as message
use Rattle.wasm_operators.specs.opcodes.declared.guard.Guard.{Guard}
use Rattle.wasm_operators.specs.opcodes.Entry.{guarded_instruction, needed_frame}
use Rattle.wasm_operators.specs.Guarded.{NextLacksFeature, NextIsMisplaced}
use Rattle.uses.proofs.single_steps.next_complaint.Goals as goal

pub returns-in_default-clause-memory : goal.returns-in_default-clause-memory
returns-in_default-clause-memory c = λ g next.
    let s = c.args.operators.now in
    let t = c.next_refusal.new.operators in
    absurd (elim next [
      | inl lacks ↦ c.reads_lacking_feature.ensures.never_read c.in_default.ensures.0 s t g c.in_default.ensures.1 lacks
      | inr misplaced ↦ c.reads_in_wrong_frame.ensures.never_read c.in_default.ensures.0 s t g c.in_default.ensures.1 misplaced
    ])

pub returns-in-OutOfMemory-clause-memory : goal.returns-in-OutOfMemory-clause-memory
returns-in-OutOfMemory-clause-memory c = λ g next. (c.in-Some.error, c.in-Some.ensures, sym c.message.ensures ∙ c.in-OutOfMemory.is)

pub returns-in-FeatureRequired-clause-why : goal.returns-in-FeatureRequired-clause-why
returns-in-FeatureRequired-clause-why c =
    let said = sym c.message.ensures ∙ c.in-FeatureRequired.is in
    let why = c.reads_lacking_feature.ensures.only c.in-Some.error c.args.operators.now c.next_refusal.new.operators c.in-FeatureRequired.field-0
    c.in-Some.ensures said in
    (why.0, why.1)

pub returns-in-FeatureRequired-clause-frame : goal.returns-in-FeatureRequired-clause-frame
returns-in-FeatureRequired-clause-frame c = λ g misplaced.
    let e = c.in-Some.error in
    let said : e.message ≡ message.FeatureRequired c.in-FeatureRequired.field-0 = sym c.message.ensures ∙ c.in-FeatureRequired.is in
    let comes = c.reads_in_wrong_frame.ensures.comes e c.args.operators.now c.next_refusal.new.operators g c.in-Some.ensures (λ m. cc (said, m)) misplaced in
    let other : e.message ≡ message.WrongFrame (guarded_instruction g) (needed_frame g) = comes.0 in
    absurd (cc (said, other))

pub returns-in-WrongFrame-clause-why : goal.returns-in-WrongFrame-clause-why
returns-in-WrongFrame-clause-why c =
    let said = sym c.message.ensures ∙ c.in-WrongFrame.is in
    let why = c.reads_in_wrong_frame.ensures.only c.in-Some.error c.args.operators.now c.next_refusal.new.operators c.in-WrongFrame.field-0
    c.in-WrongFrame.field-1 c.in-Some.ensures said in
    (why.0, why.1)

pub returns-in-WrongFrame-clause-feature : goal.returns-in-WrongFrame-clause-feature
returns-in-WrongFrame-clause-feature c = λ g lacks.
    let e = c.in-Some.error in
    let said : e.message ≡ message.WrongFrame c.in-WrongFrame.field-0 c.in-WrongFrame.field-1 = sym c.message.ensures ∙ c.in-WrongFrame.is in
    let comes = c.reads_lacking_feature.ensures.comes e c.args.operators.now c.next_refusal.new.operators g c.in-Some.ensures (λ m. cc (said, m)) lacks in
    let other : e.message ≡ message.FeatureRequired (guarded_instruction g) = comes.0 in
    absurd (cc (said, other))

pub returns-in_default-message-clause-feature : goal.returns-in_default-message-clause-feature
returns-in_default-message-clause-feature c = λ g lacks.
    let e = c.in-Some.error in
    let not = c.in_default-message in
    let comes = c.reads_lacking_feature.ensures.comes e c.args.operators.now c.next_refusal.new.operators g c.in-Some.ensures
    (λ m. not.not-OutOfMemory (c.message.ensures ∙ m)) lacks in
    absurd (not.not-FeatureRequired (guarded_instruction g) (c.message.ensures ∙ comes.0))

pub returns-in_default-message-clause-frame : goal.returns-in_default-message-clause-frame
returns-in_default-message-clause-frame c = λ g misplaced.
    let e = c.in-Some.error in
    let not = c.in_default-message in
    let comes = c.reads_in_wrong_frame.ensures.comes e c.args.operators.now c.next_refusal.new.operators g c.in-Some.ensures
    (λ m. not.not-OutOfMemory (c.message.ensures ∙ m)) misplaced in
    absurd (not.not-WrongFrame (guarded_instruction g) (needed_frame g) (c.message.ensures ∙ comes.0))
