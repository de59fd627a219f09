use Rattle.std.proofs.Common.{◌≡◌, ◌≢◌, sym, subst, ap, ◌∙◌}
use Rattle.wasm_operators.specs.below.declared.message.Message.TheVariants as message
use Rattle.wasm_operators.specs.below.Source.{Reader, offset_of}
use Rattle.wasm_operators.specs.opcodes.Entry.{guarded_instruction}
use Rattle.wasm_operators.specs.opcodes.OperatorFaults.{OperatorFault}
use Rattle.uses.proofs.SingleSteps.{fault_before}
use Rattle.uses.proofs.single_steps.why_refused.Goals as goal

pub returns-in-FeatureRequired-clause-why : goal.returns-in-FeatureRequired-clause-why
returns-in-FeatureRequired-clause-why c =
    let s = c.args.operators.now in
    let e = c.in-Some-next_refusal.error in
    let same = c.features-features.ensures ∙ ap (λ (r : Reader). r.features) c.get_binary_reader.ensures in
    let said : e.message ≡ message.FeatureRequired c.in-FeatureRequired.field-0 = sym c.message.ensures ∙ c.in-FeatureRequired.is in
    let other : e.message ≢ message.OutOfMemory = λ m. absurd (cc (said, m)) in
    let inner = sym c.current_frame.ensures ∙ c.in-Some.is in
    let fault = fault_before e s c.next_refusal.new.operators c.in-Some.frame inner other c.in-Some-next_refusal.ensures in
    let there = subst (λ m. OperatorFault s.reader.features c.in-Some.frame m s.reader e.offset) said fault in
    let why = (rw same at c.features_required.ensures.only) c.in-FeatureRequired.field-0 s.reader e.offset there in
    (why.0, (c.in-Some.frame, inner, why.1, why.2))

pub returns-in-WrongFrame-clause-why : goal.returns-in-WrongFrame-clause-why
returns-in-WrongFrame-clause-why c =
    let s = c.args.operators.now in
    let e = c.in-Some-next_refusal.error in
    let same = c.features-features.ensures ∙ ap (λ (r : Reader). r.features) c.get_binary_reader.ensures in
    let inner = sym c.current_frame.ensures ∙ c.in-Some.is in
    let said : e.message ≡ message.WrongFrame c.in-WrongFrame.field-0 c.in-WrongFrame.field-1 = sym c.message.ensures ∙ c.in-WrongFrame.is in
    let other : e.message ≢ message.OutOfMemory = λ m. absurd (cc (said, m)) in
    let fault = fault_before e s c.next_refusal.new.operators c.in-Some.frame inner other c.in-Some-next_refusal.ensures in
    let there = subst (λ m. OperatorFault s.reader.features c.in-Some.frame m s.reader e.offset) said fault in
    let why = (rw same at c.wrong_frames.ensures.only) c.in-WrongFrame.field-0 c.in-WrongFrame.field-1 s.reader e.offset there in
    (why.0, (c.in-Some.frame, inner, why.1, why.2, why.3))

pub returns-in-WrongFrame-clause-feature : goal.returns-in-WrongFrame-clause-feature
returns-in-WrongFrame-clause-feature c = λ guard begins lacks.
    let s = c.args.operators.now in
    let e = c.in-Some-next_refusal.error in
    let same = c.features-features.ensures ∙ ap (λ (r : Reader). r.features) c.get_binary_reader.ensures in
    let said : e.message ≡ message.WrongFrame c.in-WrongFrame.field-0 c.in-WrongFrame.field-1 = sym c.message.ensures ∙ c.in-WrongFrame.is in
    let other : e.message ≢ message.OutOfMemory = λ m. absurd (cc (said, m)) in
    let fault = fault_before e s c.next_refusal.new.operators c.in-Some.frame (sym c.current_frame.ensures ∙ c.in-Some.is) other c.in-Some-next_refusal.ensures in
    let comes = (rw same at c.features_required.ensures.comes) guard s.reader begins lacks in
    let one = (rw same at c.operator_refusals.ensures.any) e.message (message.FeatureRequired (guarded_instruction guard)) s.reader e.offset (offset_of s.reader) fault comes in
    absurd (cc (said, one.0))
