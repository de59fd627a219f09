use Rattle.std.proofs.Common.{◌≡◌, sym, ◌∙◌, subst}
use Rattle.wasm_operators.specs.below.declared.message.Message.TheVariants as message
use Rattle.wasm_operators.specs.opcodes.OperatorFaults.{OperatorFault}
use Rattle.wasm_operators.specs.Next.{scalar_operators}
use Rattle.uses.proofs.SingleSteps.{fault_of}
use Rattle.uses.proofs.single_steps.scalar_refusal.Goals as goal

pub returns-in-Err-clause-there : goal.returns-in-Err-clause-there
returns-in-Err-clause-there c = λ begins other.
    let law = rw (c.features.ensures, c.get_binary_reader.ensures) at c.simd_refusals.ensures.there in
    let old = c.args.operators.now in
    let e = c.in-Err.error in
    let fault = fault_of scalar_operators e old c.visit_operator.new.self c.in-Some.frame (sym c.current_frame.ensures ∙ c.in-Some.is) other
    (c.in-Err.ensures.0, c.in-Err.ensures.2) in
    law e.message old.reader e.offset fault begins

pub returns-in-Err-clause-elsewhere : goal.returns-in-Err-clause-elsewhere
returns-in-Err-clause-elsewhere c = λ frame inner none other.
    let law = rw (c.features.ensures, c.get_binary_reader.ensures) at c.simd_refusals.ensures.elsewhere in
    let old = c.args.operators.now in
    let e = c.in-Err.error in
    let opened = sym c.current_frame.ensures ∙ c.in-Some.is in
    let same : c.in-Some.frame ≡ frame = cc (opened, inner) in
    let fault = fault_of scalar_operators e old c.visit_operator.new.self c.in-Some.frame opened other (c.in-Err.ensures.0, c.in-Err.ensures.2) in
    subst (λ kind. OperatorFault old.reader.features kind e.message old.reader e.offset) same (law e.message old.reader e.offset fault none)
