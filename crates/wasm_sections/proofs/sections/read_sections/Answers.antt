use Rattle.std.proofs.Common.{◌≡◌, [], ◌∷◌, ◌++◌, Ok, Err, sym, subst, rules}
use Rattle.wasm_sections.proofs.Framing.{module_unopened, module_failed}
use Rattle.wasm_sections.proofs.Found.{HasFound, found_first, found_next, found_all, found_fault}
use Rattle.wasm_sections.proofs.sections.read_sections.Goals as goal

pub returns-in_err-items : goal.returns-in_err-items
returns-in_err-items c =
    module_failed _ c.from_residual.ensures.1 (module_unopened c.args.reader c.in_err-items.field-0.0 c.in_err-items.ensures.refused)

pub sections-init : goal.sections-init
sections-init c =
    let started = c.in_ok-items.ensures.started in
    rw c.new-sections.ensures.items (found_first c.args.reader c.in_ok-items.items started.1 started.0 started.2)

pub sections-preserved : goal.sections-preserved
sections-preserved c =
    let section = c.in_ok-section.section in
    let pushed : c.push.new.self.items ≡ c.sections.sections.items ++ section ∷ [] = search rules in
    let item : c.in-Some.item ≡ Ok section = search rules in
    let steps = rw item at c.in-Some.ensures.steps in
    subst (HasFound c.args.reader c.next.new.self) (sym pushed)
    (found_next c.args.reader c.sections.items c.next.new.self c.sections.sections.items section c.sections.invariant steps.1.0 steps.1.1 steps.2)

pub returns-in_err-section : goal.returns-in_err-section
returns-in_err-section c =
    let e = c.in_err-section.field-0.0 in
    let item : c.in-Some.item ≡ Err e = search rules in
    let steps = rw item at c.in-Some.ensures.steps in
    module_failed _ c.from_residual-in_err-section.ensures.1
    (found_fault c.args.reader c.sections.items c.sections.sections.items e c.sections.invariant steps.0 steps.1.1)

pub returns : goal.returns
returns c =
    rw c.from_vec.ensures (found_all c.args.reader c.sections.items c.sections.sections.items c.sections.invariant c.in_default.ensures.steps.0)
