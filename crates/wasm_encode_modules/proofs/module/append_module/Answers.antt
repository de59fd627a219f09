use Rattle.std.proofs.Common.{◌≡◌, ◌≢◌, ◌+◌, ◌++◌, ◌∷◌, [], length, take, drop, Result, Ok, Err, sym, subst, rules, arith}
use Rattle.std.specs.Prelude.{IsErrAnd}
use Rattle.std.proofs.lemmas.List.{take_more, take_all}
use Rattle.wasm_write_grammars.proofs.Owing.{extends_then}
use Rattle.wasm_write_grammars.proofs.WrittenMembers.{parts_at}
use Rattle.wasm_encode_modules.specs.WrittenModules.{AppendsModule}
use Rattle.wasm_encode_modules.proofs.ModuleSteps.{Sections, sections_begin, section_added, module_appended, sections_fail}
use Rattle.wasm_encode_modules.proofs.module.append_module.Goals as goal

pub returns-in_err-append_bytes : goal.returns-in_err-append_bytes
returns-in_err-append_bytes c =
    let (extends, why) = c.in_err-append_bytes.ensures in
    sections_fail _ c.from_residual.ensures.1 extends (λ known. absurd (why known).reason)

pub loop-section-init : goal.loop-section-init
loop-section-init c = sections_begin c.as_slice.ensures c.in_ok-append_bytes.ensures

pub returns-in_err-append_next : goal.returns-in_err-append_next
returns-in_err-append_next c =
    let xs = c.args.sections.now in
    let i = c.loop-section.section-index in
    let x = c.section-item.result in
    let next : take (i + 1) xs ≡ take i xs ++ x ∷ [] = search (rules, take_more) in
    let (extends, why) = c.in_err-append_next.ensures in
    let before = c.loop-section.invariant in
    sections_fail _ c.from_residual-in_err-append_next.ensures.1 (extends_then (record { part = _; appended = before.appended }) extends)
    (λ known. (take i xs, drop (i + 1) xs, x, parts_at xs i x next, why known))

pub loop-section-preserved : goal.loop-section-preserved
loop-section-preserved c =
    let xs = c.args.sections.now in
    let i = c.loop-section.section-index in
    let next : take (i + 1) xs ≡ take i xs ++ c.section-item.result ∷ [] = search (rules, take_more) in
    subst (λ z. Sections z c.args.out.now.items c.append_next.new.out.items) (sym next) (section_added c.section-item.result c.loop-section.invariant c.in_ok-append_next.ensures)

pub returns : goal.returns
returns c =
    let xs = c.args.sections.now in
    let i = c.loop-section.section-index in
    subst (λ z. AppendsModule z c.args.out.now.items c.loop-section.out.items) (take_all i xs c.loop-section-test.false) (module_appended c.loop-section.invariant)
