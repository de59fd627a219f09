use Rattle.std.proofs.Common.{◌≡◌, ℕ, List, Bool, Bor, Option, Result, Ok, Err, IfErr, subst}
use Rattle.std.proofs.lemmas.Result.{err_from_is_err_and}
use Rattle.std.specs.Prelude.{option_map}
use Rattle.wasm_operators.specs.below.Source.{Reader}
use Rattle.wasm_disassembly.specs.Listing.{ListsModule, OpensModule, HasAsked, IsFunction, IsOutside, WritesNothing, IsLater}
use Rattle.wasm_disassembly.specs.declared.listing_fault.Fault.{Fault}
use Rattle.wasm_disassembly.specs.declared.listing_fault.Fault.TheVariants as fault
use Rattle.wasm_disassembly.proofs.Found.{asked_there, refused_outside}
use Rattle.wasm_disassembly.proofs.Modules.{lists_module, lists_none, lists_refused}
use Rattle.wasm_disassembly.proofs.Shown.{at_halt}
use Rattle.wasm_disassembly.proofs.module.list_part.Goals as goal

pub returns-in_err-functions-clause-lists : goal.returns-in_err-functions-clause-lists
returns-in_err-functions-clause-lists g c =
    let p = err_from_is_err_and c.from_residual.result c.from_residual.ensures.1 in
    rw (p.1, p.2) (lists_refused g.C.Complaints.reports c.args.features c.args.only (option_map (λ (text : Bor (List ℕ)). text.now) c.args.file) c.args.bytes.now
    c.in_err-functions.field-0.0 c.args.complaints.now (g.W.Write.contents c.args.writer.now) c.in_err-functions.ensures.refuses)

pub returns-in_err-functions-clause-whole : goal.returns-in_err-functions-clause-whole
returns-in_err-functions-clause-whole g c = λ h.
    let p = err_from_is_err_and c.from_residual.result c.from_residual.ensures.1 in
    rw (p.1, p.2) (refused_outside c.defined_functions.ensures IsFunction c.args.features c.args.only c.args.bytes.now c.in_err-functions.field-0.0
    c.in_err-functions.ensures.refuses h)

pub returns-in_err-write_heading-clause-lists : goal.returns-in_err-write_heading-clause-lists
returns-in_err-write_heading-clause-lists g c =
    let p = err_from_is_err_and c.from_residual-in_err-write_heading.result c.from_residual-in_err-write_heading.ensures.1 in
    rw (p.1, p.2) (at_halt (λ f. ListsModule g.C.Complaints.reports c.args.features c.args.only (option_map (λ (text : Bor (List ℕ)). text.now) c.args.file)
    c.args.bytes.now (Err f) c.args.complaints.now c.args.complaints.now (g.W.Write.contents c.args.writer.now)
    (g.W.Write.contents c.write_heading.new.writer)) c.in_err-write_heading.field-0.0 c.in_err-write_heading.ensures.err tt tt)

pub returns-in_err-write_heading-clause-whole : goal.returns-in_err-write_heading-clause-whole
returns-in_err-write_heading-clause-whole g c = λ h.
    let p = err_from_is_err_and c.from_residual-in_err-write_heading.result c.from_residual-in_err-write_heading.ensures.1 in
    rw (p.1, p.2) (at_halt (λ f. IsOutside f) c.in_err-write_heading.field-0.0 c.in_err-write_heading.ensures.err tt tt)

pub returns-in_err-write_heading-clause-nothing : goal.returns-in_err-write_heading-clause-nothing
returns-in_err-write_heading-clause-nothing g c =
    let p = err_from_is_err_and c.from_residual-in_err-write_heading.result c.from_residual-in_err-write_heading.ensures.1 in
    rw (p.1, p.2) (at_halt (λ f. WritesNothing f → c.write_heading.new.writer ≡ c.args.writer.now) c.in_err-write_heading.field-0.0
    c.in_err-write_heading.ensures.err (λ none. absurd none) (λ none. absurd none))

later_writes : (X : Type 0) (r : Result Bool Fault) → IfErr r (λ f. IsLater f) → IfErr r (λ f. WritesNothing f → X)
later_writes X (Ok whole) later = tt
later_writes X (Err (fault.Module e)) later = λ none. absurd later
later_writes X (Err (fault.NoFunction index)) later = λ none. absurd later
later_writes X (Err f) later = λ none. absurd none

pub returns-in-Some-clause-nothing : goal.returns-in-Some-clause-nothing
returns-in-Some-clause-nothing g c = later_writes _ c.list_code.result c.list_code.ensures.later

pub returns-in-Some-clause-lists : goal.returns-in-Some-clause-lists
returns-in-Some-clause-lists g c =
    let (sections, is_module, found) = c.in_ok-functions.ensures.opens.is_code in
    let opens = subst (λ (code : Option Reader). OpensModule c.args.features c.args.only c.args.bytes.now c.in_ok-functions.functions code) c.in-Some.is c.in_ok-functions.ensures.opens in
    lists_module g.C.Complaints.reports c.args.features c.args.only (option_map (λ (text : Bor (List ℕ)). text.now) c.args.file) c.args.bytes.now c.module_name.result.now c.in-Ok.names c.in_ok-functions.functions c.in-Some.code
    c.list_code.result c.args.complaints.now c.list_code.new.complaints (g.W.Write.contents c.args.writer.now) (g.W.Write.contents c.write_heading.new.writer)
    (g.W.Write.contents c.list_code.new.writer) opens (c.module_name.ensures.names sections is_module) c.in_ok-write_heading.ensures.ok c.in-Ok.ensures c.list_code.ensures.lists
    c.list_code.ensures.later

pub returns-in-Some-clause-whole : goal.returns-in-Some-clause-whole
returns-in-Some-clause-whole g c =
    λ h.
    let there = asked_there c.sections.ensures c.defined_functions.ensures IsFunction c.args.features c.args.only c.args.bytes.now c.in_ok-functions.functions c.in_ok-functions.code
    c.in_ok-functions.ensures.opens h in
    let (bodies, code, asked) = subst (λ (found : Option Reader). HasAsked IsFunction c.in_ok-functions.functions c.args.only found) c.in-Some.is there in
    c.list_code.ensures.whole bodies code asked

pub returns-clause-lists : goal.returns-clause-lists
returns-clause-lists g c =
    let (sections, is_module, found) = c.in_ok-functions.ensures.opens.is_code in
    let opens = subst (λ (code : Option Reader). OpensModule c.args.features c.args.only c.args.bytes.now c.in_ok-functions.functions code) c.in-None.is c.in_ok-functions.ensures.opens in
    lists_none g.C.Complaints.reports c.args.features c.args.only (option_map (λ (text : Bor (List ℕ)). text.now) c.args.file) c.args.bytes.now c.module_name.result.now c.in-Ok.names c.in_ok-functions.functions c.args.complaints.now
    (g.W.Write.contents c.args.writer.now) (g.W.Write.contents c.write_heading.new.writer) opens (c.module_name.ensures.names sections is_module)
    c.in_ok-write_heading.ensures.ok c.in-Ok.ensures
