use Rattle.std.proofs.Common.{ℕ, List, Bor, Err, refl}
use Rattle.std.proofs.lemmas.Result.{err_from_is_err_and}
use Rattle.std.specs.Prelude.{option_map}
use Rattle.wasm_disassembly.specs.Headers.{ListsHeaders}
use Rattle.wasm_disassembly.proofs.Shown.{at_halt, headers_listed}
use Rattle.wasm_disassembly.proofs.module.list_headers.Goals as goal

pub returns-in-Err : goal.returns-in-Err
returns-in-Err g c = (c.in-Err.ensures.fault, refl)

pub returns-in_err-write_heading : goal.returns-in_err-write_heading
returns-in_err-write_heading g c =
    let file = option_map (λ (text : Bor (List ℕ)). text.now) c.args.file in
    let p = err_from_is_err_and c.from_residual.result c.from_residual.ensures.1 in
    rw (p.1, p.2) (at_halt (λ f. ListsHeaders {X = Unit {0}} c.args.features file c.args.bytes.now (Err f) (g.W.Write.contents c.args.writer.now)
    (g.W.Write.contents c.write_heading.new.writer)) c.in_err-write_heading.field-0.0 c.in_err-write_heading.ensures.err tt tt)

pub returns : goal.returns
returns g c =
    let file = option_map (λ (text : Bor (List ℕ)). text.now) c.args.file in
    headers_listed c.args.features file c.args.bytes.now c.list_sections.result c.in-Ok.sections c.module_name.result.now
    (g.W.Write.contents c.args.writer.now) (g.W.Write.contents c.write_heading.new.writer) (g.W.Write.contents c.list_sections.new.writer)
    c.in-Ok.ensures.ok (c.module_name.ensures.names, c.module_name.ensures.none) c.in_ok-write_heading.ensures.ok c.list_sections.ensures.lists
    c.list_sections.ensures.kinds
