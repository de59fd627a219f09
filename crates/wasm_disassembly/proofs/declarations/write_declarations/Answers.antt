use Rattle.std.proofs.Common.{◌≡◌, ◌+◌, ◌<◌, Err, ap, ◌∙◌, arith}
use Rattle.std.proofs.lemmas.Result.{err_from_is_err_and}
use Rattle.wasm_text.specs.Lines.{between}
use Rattle.wasm_disassembly.specs.LocalLines.{ListsDeclarations}
use Rattle.wasm_disassembly.proofs.Halts.{at_halt}
use Rattle.wasm_disassembly.proofs.Declared.{way_begins, way_goes_on, way_ends, way_stops, none_refused}
use Rattle.wasm_disassembly.proofs.declarations.write_declarations.Goals as goal

pub loop-declaration-init : goal.loop-declaration-init
loop-declaration-init g c =
    way_begins c.args.start c.args.bytes.now c.args.parameters c.from-first.result c.args.locals.now (g.W.Write.contents c.args.writer.now) c.from-first.ensures

pub loop-declaration-preserved : goal.loop-declaration-preserved
loop-declaration-preserved g c =
    let d = c.in-Ok.declaration in
    let l = c.loop-declaration in
    way_goes_on c.args.start c.args.bytes.now c.bytes_between-shown.result.now c.args.parameters l._declaration l.first c.args.locals.now l.locals
    c.read.new.self (g.W.Write.contents c.args.writer.now) (g.W.Write.contents l.writer) (g.W.Write.contents c.write_declaration.new.writer) d c.original_position-offset.result _
    l.invariant c.in-Ok.ensures c.original_position-offset.ensures
    (c.bytes_between-shown.ensures.bytes ∙ ap (λ n. between c.args.start c.args.bytes.now c.original_position-offset.result n) c.original_position.ensures)
    c.in_ok-write_declaration.ensures.ok (ap (λ n. l.first + n) c.from-first-in-loop-declaration.ensures)

pub returns-in-Err-clause-lists : goal.returns-in-Err-clause-lists
returns-in-Err-clause-lists g c =
    let l = c.loop-declaration in
    let more : l._declaration < c.args.locals.now.count = let a = c.loop-declaration-test.true in let b = c.get_count-declaration-end.ensures in omega (arith, a, b) in
    way_stops c.args.start c.args.bytes.now c.args.parameters l._declaration l.first c.args.locals.now l.locals c.read.new.self (g.W.Write.contents c.args.writer.now)
    (g.W.Write.contents l.writer) c.in-Err.e more l.invariant c.in-Err.ensures

pub returns-in-Err-clause-whole : goal.returns-in-Err-clause-whole
returns-in-Err-clause-whole g c =
    let l = c.loop-declaration in
    let some : l._declaration < c.args.locals.now.count = let a = c.loop-declaration-test.true in let b = c.get_count-declaration-end.ensures in omega (arith, a, b) in
    λ declarations text more each occurs few.
    none_refused _ c.args.start c.args.bytes.now c.args.parameters l._declaration l.first c.args.locals.now l.locals c.read.new.self
    (g.W.Write.contents c.args.writer.now) (g.W.Write.contents l.writer) c.in-Err.e declarations text more c.declarations.ensures.one some l.invariant
    c.in-Err.ensures each occurs few

pub returns-clause-lists : goal.returns-clause-lists
returns-clause-lists g c =
    let l = c.loop-declaration in
    let all : l._declaration ≡ c.args.locals.now.count =
    let a = c.loop-declaration-test.false in let b = l.auto._declaration-end in let e = c.get_count-declaration-end.ensures in omega (arith, a, b, e) in
    way_ends tt c.args.start c.args.bytes.now c.args.parameters l._declaration l.first c.args.locals.now l.locals (g.W.Write.contents c.args.writer.now)
    (g.W.Write.contents l.writer) all l.invariant

pub returns-in_err-write_declaration-clause-lists : goal.returns-in_err-write_declaration-clause-lists
returns-in_err-write_declaration-clause-lists g c =
    let p = err_from_is_err_and c.from_residual.result c.from_residual.ensures.1 in
    rw (p.1, p.2) (at_halt (λ f. ListsDeclarations {X = Unit {0}} c.args.start c.args.bytes.now c.args.parameters (Err f) c.args.locals.now c.read.new.self
    (g.W.Write.contents c.args.writer.now) (g.W.Write.contents c.write_declaration.new.writer)) c.in_err-write_declaration.field-0.0
    c.in_err-write_declaration.ensures.halts tt tt)

pub returns-in_err-write_declaration-clause-whole : goal.returns-in_err-write_declaration-clause-whole
returns-in_err-write_declaration-clause-whole g c =
    λ declarations text more each occurs few. let p = err_from_is_err_and c.from_residual.result c.from_residual.ensures.1 in rw (p.1, p.2) c.in_err-write_declaration.ensures.halts
