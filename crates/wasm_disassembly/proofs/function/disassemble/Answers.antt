use Rattle.std.proofs.Common.{◌+◌, ◌≤◌, ap, ◌∙◌, sym, subst, Ok, Err, arith}
use Rattle.std.proofs.lemmas.Result.{err_from_is_err_and}
use Rattle.std.specs.Io.KnownBytes.{Appends}
use Rattle.wasm_operators.specs.below.Source.{offset_of, source_of}
use Rattle.wasm_operators.specs.Expression.{EncodesExpression}
use Rattle.wasm_operators.specs.Locals.{max_locals}
use Rattle.wasm_index_names.specs.Lists.{name_at}
use Rattle.wasm_text.specs.Lines.{header_of}
use Rattle.wasm_disassembly.specs.LocalLines.{declarations_of, locals_in, ListsDeclarations}
use Rattle.wasm_disassembly.specs.Disassembly.{names_for, Heading, Disassembles, ListsOperators}
use Rattle.wasm_disassembly.proofs.Halts.{at_halt}
use Rattle.wasm_disassembly.proofs.Listed.{listed_to, at_body, stopped_at_count, stopped_in_locals, operators_ended, locals_past, count_occurs, announced}
use Rattle.wasm_disassembly.proofs.function.disassemble.Goals as goal

pub returns-in_err-write_heading-clause-text : goal.returns-in_err-write_heading-clause-text
returns-in_err-write_heading-clause-text g c =
    let h : Heading = record { index = c.args.index; names = c.args.names.now; parameters = c.args.parameters } in
    let p = err_from_is_err_and c.from_residual.result c.from_residual.ensures.1 in
    rw (p.1, p.2) (at_halt (λ f. Disassembles {X = Unit {0}} h (Err f) c.args.body.now (g.W.Write.contents c.args.writer.now)
    (g.W.Write.contents c.write_heading.new.writer)) c.in_err-write_heading.field-0.0 c.in_err-write_heading.ensures.halts tt tt)

pub returns-in_err-write_heading-clause-whole : goal.returns-in_err-write_heading-clause-whole
returns-in_err-write_heading-clause-whole g c =
    λ declarations placed encodes few. let p = err_from_is_err_and c.from_residual.result c.from_residual.ensures.1 in rw (p.1, p.2) c.in_err-write_heading.ensures.halts

pub returns-in-Err-clause-text : goal.returns-in-Err-clause-text
returns-in-Err-clause-text g c =
    let body = c.args.body.now in
    let h : Heading = record { index = c.args.index; names = c.args.names.now; parameters = c.args.parameters } in
    let start = c.original_position-start.ensures ∙ ap offset_of c.get_binary_reader.ensures in
    let before = g.W.Write.contents c.args.writer.now in
    let h_name = name_at h.names.functions c.args.index in
    let headed = subst (λ n. Appends before (g.W.Write.contents c.write_heading.new.writer) (header_of n c.args.index h_name)) start
    (subst (λ t. Appends before (g.W.Write.contents c.write_heading.new.writer) (header_of c.original_position-start.result c.args.index t))
    c.function.ensures c.in_ok-write_heading.ensures.ok) in
    stopped_at_count h c.in-Err.e body before (g.W.Write.contents c.write_heading.new.writer) c.in-Err.ensures headed

pub returns-in-Err-clause-whole : goal.returns-in-Err-clause-whole
returns-in-Err-clause-whole g c =
    λ declarations placed encodes few. count_occurs _ c.in-Err.e c.args.body.now declarations placed c.in-Err.ensures encodes

pub returns-in_err-write_declarations-clause-text : goal.returns-in_err-write_declarations-clause-text
returns-in_err-write_declarations-clause-text g c =
    let body = c.args.body.now in
    let h : Heading = record { index = c.args.index; names = c.args.names.now; parameters = c.args.parameters } in
    let start = c.original_position-start.ensures ∙ ap offset_of c.get_binary_reader.ensures in
    let before = g.W.Write.contents c.args.writer.now in
    let h_name = name_at h.names.functions c.args.index in
    let headed = subst (λ n. Appends before (g.W.Write.contents c.write_heading.new.writer) (header_of n c.args.index h_name)) start
    (subst (λ t. Appends before (g.W.Write.contents c.write_heading.new.writer) (header_of c.original_position-start.result c.args.index t))
    c.function.ensures c.in_ok-write_heading.ensures.ok) in
    let unread = c.in-Ok.locals in
    let f = c.in_err-write_declarations.field-0.0 in
    let now = g.W.Write.contents c.write_heading.new.writer in
    let new = g.W.Write.contents c.write_declarations.new.writer in
    let lists = at_body (λ n t. ListsDeclarations {X = Unit {0}} n t c.args.parameters (Err f) unread c.write_declarations.new.locals now new)
    c.original_position-start.result c.as_bytes.result.now body start c.as_bytes.ensures c.in_err-write_declarations.ensures.lists in
    let p = err_from_is_err_and c.from_residual-in_err-write_declarations.result c.from_residual-in_err-write_declarations.ensures.1 in
    rw (p.1, p.2) (stopped_in_locals h f body unread c.write_declarations.new.locals before now new c.in-Ok.ensures headed lists)

pub returns-in_err-write_declarations-clause-whole : goal.returns-in_err-write_declarations-clause-whole
returns-in_err-write_declarations-clause-whole g c =
    λ declarations placed encodes few.
    let a = announced c.args.body.now c.in-Ok.locals declarations placed (c.unsigned_numbers.ensures 32)
    c.in-Ok.ensures encodes in
    let none = c.in-Ok.ensures.3 in
    let fits : c.in-Ok.locals.total + locals_in declarations ≤ max_locals = omega (arith, none, few) in
    let p = err_from_is_err_and c.from_residual-in_err-write_declarations.result c.from_residual-in_err-write_declarations.ensures.1 in
    rw (p.1, p.2) (c.in_err-write_declarations.ensures.whole declarations a.text a.more a.each a.occurs fits)

pub returns-clause-text : goal.returns-clause-text
returns-clause-text g c =
    let body = c.args.body.now in
    let h : Heading = record { index = c.args.index; names = c.args.names.now; parameters = c.args.parameters } in
    let start = c.original_position-start.ensures ∙ ap offset_of c.get_binary_reader.ensures in
    let before = g.W.Write.contents c.args.writer.now in
    let h_name = name_at h.names.functions c.args.index in
    let headed = subst (λ n. Appends before (g.W.Write.contents c.write_heading.new.writer) (header_of n c.args.index h_name)) start
    (subst (λ t. Appends before (g.W.Write.contents c.write_heading.new.writer) (header_of c.original_position-start.result c.args.index t))
    c.function.ensures c.in_ok-write_heading.ensures.ok) in
    let unread = c.in-Ok.locals in
    let read = c.write_declarations.new.locals in
    let now = g.W.Write.contents c.write_heading.new.writer in
    let new = g.W.Write.contents c.write_declarations.new.writer in
    let lists = at_body (λ n t. ListsDeclarations {X = Unit {0}} n t c.args.parameters (Ok tt) unread read now new)
    c.original_position-start.result c.as_bytes.result.now body start c.as_bytes.ensures c.in_ok-write_declarations.ensures.lists in
    let to = listed_to h tt body c.get_binary_reader-2.result unread read before now new c.in-Ok.ensures
    c.get_binary_reader-2.ensures headed lists in
    let ends = at_body (λ n t. ListsOperators (names_for h) n t c.write_operators.result c.get_binary_reader-2.result new (g.W.Write.contents c.write_operators.new.writer))
    c.original_position-start.result c.as_bytes-2.result.now body start c.as_bytes-2.ensures c.write_operators.ensures.lists in
    operators_ended h c.write_operators.result body c.get_binary_reader-2.result before new (g.W.Write.contents c.write_operators.new.writer)
    c.past_locals.ensures.body to ends

pub returns-clause-whole : goal.returns-clause-whole
returns-clause-whole g c =
    let body = c.args.body.now in
    let unread = c.in-Ok.locals in
    let read = c.write_declarations.new.locals in
    let lists = c.in_ok-write_declarations.ensures.lists in
    let past = locals_past body unread read lists.0 (record { opens = c.in-Ok.ensures; takes = lists.2.takes }) lists.1 in
    λ declarations placed encodes few.
    let expression = (c.past_locals.ensures.expression body read.reader (declarations_of lists.0) declarations placed past encodes).1 in
    c.write_operators.ensures.whole placed (subst (λ r. EncodesExpression (source_of r) placed) (sym c.get_binary_reader-2.ensures) expression)
