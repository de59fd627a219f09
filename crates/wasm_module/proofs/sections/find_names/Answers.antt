use Rattle.std.proofs.Common.{◌≡◌, ◌∷◌, ◌++◌, [], inr, rules}
use Rattle.std.proofs.lemmas.Result.{err_from_is_err_and}
use Rattle.wasm_below.specs.Source.{rest, reader_of}
use Rattle.wasm_module.proofs.Refused.{sections_to}
use Rattle.wasm_module.proofs.Occurring.{one_more}
use Rattle.wasm_module.proofs.Unique.{no_module}
use Rattle.wasm_module.proofs.sections.find_names.Goals as goal

pub customs-preserved : goal.customs-preserved
customs-preserved c =
    let h = c.customs.invariant in
    let s = c.in-Ok.section in
    let read = c.in-Ok.ensures in
    let occur = one_more c.in_ok-reader.reader h.0 c.customs.reader c.read_section.new.reader s h.1 read.reads read.placed in
    (h.0 ++ s ∷ [], occur, c.or_last-found.ensures h.0 h.2)

pub returns-in_err-reader-clause-refused : goal.returns-in_err-reader-clause-refused
returns-in_err-reader-clause-refused c =
    let p = err_from_is_err_and c.from_residual.result c.from_residual.ensures.1 in
    rw p.1 (λ sections is. c.in_err-reader.ensures.refused is.after is.begins)

pub returns-in-Err-clause-refused : goal.returns-in-Err-clause-refused
returns-in-Err-clause-refused c sections is =
    let h = c.customs.invariant in
    let more : rest c.customs.reader ≡ [] → ⊥ = search rules in
    let e = c.in-Err.e in
    no_module (c.unsigned_numbers.ensures 32) c.fixed_numbers.ensures.four (reader_of c.args.features 0 c.args.bytes.now) c.in_ok-reader.reader c.customs.reader
    h.0 e c.in_ok-reader.ensures.ok h.1 more c.in-Err.ensures.reads.1 sections is

pub returns-in-Err-clause-fault : goal.returns-in-Err-clause-fault
returns-in-Err-clause-fault c =
    let h = c.customs.invariant in
    let more : rest c.customs.reader ≡ [] → ⊥ = search rules in
    let read = c.in-Err.ensures in
    let whole = reader_of c.args.features 0 c.args.bytes.now in
    let occur = sections_to whole c.in_ok-reader.reader c.customs.reader h.0 c.in_ok-reader.ensures.ok h.1 more in
    inr (c.customs.reader, occur, (read.reads.1, read.reads.2))

pub returns-in_err-reader-clause-fault : goal.returns-in_err-reader-clause-fault
returns-in_err-reader-clause-fault c =
    let p = err_from_is_err_and c.from_residual.result c.from_residual.ensures.1 in
    rw (p.1, p.2) (c.in_err-reader.ensures.fault)
