use Rattle.std.proofs.Common.{subst, string_bytes}
use Rattle.std.specs.Io.KnownBytes.{Appends}
use Rattle.std.proofs.lemmas.Result.{err_from_is_err_and}
use Rattle.wasm_listing.proofs.Faults.{dumps_fault, dumps_refused, no_lines, whole_fault, whole_refused}
use Rattle.wasm_listing.proofs.dump.run.Goals as goal

pub returns-in_err-input-clause-lines : goal.returns-in_err-input-clause-lines
returns-in_err-input-clause-lines g c =
    let p = err_from_is_err_and c.from_residual.result c.from_residual.ensures.1 in
    rw (p.1, p.2) (dumps_fault (g.R.Read.remaining c.args.reader.now) c.args.features c.in_err-input.field-0.0 _ _ c.in_err-input.ensures.fault)

pub returns-in_err-input-clause-whole : goal.returns-in_err-input-clause-whole
returns-in_err-input-clause-whole g c =
    let p = err_from_is_err_and c.from_residual.result c.from_residual.ensures.1 in
    rw (p.1, p.2) (whole_fault (g.R.Read.remaining c.args.reader.now) c.args.features c.in_err-input.field-0.0 c.in_err-input.ensures.fault)

pub returns-in_err-input-clause-flushed : goal.returns-in_err-input-clause-flushed
returns-in_err-input-clause-flushed g c =
    let p = err_from_is_err_and c.from_residual.result c.from_residual.ensures.1 in
    rw (p.1, p.2) (λ lines. absurd (no_lines c.in_err-input.field-0.0 c.in_err-input.ensures.fault lines))

pub returns-clause-lines : goal.returns-clause-lines
returns-clause-lines g c =
    let old = g.W.Write.contents c.args.writer.now in
    let new = g.W.Write.contents c.write_text.new.writer in
    let writes : Appends old new (string_bytes c.in_ok-listing.listing.text) = subst (Appends old new) c.as_str.ensures.value c.in_ok-write_text.ensures.ok in
    dumps_refused (g.R.Read.remaining c.args.reader.now) c.args.features c.in_ok-input.input.items c.as_slice.result.now
    (string_bytes c.in_ok-listing.listing.text) c.in_ok-listing.listing.end c.in-Err.error old new c.in_ok-input.ensures.bytes c.as_slice.ensures.value
    c.in-Err.is c.in_ok-listing.ensures.lists writes

pub returns-clause-whole : goal.returns-clause-whole
returns-clause-whole g c =
    whole_refused (g.R.Read.remaining c.args.reader.now) c.args.features c.in_ok-input.input.items c.as_slice.result.now c.in_ok-listing.listing.end
    c.in-Err.error c.in_ok-input.ensures.bytes c.as_slice.ensures.value c.in-Err.is c.in_ok-listing.ensures.whole
