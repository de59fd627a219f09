use Rattle.std.proofs.Common.{[], drop, refl, sym, ◌∙◌, arith, append-nil}
use Rattle.std.proofs.lemmas.List.{take-append-drop, length-take}
use Rattle.wasm_operators.specs.below.Source.{reader_of}
use Rattle.uses.proofs.places.bytes_before_refusal.Goals as goal

pub slice_bounds-result-end : goal.slice_bounds-result-end
slice_bounds-result-end c =
    let r = reader_of c.args.features 0 c.args.bytes.now in
    let run = c.in-Err.ensures.runs in
    let takes = rw (c.new-reader.ensures.reader ∙ c.new_features.ensures) at run.2.takes in
    let within = c.taken_within.ensures r c.read_all.new.self.reader run.2.text takes (omega arith) in
    let ahead = c.refusals_ahead.ensures.reads c.in-Err.error c.read_all.new.self run.3 within.1 in
    omega (arith, length-take c.offset.result c.args.bytes.now, c.offset.ensures, ahead.1, within.2)

pub returns-in-Ok : goal.returns-in-Ok
returns-in-Ok c =
    let along = (c.in-Ok.ensures.rest [] c.new-reader.ensures.read_so_far).tree in
    let encodes = rw (c.new-reader.ensures.reader ∙ c.new_features.ensures) at along.2.encodes in
    record { part = ([], sym (append-nil c.args.bytes.now)); place = tt; whole = (refl, (along.0, encodes)) }

pub returns : goal.returns
returns c =
    let r = reader_of c.args.features 0 c.args.bytes.now in
    let run = c.in-Err.ensures.runs in
    let takes = rw (c.new-reader.ensures.reader ∙ c.new_features.ensures) at run.2.takes in
    let within = c.taken_within.ensures r c.read_all.new.self.reader run.2.text takes (omega arith) in
    let ahead = c.refusals_ahead.ensures.reads c.in-Err.error c.read_all.new.self run.3 within.1 in
    record {
      part = (drop c.offset.result c.args.bytes.now, sym (take-append-drop c.offset.result c.args.bytes.now));
      place = omega (arith, length-take c.offset.result c.args.bytes.now, c.offset.ensures, ahead.1, within.2);
      whole = tt;
    }
