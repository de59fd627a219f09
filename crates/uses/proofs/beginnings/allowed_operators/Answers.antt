use Rattle.std.proofs.Common.{◌++◌, ap, ◌∙◌}
use Rattle.wasm_operators.specs.below.Source.{source_of}
use Rattle.wasm_operators.specs.Flat.{IsFlatFrom}
use Rattle.uses.specs.Input.{input}
use Rattle.uses.proofs.beginnings.allowed_operators.Goals as goal

pub returns-in-Ok-clause-flat : goal.returns-in-Ok-clause-flat
returns-in-Ok-clause-flat c = λ flat is.
    let there : IsFlatFrom c.new-reader.result.frames (source_of c.new-reader.result.reader) flat =
    rw (c.new-reader.ensures.fresh, c.new-reader.ensures.reader ∙ c.new_features.ensures) is in
    (c.in-Ok.ensures.flat flat there tt).0 ∙ ap (λ first. first ++ flat) c.new-found.ensures.items

pub returns-in-Ok-clause-longest : goal.returns-in-Ok-clause-longest
returns-in-Ok-clause-longest c = λ flat is.
    let there : IsFlatFrom c.new-reader.result.frames (source_of c.new-reader.result.reader) flat =
    rw (c.new-reader.ensures.fresh, c.new-reader.ensures.reader ∙ c.new_features.ensures)
    ((c.flat_beginnings.ensures (input c.args.features c.args.bytes.now) flat).1 is) in
    (c.in-Ok.ensures.flat flat there tt).0 ∙ ap (λ first. first ++ flat) c.new-found.ensures.items

pub returns-clause-flat : goal.returns-clause-flat
returns-clause-flat c = λ flat is.
    let there : IsFlatFrom c.new-reader.result.frames (source_of c.new-reader.result.reader) flat =
    rw (c.new-reader.ensures.fresh, c.new-reader.ensures.reader ∙ c.new_features.ensures) is in
    (c.in-Err.ensures.flat flat there (λ m. c.in_default.not-OutOfMemory (c.message.ensures ∙ m))).0 ∙ ap (λ first. first ++ flat) c.new-found.ensures.items

pub returns-clause-longest : goal.returns-clause-longest
returns-clause-longest c = λ flat is.
    let there : IsFlatFrom c.new-reader.result.frames (source_of c.new-reader.result.reader) flat =
    rw (c.new-reader.ensures.fresh, c.new-reader.ensures.reader ∙ c.new_features.ensures)
    ((c.flat_beginnings.ensures (input c.args.features c.args.bytes.now) flat).1 is) in
    (c.in-Err.ensures.flat flat there (λ m. c.in_default.not-OutOfMemory (c.message.ensures ∙ m))).0 ∙ ap (λ first. first ++ flat) c.new-found.ensures.items
