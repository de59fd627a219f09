use Rattle.std.proofs.Common.{◌≡◌, [], ◌++◌, sym, subst, ap, ◌∙◌}
use Rattle.std.proofs.lemmas.List.{append-nil}
use Rattle.wasm_below.specs.Source.{reader_of, rest, offset_of}
use Rattle.wasm_grammars.specs.Grammar.{HasReadBy}
use Rattle.wasm_grammars.specs.Reading.{Fails}
use Rattle.wasm_write_grammars.proofs.ReadAgain.{read_same, read_exhausted}
use Rattle.wasm_write_grammars.proofs.again.read_back.Goals as goal

pub returns-in-Ok-clause-same : goal.returns-in-Ok-clause-same
returns-in-Ok-clause-same g c =
    let at = c.new_features-reader.ensures in
    let whole = ap rest at ∙ c.requires.appended ∙ sym (append-nil c.requires.text) in
    let read = subst (λ f. HasReadBy (g.T.Read.grammar f) c.in-Ok.again c.new_features-reader.result c.read_from.new.reader) (ap (λ r. r.features) at) c.in-Ok.ensures in
    (read_same (g.T.Read.grammar c.args.features) c.args.value.now c.requires [] read whole).0

pub returns-in-Err-clause-memory : goal.returns-in-Err-clause-memory
returns-in-Err-clause-memory g c =
    let at = c.new_features-reader.ensures in
    let whole = ap rest at ∙ c.requires.appended ∙ sym (append-nil c.requires.text) in
    let error = subst (λ f. Fails (g.T.Read.grammar f) (offset_of c.new_features-reader.result) c.in-Err.e c.new_features-reader.result) (ap (λ r. r.features) at) c.in-Err.ensures.1 in
    read_exhausted (g.T.Read.grammar c.args.features) c.args.value.now c.requires [] error whole
