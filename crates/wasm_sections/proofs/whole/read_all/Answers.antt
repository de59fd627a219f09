use Rattle.std.proofs.Common.{◌≡◌, [], ◌∙◌, rules}
use Rattle.std.proofs.lemmas.Bool.{false≢true}
use Rattle.wasm_below.specs.Source.{rest}
use Rattle.wasm_sections.proofs.AllItems.{reads_all, fails_all, leaves_some, all_failed}
use Rattle.wasm_sections.proofs.whole.read_all.Goals as goal

pub returns-in_err-value : goal.returns-in_err-value
returns-in_err-value g c = all_failed _ c.from_residual.ensures.1 (fails_all c.args.left_over c.in_err-value.ensures.1)

pub returns-then-not-eof : goal.returns-then-not-eof
returns-then-not-eof g c =
    leaves_some (
      c.in_ok-value.value,
      c.read_from.new.reader,
      c.in_ok-value.ensures,
      (λ e. false≢true (c.if-not-eof.ensures.1 e)),
      c.new.ensures.message,
      c.new.ensures.offset ∙ c.original_position.ensures,
    )

pub returns : goal.returns
returns g c =
    let none : rest c.read_from.new.reader ≡ [] = search rules in
    reads_all (g.T.Read.grammar c.args.contents.features) c.in_ok-value.value c.in_ok-value.ensures none
