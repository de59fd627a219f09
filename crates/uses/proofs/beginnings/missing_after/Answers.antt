use Rattle.std.proofs.Common.{◌≡◌, [], length, sym, subst, ◌∙◌}
use Rattle.wasm_operators.specs.below.declared.message.Message.TheVariants as message
use Rattle.wasm_operators.specs.below.Source.{source_of}
use Rattle.wasm_operators.specs.Expression.{IsAny}
use Rattle.wasm_operators.specs.MainTheorem.{IsCut}
use Rattle.uses.proofs.Begun.{cut_at_end}
use Rattle.uses.proofs.beginnings.missing_after.Goals as goal

pub returns-in-Ok : goal.returns-in-Ok
returns-in-Ok c =
    let along = (c.in-Ok.ensures.rest [] c.new-reader.ensures.read_so_far).tree in
    (along.0, rw (c.new-reader.ensures.reader ∙ c.new_features.ensures) at along.2.encodes)

pub returns-in-FramesRemain : goal.returns-in-FramesRemain
returns-in-FramesRemain c =
    let said : c.in-Err.error.message ≡ message.FramesRemain = sym c.message.ensures ∙ c.in-FramesRemain.is in
    let completed = (c.in-Err.ensures.rest [] c.new-reader.ensures.read_so_far).completed said in
    (length c.read_all.new.self.frames, rw (c.new-reader.ensures.reader ∙ c.new_features.ensures) at completed)

pub returns : goal.returns
returns c = λ cut.
    let there = subst (λ r. IsCut IsAny [] (source_of r)) (sym (c.new-reader.ensures.reader ∙ c.new_features.ensures)) cut in
    let ends = (c.in-Err.ensures.rest [] c.new-reader.ensures.read_so_far).cut there in
    cut_at_end c.in-Err.error.message _ (λ m. c.in_default.not-OutOfMemory (c.message.ensures ∙ m)) (λ m. c.in_default.not-FramesRemain (c.message.ensures ∙ m))
    (λ m. c.in_default.not-EndOfData (c.message.ensures ∙ m)) ends
