use Rattle.std.proofs.Common.{inl, inr, refl}
use Rattle.std.proofs.lemmas.Bool.{false≢true}
use Rattle.std.proofs.Common.{sym, ◌∙◌}
use Rattle.wasm_write_grammars.proofs.Owing.{extends_all}
use Rattle.wasm_encode_modules.proofs.module.append_next.Goals as goal

pub returns-then-begins_as_module : goal.returns-then-begins_as_module
returns-then-begins_as_module c = (extends_all _, λ known. inr (refl, c.begins_as_module.ensures.0 c.if-begins_as_module.true))

pub returns-in-Ok : goal.returns-in-Ok
returns-in-Ok c = (λ b. false≢true (sym c.if-begins_as_module.false ∙ c.begins_as_module.ensures.1 b), c.in-Ok.ensures)

pub returns-in-Err : goal.returns-in-Err
returns-in-Err c = let (extends, why) = c.in-Err.ensures in (extends, λ known. inl (why known).reason)
