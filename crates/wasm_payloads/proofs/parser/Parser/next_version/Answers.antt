use Rattle.std.proofs.Common.{refl}
use Rattle.wasm_payloads.proofs.parser.Parser.next_version.Goals as goal

pub returns-in-Ok-clause-ok : goal.returns-in-Ok-clause-ok
returns-in-Ok-clause-ok c =
    rw (← c.self.view_is) (refl, (c.in-Ok._version, c.in-Ok.ensures), c.original_position-start.ensures, c.original_position-end.ensures, refl)
