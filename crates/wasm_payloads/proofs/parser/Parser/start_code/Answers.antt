use Rattle.std.proofs.Common.{inr, refl, sym, ◌∙◌}
use Rattle.wasm_payloads.proofs.parser.Parser.start_code.Goals as goal

pub returns-in-Some-clause-err : goal.returns-in-Some-clause-err
returns-in-Some-clause-err c =
    let fault = sym c.functions_fault.ensures.fault ∙ c.in-Some.is in
    rw (← c.self.view_is) (c.requires, inr (c.in-Ok.count, c.in-Ok.size, c.read_delimited.new.reader, c.in-Ok.ensures, c.in-Some.what, fault, c.malformed.ensures))

pub returns-in-None-clause-ok : goal.returns-in-None-clause-ok
returns-in-None-clause-ok c =
    let equal = sym c.functions_fault.ensures.fault ∙ c.in-None.is in
    rw (← c.self.view_is) (c.requires, refl, refl, c.in-Ok.ensures, equal, refl)
