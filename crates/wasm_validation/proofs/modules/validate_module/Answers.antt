use Rattle.std.proofs.Common.{OnOk, IfErr, subst}
use Rattle.wasm_payloads.specs.Parsing.{starts}
use Rattle.wasm_validation.specs.Faults.{StopsLater}
use Rattle.wasm_validation.specs.Valid.{IsValidFrom}
use Rattle.wasm_validation.proofs.Checking.{module_valid, module_whole}
use Rattle.wasm_validation.proofs.modules.validate_module.Goals as goal

pub returns-clause-valid : goal.returns-clause-valid
returns-clause-valid c =
    let result = c.check_payloads.result in
    let at = subst (λ p. OnOk result (IsValidFrom p c.new.result)) c.parse_all.ensures c.check_payloads.ensures.checked in
    module_valid c.args.reader result (subst (λ s. OnOk result (IsValidFrom (starts c.args.reader) s)) c.new.ensures at)

pub returns-clause-whole : goal.returns-clause-whole
returns-clause-whole c =
    let result = c.check_payloads.result in
    let at = subst (λ p. IfErr result (λ f. StopsLater p c.new.result f)) c.parse_all.ensures c.check_payloads.ensures.refused in
    module_whole c.args.reader result (subst (λ s. IfErr result (λ f. StopsLater (starts c.args.reader) s f)) c.new.ensures at)

pub returns-clause-error : goal.returns-clause-error
returns-clause-error c =
    let result = c.check_payloads.result in
    let at = subst (λ p. IfErr result (λ f. StopsLater p c.new.result f)) c.parse_all.ensures c.check_payloads.ensures.refused in
    subst (λ s. IfErr result (λ f. StopsLater (starts c.args.reader) s f)) c.new.ensures at
