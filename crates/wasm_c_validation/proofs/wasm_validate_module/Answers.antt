use Rattle.wasm_c_validation.proofs.Accepted.{accepted}
use Rattle.wasm_c_validation.proofs.wasm_validate_module.Goals as goal

pub returns-clause-valid : goal.returns-clause-valid
returns-clause-valid c = λ zero. accepted _ _ _ c.validate.ensures zero
