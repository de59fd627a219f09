use Rattle.wasm_module.proofs.functions.module_name.Goals as goal

pub returns-in-Err-clause-names : goal.returns-in-Err-clause-names
returns-in-Err-clause-names c sections is = absurd (c.in-Err.ensures.refused sections is)

pub returns-in-Ok-Some-clause-none : goal.returns-in-Ok-Some-clause-none
returns-in-Ok-Some-clause-none c is_none = let found = c.in-Ok-Some.ensures.ok in absurd (is_none found.0 found.1)
