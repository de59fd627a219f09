use Rattle.wasm_operators.proofs.DecoderPremises.{refuses_simd, refused_same}
use Rattle.wasm_operators.proofs.decoding_laws.simd_refusals.Goals as goal

pub returns-clause-there : goal.returns-clause-there
returns-clause-there c = refuses_simd c.args.features c.args.frame

pub returns-clause-elsewhere : goal.returns-clause-elsewhere
returns-clause-elsewhere c = λ m r offset h other. refused_same c.args.features c.args.frame m r offset h other
