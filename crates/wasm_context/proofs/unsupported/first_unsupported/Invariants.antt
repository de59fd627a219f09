use Rattle.std.proofs.Common.{◌≡◌, drop}
use Rattle.wasm_context.specs.Unsupported as parts
use Rattle.wasm_context.proofs.unsupported.first_unsupported.Given as goal

-- The types so far have no such part.
abbrev pub invariant-loop-ty : goal.invariant-loop-ty
invariant-loop-ty g l = parts.first_unsupported g.T.Part.unsupported (drop l.ty-index l.types) ≡ parts.first_unsupported g.T.Part.unsupported l.fn.types
