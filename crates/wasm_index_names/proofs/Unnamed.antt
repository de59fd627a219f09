use Rattle.std.proofs.Common.{◌≡◌, ℕ, List, [], false, inr, sym, ap, ◌∙◌}
use Rattle.std.proofs.lemmas.Bool.{false≢true}
use Rattle.wasm_below.specs.Source.{Reader}
use Rattle.wasm_module.specs.declared.fault.ModuleFault.{ModuleFault}
use Rattle.wasm_module.specs.declared.fault.ModuleFault.TheVariants as fault
use Rattle.wasm_module.specs.ModuleFunctions.{ModuleFunctions, DescribesFunctions}
use Rattle.wasm_index_names.specs.Known.{NamesKnown, is_memory}

-- The functions are not known, for another reason than allocation.
pub none_known : (whole : Reader) (f : ModuleFault) (names : List (List ℕ)) → ((t : ModuleFunctions) → DescribesFunctions whole t → f ≡ fault.Memory) →
    is_memory f ≡ false → names ≡ [] → NamesKnown whole names
none_known whole f names refused other none = inr ((λ t is. false≢true (sym other ∙ ap is_memory (refused t is))), none)
