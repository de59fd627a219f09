use Rattle.std.proofs.Common.{◌≡◌, ℕ, List, length, Option, Some, None, sym, subst, ap, ◌∙◌}
use Rattle.std.specs.Int.{w32}
use Rattle.wasm_below.specs.Number.{EncodesUnsigned, EncodesFixed}
use Rattle.wasm_below.specs.Sequence.{PrefixCode}
use Rattle.wasm_below.specs.Source.{Reader}
use Rattle.wasm_module.specs.Imports.{EncodesImport}
use Rattle.wasm_module.specs.Sections.{IsSection}
use Rattle.wasm_module.specs.ModuleFunctions.{ModuleFunctions, functions_in, CountsImports, ListsTypes, NamesFunctions, DescribesFunctions}
use Rattle.wasm_module.proofs.NextItems.{one_list}
use Rattle.wasm_module.proofs.Unique.{one_found}

module _ (numbers : PrefixCode (EncodesUnsigned 32)) where
  one_count : PrefixCode EncodesImport → (contents : Option Reader) (n m : ℕ) → CountsImports contents n → CountsImports contents m → n ≡ m
  one_count code None n m a b = a ∙ sym b
  one_count code (Some contents) n m (is, list, known, all) (js, list', known', all') =
      all ∙ ap functions_in (one_list EncodesImport code numbers contents is js list list') ∙ sym all'

  one_types : (contents : Option Reader) (ts us : List ℕ) → ListsTypes contents ts → ListsTypes contents us → ts ≡ us
  one_types None ts us a b = a ∙ sym b
  one_types (Some contents) ts us a b = one_list (EncodesUnsigned 32) numbers numbers contents ts us a b

pub one_own : PrefixCode (EncodesUnsigned 32) → PrefixCode (EncodesFixed w32) → PrefixCode EncodesImport → (whole : Reader) (t u : ModuleFunctions) →
    DescribesFunctions whole t → DescribesFunctions whole u → (t.imported ≡ u.imported) × (t.types ≡ u.types)
one_own numbers fixed code whole t u a b =
    let imports = one_found numbers fixed whole 2 a.imports b.imports a.section_of_imports b.section_of_imports in
    let functions = one_found numbers fixed whole 3 a.functions b.functions a.section_of_functions b.section_of_functions in (
      one_count numbers code b.imports t.imported u.imported (subst (λ s. CountsImports s t.imported) imports a.imported) b.imported,
      one_types numbers b.functions t.types u.types (subst (λ s. ListsTypes s t.types) functions a.types) b.types,
    )

-- The module names as many functions as were found.
pub names_of_functions : PrefixCode (EncodesUnsigned 32) → PrefixCode (EncodesFixed w32) → (whole : Reader) (t : ModuleFunctions) →
    DescribesFunctions whole t → (types : List ℕ) → (section : Option Reader) × IsSection whole 3 section × ListsTypes section types → (count : ℕ) →
    count ≡ length types → NamesFunctions whole count t.names
names_of_functions numbers fixed whole t is types (functions, there, listed) count all =
    let own = one_types numbers is.functions types t.types (subst (λ s. ListsTypes s types) (same_functions functions there) listed) is.types in
    subst (λ k. NamesFunctions whole k t.names) (sym (all ∙ ap length own)) is.names
  where
    same_functions : (s : Option Reader) → IsSection whole 3 s → s ≡ is.functions
    same_functions s at = one_found numbers fixed whole 3 s is.functions at is.section_of_functions
