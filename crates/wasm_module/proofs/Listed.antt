use Rattle.std.proofs.Common.{◌≡◌, ℕ, ◌+◌, List, [], ◌∷◌, ◌++◌, length, refl, sym, subst, arith, cond}
use Rattle.std.specs.Prelude.{◌==◌}
use Rattle.wasm_below.specs.Source.{Reader, HasRead}
use Rattle.wasm_below.specs.Number.{EncodesUnsigned}
use Rattle.wasm_module.specs.Imports.{ImportParts}
use Rattle.wasm_module.specs.Items.{ItemsOccur, IsList}
use Rattle.wasm_module.specs.ModuleFunctions.{functions_in}

pub item_more : {X : Type 0} (P : List ℕ → X → Type 0) (r : Reader) (xs : List X) (mid new : Reader) (x : X) → ItemsOccur P r xs mid →
    HasRead P x mid new → ItemsOccur P r (xs ++ x ∷ []) new
item_more P r [] mid new x same reads = (new, subst (λ z. HasRead P x z new) same reads, refl)
item_more P r (y ∷ ys) mid new x (next, first, others) reads = (next, first, item_more P next ys mid new x others reads)

pub all_occur : {X : Type 0} (P : List ℕ → X → Type 0) (contents first end : Reader) (xs : List X) (n : ℕ) → HasRead (EncodesUnsigned 32) n contents first →
    ItemsOccur P first xs end → length xs ≡ n → IsList P contents xs
all_occur P contents first end xs n counted occur all =
    record { first = first; count = subst (λ k. HasRead (EncodesUnsigned 32) k contents first) (sym all) counted; end = end; occur = occur }

pub functions_more : (is : List ImportParts) (i : ImportParts) → functions_in (is ++ i ∷ []) ≡ functions_in is + cond (i.kind == 0) 1 0
functions_more [] i = omega arith
functions_more (j ∷ js) i = let others = functions_more js i in omega (arith, others)
