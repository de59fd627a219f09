-- Lists whose first elements are overwritten.
use Rattle.std.proofs.Common.{◌≡◌, ℕ, ◌+◌, ◌≤◌, ◌<◌, List, [], ◌∷◌, ◌++◌, length, drop, set, zero, suc, refl, sym, ap, ◌∙◌, arith, append_assoc, append-nil, length-append}
use Rattle.std.proofs.lemmas.List.{set_at}
use Rattle.wasm_operators.specs.instr.declared.operator.Operator.{Operator}
use Rattle.wasm_operators.specs.Expression.{Placed}
use Rattle.wasm_view.specs.View.{view_of, views}
use Rattle.wasm_view.specs.declared.view.WasmOperator.{WasmOperator}
use Rattle.wasm_view.specs.Lists.{written}

-- Nothing to write.
pub written_none : {X : Type 0} (old : List X) → old ≡ written [] old
written_none [] = refl
written_none (x ∷ xs) = refl

-- Elements that all fit, followed by others.
pub written_after : {X : Type 0} (first more old : List X) → length first ≤ length old →
    written (first ++ more) old ≡ first ++ written more (drop (length first) old)
written_after [] more old fits = refl
written_after (x ∷ xs) more [] fits = absurd (omega (arith, fits))
written_after (x ∷ xs) more (y ∷ ys) fits = ap (λ list. x ∷ list) (written_after xs more ys (omega (arith, fits)))

pub views_join : (first second : Placed) → views (first ++ second) ≡ views first ++ views second
views_join [] second = refl
views_join (p ∷ ps) second = ap (λ list. view_of p ∷ list) (views_join ps second)

pub views_length : (placed : Placed) → length (views placed) ≡ length placed
views_length [] = refl
views_length (p ∷ ps) = ap suc (views_length ps)

-- Operators that all fit.
pub written_first : (found : Placed) (old : List WasmOperator) → length found ≤ length old →
    written (views found) old ≡ views found ++ drop (length found) old
written_first found old fits =
    let room : length (views found) ≤ length old = omega (arith, views_length found, fits) in
    ap (λ list. written list old) (sym (append-nil (views found))) ∙ written_after (views found) [] old room ∙
    ap (λ list. views found ++ list) (sym (written_none (drop (length (views found)) old)) ∙ ap (λ n. drop n old) (views_length found))

-- The element at an index is the first after those before it.
next_of : {X : Type 0} (list : List X) (n : ℕ) → n < length list → (x : X) × (drop n list ≡ x ∷ drop (suc n) list)
next_of [] n within = absurd (omega (arith, within))
next_of (x ∷ xs) zero within = (x, refl)
next_of (x ∷ xs) (suc n) within = next_of xs n (omega (arith, within))

-- One more C struct after those at the start.
pub one_more : (found : Placed) (p : Operator × ℕ) (old now : List WasmOperator) (at : ℕ) (v : WasmOperator) →
    now ≡ views found ++ drop (length found) old → at ≡ length found → length found < length old → v ≡ view_of p →
    set now at v ≡ views (found ++ p ∷ []) ++ drop (length (found ++ p ∷ [])) old
one_more found p old now at v is place within same =
    let next = next_of old (length found) within in
    let there : now ≡ views found ++ next.0 ∷ drop (suc (length found)) old = is ∙ ap (λ list. views found ++ list) next.1 in
    let put = set_at (views found) next.0 (drop (suc (length found)) old) v at (views_length found ∙ sym place) in
    let n : length (found ++ p ∷ []) ≡ suc (length found) = length-append found (p ∷ []) ∙ omega arith in
    let joined : views found ++ v ∷ drop (suc (length found)) old ≡ views (found ++ p ∷ []) ++ drop (suc (length found)) old =
    ap (λ w. views found ++ w ∷ drop (suc (length found)) old) same ∙ sym (append_assoc (views found) (view_of p ∷ []) (drop (suc (length found)) old)) ∙
    ap (λ list. list ++ drop (suc (length found)) old) (sym (views_join found (p ∷ []))) in
    ap (λ list. set list at v) there ∙ put ∙ joined ∙ ap (λ m. views (found ++ p ∷ []) ++ drop m old) (sym n)
