-- Locals in runs, and the search among them.
use Rattle.std.proofs.Common.{◌≡◌, ℕ, zero, suc, ◌+◌, ◌-◌, ◌<◌, ◌≤◌, List, [], ◌∷◌, ◌++◌, length, replicate, get_or, Some, None, refl, sym, ap, subst, ◌∙◌, append_assoc, append-nil, length-append, arith}
use Rattle.std.specs.Option.{option_map}
use Rattle.std.proofs.lemmas.List.{length-replicate}
use Rattle.wasm_below.specs.declared.types.ValType.{ValType}
use Rattle.wasm_typing.specs.Rules.{at}
use Rattle.wasm_check_locals.specs.declared.runs.Run.{Run}
use Rattle.wasm_check_locals.specs.Runs.{types_from, AreRuns, EndBefore, EndsAfter}

-- Elements of two lists, one after the other.
at_replicate : {A : Type 0} (n k : ℕ) (a : A) (others : List A) → k < n → at (replicate n a ++ others) k ≡ Some a
at_replicate zero k a others p = absurd (omega (arith, p))
at_replicate (suc n) zero a others p = refl
at_replicate (suc n) (suc k) a others p = at_replicate n k a others (omega (arith, p))

at_after : {A : Type 0} (n k : ℕ) (a : A) (others : List A) → n ≤ k → at (replicate n a ++ others) k ≡ at others (k - n)
at_after zero k a others p = ap (at others) (let e : k ≡ k - 0 = omega arith in e)
at_after (suc n) zero a others p = absurd (omega (arith, p))
at_after (suc n) (suc k) a others p = at_after n k a others (omega (arith, p)) ∙ ap (at others) (let e : k - n ≡ suc k - suc n = omega arith in e)

pub at_of : {A : Type 0} (xs : List A) (k : ℕ) (d : A) → k < length xs → at xs k ≡ Some (get_or xs k d)
at_of [] k d p = absurd (omega (arith, p))
at_of (x ∷ xs) zero d p = refl
at_of (x ∷ xs) (suc k) d p = at_of xs k d (omega (arith, p))

pub at_past : {A : Type 0} (xs : List A) (k : ℕ) → length xs ≤ k → at xs k ≡ None
at_past [] k p = refl
at_past (x ∷ xs) zero p = absurd (omega (arith, p))
at_past (x ∷ xs) (suc k) p = at_past xs k (omega (arith, p))

-- Each run ends after the start of the first.
least : (start : ℕ) (runs : List Run) (i : ℕ) (r : Run) → AreRuns start runs → at runs i ≡ Some r → start ≤ r.end
least start [] i r h e = absurd (cc e)
least start (x ∷ xs) zero r h e = let same : x ≡ r = cc e in subst (λ (y : Run). start ≤ y.end) same h.0
least start (x ∷ xs) (suc i) r h e = let a = least x.end xs i r h.1 e in let b = h.0 in omega (arith, a, b)

past_first : (start : ℕ) (x : Run) (xs : List Run) (index : ℕ) → start ≤ index → start ≤ x.end → x.end ≤ index →
    at (types_from start (x ∷ xs)) (index - start) ≡ at (types_from x.end xs) (index - x.end)
past_first start x xs index p s q =
    at_after (x.end - start) (index - start) x.ty (types_from x.end xs) (omega (arith, p, s, q)) ∙
    ap (at (types_from x.end xs)) (let e : (index - start) - (x.end - start) ≡ index - x.end = omega (arith, p, s, q) in e)

-- The search ends at the run of the index.
found : (start : ℕ) (runs : List Run) (low index : ℕ) → start ≤ index → AreRuns start runs → EndBefore runs low index → EndsAfter runs low index →
    at (types_from start runs) (index - start) ≡ option_map (λ (r : Run). r.ty) (at runs low)
found start [] low index p h b a = refl
found start (x ∷ xs) zero index p h b a =
    at_replicate (x.end - start) (index - start) x.ty (types_from x.end xs) (let q = a x refl in let s = h.0 in omega (arith, p, q, s))
found start (x ∷ xs) (suc zero) index p h (r, e, q) a =
    let same : x ≡ r = cc e in
    let passed = subst (λ (y : Run). y.end ≤ index) (sym same) q in
    past_first start x xs index p h.0 passed ∙ found x.end xs zero index passed h.1 tt a
found start (x ∷ xs) (suc (suc low)) index p h (r, e, q) a =
    let s = least x.end xs low r h.1 e in
    let passed : x.end ≤ index = omega (arith, s, q) in
    past_first start x xs index p h.0 passed ∙ found x.end xs (suc low) index passed h.1 (r, e, q) a

pub search_ends : (runs : List Run) (low high index : ℕ) → AreRuns 0 runs → low ≤ high → high ≤ low → EndBefore runs low index → EndsAfter runs high index →
    option_map (λ (r : Run). r.ty) (at runs low) ≡ at (types_from 0 runs) index
search_ends runs low high index h below met b a =
    let same : high ≡ low = omega (arith, below, met) in
    sym (ap (at (types_from 0 runs)) (let e : index ≡ index - 0 = omega arith in e) ∙
    found 0 runs low index (omega arith) h b (subst (λ n. EndsAfter runs n index) same a))

size : (start : ℕ) (x : Run) (xs : List Run) → length (types_from start (x ∷ xs)) ≡ (x.end - start) + length (types_from x.end xs)
size start x xs =
    length-append (replicate (x.end - start) x.ty) (types_from x.end xs) ∙ ap (λ n. n + length (types_from x.end xs)) (length-replicate (x.end - start) x.ty)

-- One more run.
pub pushed : (start : ℕ) (runs : List Run) (r : Run) → AreRuns start runs →
    types_from start (runs ++ r ∷ []) ≡ types_from start runs ++ replicate (r.end - (start + length (types_from start runs))) r.ty
pushed start [] r h = append-nil (replicate (r.end - start) r.ty) ∙ ap (λ k. replicate (r.end - k) r.ty) (let e : start ≡ start + 0 = omega arith in e)
pushed start (x ∷ xs) r h =
    ap (λ ts. replicate (x.end - start) x.ty ++ ts) (pushed x.end xs r h.1) ∙
    sym (append_assoc (replicate (x.end - start) x.ty) (types_from x.end xs) (replicate (r.end - (x.end + length (types_from x.end xs))) r.ty)) ∙
    ap (λ k. types_from start (x ∷ xs) ++ replicate (r.end - k) r.ty)
    (let s = h.0 in let n = size start x xs in let e : x.end + length (types_from x.end xs) ≡ start + length (types_from start (x ∷ xs)) = omega (arith, s, n) in e)

pub runs_pushed : (start : ℕ) (runs : List Run) (r : Run) → AreRuns start runs → start + length (types_from start runs) ≤ r.end → AreRuns start (runs ++ r ∷ [])
runs_pushed start [] r h p = (omega (arith, p), tt)
runs_pushed start (x ∷ xs) r h p = (h.0, runs_pushed x.end xs r h.1 (let s = h.0 in let n = size start x xs in omega (arith, p, s, n)))

-- Locals are added in one run.
pub run_added : (runs : List Run) (count more : ℕ) (ty : ValType) → AreRuns 0 runs → count ≡ length (types_from 0 runs) →
    types_from 0 (runs ++ (record { end = count + more; ty = ty }) ∷ []) ≡ types_from 0 runs ++ replicate more ty
run_added runs count more ty h n =
    pushed 0 runs (record { end = count + more; ty = ty }) h ∙
    ap (λ k. types_from 0 runs ++ replicate k ty) (let e : (count + more) - (0 + length (types_from 0 runs)) ≡ more = omega (arith, n) in e)

pub still_runs : (runs : List Run) (count more : ℕ) (ty : ValType) → AreRuns 0 runs → count ≡ length (types_from 0 runs) →
    AreRuns 0 (runs ++ (record { end = count + more; ty = ty }) ∷ [])
still_runs runs count more ty h n = runs_pushed 0 runs (record { end = count + more; ty = ty }) h (omega (arith, n))

pub still_counted : (runs : List Run) (count more : ℕ) (ty : ValType) → AreRuns 0 runs → count ≡ length (types_from 0 runs) →
    count + more ≡ length (types_from 0 (runs ++ (record { end = count + more; ty = ty }) ∷ []))
still_counted runs count more ty h n =
    let e = length-append (types_from 0 runs) (replicate more ty) in
    let k = length-replicate more ty in
    let sum : count + more ≡ length (types_from 0 runs ++ replicate more ty) = omega (arith, n, e, k) in
    sum ∙ sym (ap length (run_added runs count more ty h n))
