-- Every grammar is a prefix code, and determines the message and the offset of an error.
use Rattle.std.proofs.Common.{◌+◌, ◌≤◌, length, arith, ◌≡◌, ℕ, ◌⊎◌, inl, inr, Bool, true, false, List, [], ◌∷◌, ◌++◌, refl, sym, subst, ap, ◌∙◌, append_assoc}
use Rattle.wasm_below.specs.declared.message.Message.{Message}
use Rattle.wasm_below.specs.Fault.{DeterminesRefusal}
use Rattle.wasm_below.specs.Sequence.{PrefixCode}
use Rattle.wasm_below.specs.Source.{Reader, rest, offset_of, end_of, at_position, HasRead, NoPrefix, EndFault, EndsWithin}
use Rattle.wasm_below.proofs.Faults.{no_byte}
use Rattle.wasm_below.proofs.DeterminedRefusals.{then_determines}
use Rattle.wasm_below.proofs.TakesLemmas.{same_rest}
use Rattle.wasm_grammars.specs.Grammar.{Grammar, part, done, here, fail, bind, need, choose, peek, within, allocate, spanned, thing, Leads, pick, cut, ThenAt, Encodes, Fault}

pub one_lead : (p : ℕ → Bool) (a b x y : List ℕ) (v w : Bool) → Leads p v a → Leads p w b → a ++ x ≡ b ++ y → v ≡ w
one_lead p a b x y v w (c, t, ea, pa) (d, u, eb, pb) e =
    let whole : c ∷ (t ++ x) ≡ d ∷ (u ++ y) = ap (λ z. z ++ x) (sym ea) ∙ e ∙ ap (λ z. z ++ y) eb in
    let same : c ≡ d = cc whole in sym pa ∙ ap p same ∙ pb

peek_code : {X : Type 0} (p : ℕ → Bool) (P Q : List ℕ → X → Type 0) → PrefixCode P → PrefixCode Q →
    PrefixCode (λ text x. (v : Bool) × Leads p v text × pick v (P text x) (Q text x))
peek_code {X} p P Q cp cq a b x y m n (v, h, i) (w, k, j) e =
    by v i (subst (λ z. pick z (P b n) (Q b n)) (sym (one_lead p a b x y v w h k e)) j)
  where
    by : (v : Bool) → pick v (P a m) (Q a m) → pick v (P b n) (Q b n) → (a ≡ b) × (m ≡ n)
    by true i j = cp a b x y m n i j e
    by false i j = cq a b x y m n i j e

no_lead : (p : ℕ → Bool) (v : Bool) (r : Reader) → Leads p v (rest r) → offset_of r ≡ end_of r → ⊥
no_lead p v r (c, t, e, _) same = no_byte r c same (t, e)

peek_determines : (p : ℕ → Bool) (F G : Message → Reader → ℕ → Type 0) → DeterminesRefusal F → DeterminesRefusal G →
    DeterminesRefusal (λ m r offset. ((v : Bool) × Leads p v (rest r) × pick v (F m r offset) (G m r offset)) ⊎ EndFault m r offset)
peek_determines p F G df dg m k r a b (inl (v, h, i)) (inl (w, q, j)) =
    by v i (subst (λ z. pick z (F k r b) (G k r b)) (sym (one_lead p (rest r) (rest r) [] [] v w h q refl)) j)
  where
    by : (v : Bool) → pick v (F m r a) (G m r a) → pick v (F k r b) (G k r b) → (m ≡ k) × (a ≡ b)
    by true i j = df m k r a b i j
    by false i j = dg m k r a b i j
peek_determines p F G df dg m k r a b (inl (v, h, i)) (inr q) = absurd (no_lead p v r h q.2)
peek_determines p F G df dg m k r a b (inr h) (inl (w, q, j)) = absurd (no_lead p w r q h.2)
peek_determines p F G df dg m k r a b (inr h) (inr q) = (h.0 ∙ sym q.0, h.1 ∙ sym q.1)

one_end : {X : Type 0} (P : List ℕ → X → Type 0) → PrefixCode P → (r s t : Reader) (x y : X) → HasRead P x r s → HasRead P y r t → offset_of s ≡ offset_of t
one_end P c r s t x y (a, p, h) (b, q, k) =
    let o = c a b (rest s) (rest t) x y p q (sym h.parts ∙ k.parts) in
    ap offset_of (h.moved ∙ ap (λ (z : List ℕ). at_position r (r.position + length z)) o.0 ∙ sym k.moved)

within_determines : {X : Type 0} (n : ℕ) (l : Message) (P : ℕ → List ℕ → X → Type 0) (F : Message → Reader → ℕ → Type 0) → ((at : ℕ) → PrefixCode (P at)) →
    DeterminesRefusal F → DeterminesRefusal (λ m r offset. EndsWithin n m r offset ⊎ ((offset_of r + n ≤ end_of r) × ((NoPrefix (P (offset_of (cut n r))) (rest (cut n r)) ×
    F m (cut n r) offset) ⊎ ((x : X) × (end : Reader) × HasRead (P (offset_of (cut n r))) x (cut n r) end × (m ≡ l) × (offset ≡ offset_of end)))))
within_determines n l P F c d m k r a b (inl h) (inl q) = (h.0 ∙ sym q.0, h.1 ∙ sym q.1)
within_determines n l P F c d m k r a b (inl h) (inr q) = let low = h.2 in let high = q.0 in absurd (omega (arith, low, high))
within_determines n l P F c d m k r a b (inr h) (inl q) = let low = q.2 in let high = h.0 in absurd (omega (arith, low, high))
within_determines n l P F c d m k r a b (inr (_, inl h)) (inr (_, inl q)) = d m k (cut n r) a b h.1 q.1
within_determines n l P F c d m k r a b (inr (_, inl h)) (inr (_, inr (y, t, (text, p, z), _, _))) = absurd (h.0 text (rest t) y p z.parts)
within_determines n l P F c d m k r a b (inr (_, inr (x, s, (text, p, z), _, _))) (inr (_, inl q)) = absurd (q.0 text (rest s) x p z.parts)
within_determines n l P F c d m k r a b (inr (_, inr (x, s, h, u, v))) (inr (_, inr (y, t, q, w, z))) =
    (u ∙ sym w, v ∙ one_end (P (offset_of (cut n r))) (c (offset_of (cut n r))) (cut n r) s t x y h q ∙ sym z)

-- What follows the first encoding, if that is equal, is at one place.
then_code : {X Y : Type 0} (P : ℕ → List ℕ → X → Type 0) (Q : X → ℕ → List ℕ → Y → Type 0) (at : ℕ) → PrefixCode (P at) → ((x : X) (k : ℕ) → PrefixCode (Q x k)) →
    PrefixCode (ThenAt P Q at)
then_code P Q at op oq a b x y m n (a1, a2, u, ea, pa, qa) (b1, b2, v, eb, pb, qb) e =
    let whole : a1 ++ (a2 ++ x) ≡ b1 ++ (b2 ++ y) = sym (append_assoc a1 a2 x) ∙ ap (λ z. z ++ x) (sym ea) ∙ e ∙ ap (λ z. z ++ y) eb ∙ append_assoc b1 b2 y in
    let o = op a1 b1 (a2 ++ x) (b2 ++ y) u v pa pb whole in
    let placed = subst (λ (z : List ℕ). Q u (at + length z) b2 n) (sym o.0) (subst (λ z. Q z (at + length b1) b2 n) (sym o.1) qb) in
    let t = oq u (at + length a1) a2 b2 x y m n qa placed (same_rest a1 b1 (a2 ++ x) (b2 ++ y) o.0 whole) in
    (ea ∙ cc (o.0, t.0) ∙ sym eb, t.1)

same_pair : {A B : Type 0} (m n : A × B) → m.0 ≡ n.0 → m.1 ≡ n.1 → m ≡ n
same_pair (a, b) (c, d) first second = ap (λ z. (z, b)) first ∙ ap (λ z. (c, z)) second

pub code : {X : Type 0} (g : Grammar X) (at : ℕ) → PrefixCode (Encodes g at)
code (part E F M is) at = is.code
code (done v) at = λ a b x y m n p q e. (p.0 ∙ sym q.0, p.1 ∙ sym q.1)
code here at = λ a b x y m n p q e. (p.0 ∙ sym q.0, p.1 ∙ sym q.1)
code (fail m) at = λ a b x y m n p q e. absurd p
code (bind g h) at = then_code (Encodes g) (λ x. Encodes (h x)) at (code g at) (λ x. code (h x))
code (need b m g) at = λ a b x y m n p q e. code g at a b x y m n p.1 q.1 e
code (choose true g h) at = code g at
code (choose false g h) at = code h at
code (peek p g h) at = peek_code p (Encodes g at) (Encodes h at) (code g at) (code h at)
code (within n k g) at = λ a b x y m o p q e. code g at a b x y m o p.1 q.1 e
code (allocate g) at = code g at
code (spanned g) at = λ a b x y m n p q e. (let o = code g at a b x y m.1 n.1 p.1 q.1 e in (o.0, same_pair m n (p.0 ∙ o.0 ∙ sym q.0) o.1))
code (thing g) at = code g at

pub determines : {X : Type 0} (g : Grammar X) (start : ℕ) → DeterminesRefusal (Fault g start)
determines (part E F M is) start = is.determines
determines (done v) start = λ m k r a b h q. absurd h
determines here start = λ m k r a b h q. absurd h
determines (fail l) start = λ m k r a b h q. (h.0 ∙ sym q.0, h.1 ∙ sym q.1)
determines (bind g h) start = λ m k r. then_determines (Encodes g (offset_of r)) (Fault g start) (λ x. Fault (h x) start) (code g (offset_of r)) (determines g start)
    (λ x. determines (h x) start) m k r
determines (need true l g) start = determines g start
determines (need false l g) start = λ m k r a b h q. (h.0 ∙ sym q.0, h.1 ∙ sym q.1)
determines (choose true g h) start = determines g start
determines (choose false g h) start = determines h start
determines (peek p g h) start = peek_determines p (Fault g start) (Fault h start) (determines g start) (determines h start)
determines (within n k g) start = within_determines n k (Encodes g) (Fault g start) (code g) (determines g start)
determines (allocate g) start = determines g start
determines (spanned g) start = determines g start
determines (thing g) start = λ m k r a b h q. determines g (offset_of r) m k r a b h q
