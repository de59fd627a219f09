-- The contents of a section are one payload, or an error.
use Rattle.std.proofs.Common.{◌≡◌, ◌≢◌, ℕ, ◌<◌, ◌⊎◌, inl, inr, [], ◌==◌, refl, sym, subst, ap, ◌∙◌, arith}
use Rattle.std.specs.declared.ops.Range.{Range}
use Rattle.wasm_below.specs.declared.error.Error.{Error}
use Rattle.wasm_below.specs.declared.message.Message.TheVariants as message
use Rattle.wasm_below.specs.Source.{Reader, rest, offset_of, end_of}
use Rattle.wasm_grammars.specs.Grammar.{Grammar, pick, Encodes, HasReadBy}
use Rattle.wasm_grammars.specs.Parts.{u32}
use Rattle.wasm_grammars.specs.Reading.{Fails}
use Rattle.wasm_grammars.proofs.Laws.{code}
use Rattle.wasm_grammars.proofs.Steps.{none_here}
use Rattle.wasm_externals.specs.Texts.{text}
use Rattle.wasm_sections.specs.Items.{Counted}
use Rattle.wasm_sections.proofs.Framing.{one_read}
use Rattle.wasm_payloads.specs.declared.payload.Payload.{Payload}
use Rattle.wasm_payloads.specs.declared.payload.Payload.TheVariants as payload
use Rattle.wasm_payloads.specs.Contents.{IsPayload, FailsPayload}
use Rattle.wasm_payloads.specs.Custom.{Custom}

-- What was read is no error, unless allocation failed.
pub read_or_fails : {X : Type 0} (g : Grammar X) {s : ℕ} {r end : Reader} (x : X) (e : Error) → e.message ≢ message.OutOfMemory → HasReadBy g x r end →
    Fails g s e r → ⊥
read_or_fails g {s} {r} {end} x e known (bytes, p, t) f = none_here (Encodes g (offset_of r)) e.message (rest r) known f.refuses bytes (rest end) x p t.parts

abbrev CountedAs : (Counted → Payload) → Reader → Payload → Type 0
CountedAs make c q = (s : Counted) × (q ≡ make s) × HasReadBy u32 s.count c s.reader

-- The payload has the range and the number.
abbrev NumberAs : (ℕ → Range ℕ → Payload) → Reader → Payload → Type 0
NumberAs make c q = (n : ℕ) × (range : Range ℕ) × (q ≡ make n range) × Encodes u32 (offset_of c) (rest c) n × (range.start ≡ c.start) × (range.end ≡ end_of c)

-- The payload of this id, below 14.
abbrev IsAt : ℕ → Reader → Payload → Type 0
IsAt id c q =
    pick (id == 0) ((s : Custom) × (q ≡ payload.CustomSection s) × HasReadBy text s.name c s.reader)
    (pick (id == 1) (CountedAs payload.TypeSection c q)
    (pick (id == 2) (CountedAs payload.ImportSection c q)
    (pick (id == 3) (CountedAs payload.FunctionSection c q)
    (pick (id == 4) (CountedAs payload.TableSection c q)
    (pick (id == 5) (CountedAs payload.MemorySection c q)
    (pick (id == 6) (CountedAs payload.GlobalSection c q)
    (pick (id == 7) (CountedAs payload.ExportSection c q)
    (pick (id == 8) (NumberAs payload.StartSection c q)
    (pick (id == 9) (CountedAs payload.ElementSection c q)
    (pick (id == 11) (CountedAs payload.DataSection c q)
    (pick (id == 12) (NumberAs payload.DataCountSection c q)
    (pick (id == 13) (CountedAs payload.TagSection c q) (q ≡ payload.UnknownSection 10 c)))))))))))))

at_id : (id : ℕ) (c : Reader) (q : Payload) → id < 14 → IsPayload id c q → IsAt id c q
at_id id c (payload.TypeSection s) low (is, read) = subst (λ i. IsAt i c (payload.TypeSection s)) (sym is) (s, refl, read)
at_id id c (payload.ImportSection s) low (is, read) = subst (λ i. IsAt i c (payload.ImportSection s)) (sym is) (s, refl, read)
at_id id c (payload.FunctionSection s) low (is, read) = subst (λ i. IsAt i c (payload.FunctionSection s)) (sym is) (s, refl, read)
at_id id c (payload.TableSection s) low (is, read) = subst (λ i. IsAt i c (payload.TableSection s)) (sym is) (s, refl, read)
at_id id c (payload.MemorySection s) low (is, read) = subst (λ i. IsAt i c (payload.MemorySection s)) (sym is) (s, refl, read)
at_id id c (payload.GlobalSection s) low (is, read) = subst (λ i. IsAt i c (payload.GlobalSection s)) (sym is) (s, refl, read)
at_id id c (payload.ExportSection s) low (is, read) = subst (λ i. IsAt i c (payload.ExportSection s)) (sym is) (s, refl, read)
at_id id c (payload.ElementSection s) low (is, read) = subst (λ i. IsAt i c (payload.ElementSection s)) (sym is) (s, refl, read)
at_id id c (payload.DataSection s) low (is, read) = subst (λ i. IsAt i c (payload.DataSection s)) (sym is) (s, refl, read)
at_id id c (payload.TagSection s) low (is, read) = subst (λ i. IsAt i c (payload.TagSection s)) (sym is) (s, refl, read)
at_id id c (payload.StartSection n range) low (is, a, b, d) = subst (λ i. IsAt i c (payload.StartSection n range)) (sym is) (n, range, refl, a, b, d)
at_id id c (payload.DataCountSection n range) low (is, a, b, d) = subst (λ i. IsAt i c (payload.DataCountSection n range)) (sym is) (n, range, refl, a, b, d)
at_id id c (payload.CustomSection s) low (is, read) = subst (λ i. IsAt i c (payload.CustomSection s)) (sym is) (s, refl, read)
at_id id c (payload.UnknownSection other d) low (a, b, inl is) = subst (λ i. IsAt i c (payload.UnknownSection other d)) (sym is) (cc (a, b, is))
at_id id c (payload.UnknownSection other d) low (a, b, inr high) = absurd (omega (arith, low, high))
at_id id c q low h = absurd h

-- The same for an id that is known.
here : (id n : ℕ) (c : Reader) (q : Payload) → n < 14 → id ≡ n → IsPayload id c q → IsAt n c q
here id n c q low is h = at_id n c q low (subst (λ i. IsPayload i c q) is h)

counted_once : (make : Counted → Payload) (c : Reader) (s : Counted) (q : Payload) → HasReadBy u32 s.count c s.reader → CountedAs make c q → make s ≡ q
counted_once make c s q read (t, is, again) =
    let one = one_read u32 read again in
    let whole : record { count = s.count; reader = s.reader } ≡ record { count = t.count; reader = t.reader } = cc (one.0, one.1) in
    ap make whole ∙ sym is

number_once : (make : ℕ → Range ℕ → Payload) (c : Reader) (n : ℕ) (range : Range ℕ) (q : Payload) → Encodes u32 (offset_of c) (rest c) n × (range.start ≡ c.start) × (range.end ≡ end_of c) →
    NumberAs make c q → make n range ≡ q
number_once make c n range q (number, start, end) (m, other, is, number2, start2, end2) =
    let one = code u32 (offset_of c) (rest c) (rest c) [] [] n m number number2 refl in
    let whole : record { start = range.start; end = range.end } ≡ record { start = other.start; end = other.end } = cc (start ∙ sym start2, end ∙ sym end2) in
    ap (λ k. make k range) one.1 ∙ ap (make m) whole ∙ sym is

custom_once : (c : Reader) (s : Custom) (q : Payload) → HasReadBy text s.name c s.reader → IsAt 0 c q → payload.CustomSection s ≡ q
custom_once c s q read (t, is, again) =
    let one = one_read text read again in
    let whole : record { name = s.name; reader = s.reader } ≡ record { name = t.name; reader = t.reader } = cc (one.0, one.1) in
    ap payload.CustomSection whole ∙ sym is

-- No known section has the id of an unknown one.
clash : (id n : ℕ) → id ≡ n → (n < 14) × (n ≢ 10) → (id ≡ 10) ⊎ (13 < id) → ⊥
clash id n is (low, other) (inl ten) = other (sym is ∙ ten)
clash id n is (low, other) (inr high) = omega (arith, is, low, high)

unknown_once : (id other : ℕ) (c d : Reader) (q : Payload) → IsPayload id c (payload.UnknownSection other d) → IsPayload id c q → payload.UnknownSection other d ≡ q
unknown_once id other c d (payload.TypeSection s) h k = absurd (clash id 1 k.0 (omega arith, omega arith) h.2)
unknown_once id other c d (payload.ImportSection s) h k = absurd (clash id 2 k.0 (omega arith, omega arith) h.2)
unknown_once id other c d (payload.FunctionSection s) h k = absurd (clash id 3 k.0 (omega arith, omega arith) h.2)
unknown_once id other c d (payload.TableSection s) h k = absurd (clash id 4 k.0 (omega arith, omega arith) h.2)
unknown_once id other c d (payload.MemorySection s) h k = absurd (clash id 5 k.0 (omega arith, omega arith) h.2)
unknown_once id other c d (payload.GlobalSection s) h k = absurd (clash id 6 k.0 (omega arith, omega arith) h.2)
unknown_once id other c d (payload.ExportSection s) h k = absurd (clash id 7 k.0 (omega arith, omega arith) h.2)
unknown_once id other c d (payload.StartSection n range) h k = absurd (clash id 8 k.0 (omega arith, omega arith) h.2)
unknown_once id other c d (payload.ElementSection s) h k = absurd (clash id 9 k.0 (omega arith, omega arith) h.2)
unknown_once id other c d (payload.DataSection s) h k = absurd (clash id 11 k.0 (omega arith, omega arith) h.2)
unknown_once id other c d (payload.DataCountSection n range) h k = absurd (clash id 12 k.0 (omega arith, omega arith) h.2)
unknown_once id other c d (payload.TagSection s) h k = absurd (clash id 13 k.0 (omega arith, omega arith) h.2)
unknown_once id other c d (payload.CustomSection s) h k = absurd (clash id 0 k.0 (omega arith, omega arith) h.2)
unknown_once id other c d (payload.UnknownSection same e) h k = cc (h.0 ∙ sym k.0, h.1 ∙ sym k.1)
unknown_once id other c d q h k = absurd k

-- The contents of a section are one payload.
pub one_payload : (id : ℕ) (c : Reader) (p q : Payload) → IsPayload id c p → IsPayload id c q → p ≡ q
one_payload id c (payload.TypeSection s) q (is, read) k = counted_once payload.TypeSection c s q read (here id 1 c q (omega arith) is k)
one_payload id c (payload.ImportSection s) q (is, read) k = counted_once payload.ImportSection c s q read (here id 2 c q (omega arith) is k)
one_payload id c (payload.FunctionSection s) q (is, read) k = counted_once payload.FunctionSection c s q read (here id 3 c q (omega arith) is k)
one_payload id c (payload.TableSection s) q (is, read) k = counted_once payload.TableSection c s q read (here id 4 c q (omega arith) is k)
one_payload id c (payload.MemorySection s) q (is, read) k = counted_once payload.MemorySection c s q read (here id 5 c q (omega arith) is k)
one_payload id c (payload.GlobalSection s) q (is, read) k = counted_once payload.GlobalSection c s q read (here id 6 c q (omega arith) is k)
one_payload id c (payload.ExportSection s) q (is, read) k = counted_once payload.ExportSection c s q read (here id 7 c q (omega arith) is k)
one_payload id c (payload.StartSection n range) q (is, a, b, d) k = number_once payload.StartSection c n range q (a, b, d) (here id 8 c q (omega arith) is k)
one_payload id c (payload.ElementSection s) q (is, read) k = counted_once payload.ElementSection c s q read (here id 9 c q (omega arith) is k)
one_payload id c (payload.DataSection s) q (is, read) k = counted_once payload.DataSection c s q read (here id 11 c q (omega arith) is k)
one_payload id c (payload.DataCountSection n range) q (is, a, b, d) k = number_once payload.DataCountSection c n range q (a, b, d) (here id 12 c q (omega arith) is k)
one_payload id c (payload.TagSection s) q (is, read) k = counted_once payload.TagSection c s q read (here id 13 c q (omega arith) is k)
one_payload id c (payload.CustomSection s) q (is, read) k = custom_once c s q read (here id 0 c q (omega arith) is k)
one_payload id c (payload.UnknownSection other d) q h k = unknown_once id other c d q h k
one_payload id c p q h k = absurd h

-- Contents with a number of items are not in error.
counted_reads : (id n : ℕ) (c : Reader) (s : Counted) (e : Error) → e.message ≢ message.OutOfMemory → id ≡ n → (0 < n) × (n ≢ 8) × (n ≢ 12) → HasReadBy u32 s.count c s.reader →
    FailsPayload id e c → ⊥
counted_reads id n c s e known is (some, _, _) read (inl (zero_is, _)) = omega (arith, is, some, zero_is)
counted_reads id n c s e known is free read (inr (inl (_, f))) = read_or_fails u32 s.count e known read f
counted_reads id n c s e known is (_, free, _) read (inr (inr (inl (eight, _)))) = free (sym is ∙ eight)
counted_reads id n c s e known is (_, _, free) read (inr (inr (inr (twelve, _)))) = free (sym is ∙ twelve)

number_reads : (id n : ℕ) (c : Reader) (x : ℕ) (e : Error) → e.message ≢ message.OutOfMemory → id ≡ n → (n ≡ 8) ⊎ (n ≡ 12) → Encodes u32 (offset_of c) (rest c) x →
    FailsPayload id e c → ⊥
number_reads id n c x e known is which number (inl (zero_is, _)) = number_not_custom which
  where
    number_not_custom : (n ≡ 8) ⊎ (n ≡ 12) → ⊥
    number_not_custom (inl a) = omega (arith, is, a, zero_is)
    number_not_custom (inr a) = omega (arith, is, a, zero_is)
number_reads id n c x e known is which number (inr (inl ((_, _, a, _, b), _))) = number_not_items which
  where
    number_not_items : (n ≡ 8) ⊎ (n ≡ 12) → ⊥
    number_not_items (inl eight) = a (is ∙ eight)
    number_not_items (inr twelve) = b (is ∙ twelve)
number_reads id n c x e known is which number (inr (inr (inl (_, f)))) = f.none known x number
number_reads id n c x e known is which number (inr (inr (inr (_, f)))) = f.none known x number

-- A payload's contents are not in error, unless allocation failed.
pub payload_or_fails : (id : ℕ) (c : Reader) (p : Payload) (e : Error) → e.message ≢ message.OutOfMemory → IsPayload id c p → FailsPayload id e c → ⊥
payload_or_fails id c (payload.TypeSection s) e known (is, read) f = counted_reads id 1 c s e known is (omega arith, omega arith, omega arith) read f
payload_or_fails id c (payload.ImportSection s) e known (is, read) f = counted_reads id 2 c s e known is (omega arith, omega arith, omega arith) read f
payload_or_fails id c (payload.FunctionSection s) e known (is, read) f = counted_reads id 3 c s e known is (omega arith, omega arith, omega arith) read f
payload_or_fails id c (payload.TableSection s) e known (is, read) f = counted_reads id 4 c s e known is (omega arith, omega arith, omega arith) read f
payload_or_fails id c (payload.MemorySection s) e known (is, read) f = counted_reads id 5 c s e known is (omega arith, omega arith, omega arith) read f
payload_or_fails id c (payload.GlobalSection s) e known (is, read) f = counted_reads id 6 c s e known is (omega arith, omega arith, omega arith) read f
payload_or_fails id c (payload.ExportSection s) e known (is, read) f = counted_reads id 7 c s e known is (omega arith, omega arith, omega arith) read f
payload_or_fails id c (payload.StartSection n range) e known (is, number, _, _) f = number_reads id 8 c n e known is (inl refl) number f
payload_or_fails id c (payload.ElementSection s) e known (is, read) f = counted_reads id 9 c s e known is (omega arith, omega arith, omega arith) read f
payload_or_fails id c (payload.DataSection s) e known (is, read) f = counted_reads id 11 c s e known is (omega arith, omega arith, omega arith) read f
payload_or_fails id c (payload.DataCountSection n range) e known (is, number, _, _) f = number_reads id 12 c n e known is (inr refl) number f
payload_or_fails id c (payload.TagSection s) e known (is, read) f = counted_reads id 13 c s e known is (omega arith, omega arith, omega arith) read f
payload_or_fails id c (payload.CustomSection s) e known (is, read) (inl (_, f)) = read_or_fails text s.name e known read f
payload_or_fails id c (payload.CustomSection s) e known (is, read) (inr (inl ((some, _, _, _, _), _))) = omega (arith, is, some)
payload_or_fails id c (payload.CustomSection s) e known (is, read) (inr (inr (inl (eight, _)))) = omega (arith, is, eight)
payload_or_fails id c (payload.CustomSection s) e known (is, read) (inr (inr (inr (twelve, _)))) = omega (arith, is, twelve)
payload_or_fails id c (payload.UnknownSection other d) e known (_, _, free) (inl (is, _)) = clash id 0 is (omega arith, omega arith) free
payload_or_fails id c (payload.UnknownSection other d) e known (_, _, inl ten) (inr (inl ((_, _, _, a, _), _))) = a ten
payload_or_fails id c (payload.UnknownSection other d) e known (_, _, inr high) (inr (inl ((_, low, _, _, _), _))) = omega (arith, high, low)
payload_or_fails id c (payload.UnknownSection other d) e known (_, _, free) (inr (inr (inl (is, _)))) = clash id 8 is (omega arith, omega arith) free
payload_or_fails id c (payload.UnknownSection other d) e known (_, _, free) (inr (inr (inr (is, _)))) = clash id 12 is (omega arith, omega arith) free
payload_or_fails id c p e known h f = absurd h
