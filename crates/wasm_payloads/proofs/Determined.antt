-- A parser has one next payload, or one fails to be read. Bytes are one list of payloads.
use Rattle.std.proofs.Common.{◌≡◌, ◌≢◌, ℕ, ◌-◌, ◌⊎◌, inl, inr, List, [], ◌∷◌, Some, None, Option, refl, sym, subst, ap, ◌∙◌, arith}
use Rattle.wasm_below.specs.declared.error.Error.{Error}
use Rattle.wasm_below.specs.declared.malformed.Malformed.{Malformed}
use Rattle.wasm_below.specs.declared.message.Message.TheVariants as message
use Rattle.wasm_below.specs.Source.{Reader, offset_of}
use Rattle.wasm_grammars.specs.Blocks.{contents, sized_contents}
use Rattle.wasm_grammars.specs.Parts.{u32}
use Rattle.wasm_sections.specs.declared.section.SectionHeader.{SectionHeader}
use Rattle.wasm_sections.specs.Delimited.{delimited}
use Rattle.wasm_sections.specs.Order.{MayComeAfter, place_after, functions_fault}
use Rattle.wasm_sections.specs.Preamble.{preamble}
use Rattle.wasm_sections.specs.Section.{header}
use Rattle.wasm_sections.proofs.Framing.{one_read}
use Rattle.wasm_payloads.specs.declared.parser.ParserState.{ParserState}
use Rattle.wasm_payloads.specs.declared.parser.ParserState.TheVariants as phase
use Rattle.wasm_payloads.specs.declared.payload.Encoding.TheVariants as encoding
use Rattle.wasm_payloads.specs.declared.payload.Payload.{Payload}
use Rattle.wasm_payloads.specs.declared.payload.Payload.TheVariants as payload
use Rattle.wasm_payloads.specs.Contents.{IsPayload}
use Rattle.wasm_payloads.specs.Parsing.{Parsing, moved_to, counts_after, counts_fault, data_fault_at, starts, Gives, GivesVersion, GivesEnd, GivesSection, GivesBody, Opens, GivesCode, GivesContents, FailsAt, FailsToOpen, FailsCode, FailsContents, FailsAtSection, FailsAtBody}
use Rattle.wasm_payloads.specs.Payloads.{PayloadsOccur, IsModuleOf}
use Rattle.wasm_payloads.proofs.OnePayload.{read_or_fails, one_payload, payload_or_fails}

one_version : (p q : Payload) (s u v : Parsing) → GivesVersion p s u → GivesVersion q s v → (p ≡ q) × (u ≡ v)
one_version (payload.Version n encoding.Module a) (payload.Version m encoding.Module b) s u v (num, (x, read), start, end, moved) (num2, (y, read2), start2, end2, moved2) =
    let same = (one_read preamble read read2).0 in
    let ends : a.end ≡ b.end = end ∙ ap offset_of same ∙ sym end2 in
    let range : record { start = a.start; end = a.end } ≡ record { start = b.start; end = b.end } = cc (start ∙ sym start2, ends) in
    (ap (λ k. payload.Version k encoding.Module a) (num ∙ sym num2) ∙ ap (payload.Version m encoding.Module) range, moved ∙ ap (λ r. moved_to s r phase.Section) same ∙ sym moved2)
one_version p (payload.Version m encoding.Module b) s u v g h = absurd g
one_version p q s u v g h = absurd h

-- Nothing is at the end but the end.
one_end : (p q : Payload) (s u v : Parsing) → GivesEnd p s u → GivesEnd q s v → (p ≡ q) × (u ≡ v)
one_end p q s u v (_, (_, is), moved) (_, (_, is2), moved2) = (is ∙ sym is2, moved ∙ sym moved2)

abbrev opened : Parsing → Reader → ℕ → Parsing
opened s r id = record { reader = r; state = s.state; order = record { last = place_after s.order.last id }; counts = s.counts }

one_opened : (h k : SectionHeader) (s u v : Parsing) → Opens s h u → Opens s k v → (h ≡ k) × (u ≡ v)
one_opened h k s u v (_, _, read, _, moved) (_, _, read2, _, moved2) =
    let same = one_read header read read2 in
    (same.1, moved ∙ ap (λ r. opened s r h.id) same.0 ∙ ap (λ (z : SectionHeader). opened s v.reader z.id) same.1 ∙ sym moved2)

abbrev started : Parsing → Reader → ℕ → ℕ → Parsing
started s r count size =
    record { reader = r; state = phase.Bodies count size; order = s.order; counts = record { functions = s.counts.functions; bodies = Some count; «data» = s.counts.«data»; data_count = s.counts.data_count } }

one_code : (h : SectionHeader) (p q : Payload) (s u v : Parsing) → GivesCode h p s u → GivesCode h q s v → (p ≡ q) × (u ≡ v)
one_code h (payload.CodeSectionStart c a w z) (payload.CodeSectionStart d b x y) s u v (_, at, all, read, _, moved) (_, at2, all2, read2, _, moved2) =
    let same = one_read (delimited h.size u32) read read2 in
    let count : c ≡ d = ap (λ (k : ℕ × ℕ). k.0) same.1 in
    let size : z ≡ y = ap (λ (k : ℕ × ℕ). k.1) same.1 in (
      cc (count, size, at ∙ sym at2, all ∙ sym all2),
      moved ∙ ap (λ r. started s r c z) same.0 ∙ ap (λ k. started s v.reader k z) count ∙ ap (started s v.reader d) size ∙ sym moved2,
    )
one_code h p (payload.CodeSectionStart d b x y) s u v g k = absurd g
one_code h p q s u v g k = absurd k

is_code : (h : SectionHeader) (p : Payload) (s u : Parsing) → GivesCode h p s u → h.id ≡ 10
is_code h (payload.CodeSectionStart c a w z) s u g = g.0
is_code h p s u g = absurd g

abbrev read_on : Parsing → Reader → Payload → Parsing
read_on s r p = record { reader = r; state = phase.Section; order = s.order; counts = counts_after s.counts p }

one_contents : (h : SectionHeader) (p q : Payload) (s u v : Parsing) → GivesContents h p s u → GivesContents h q s v → (p ≡ q) × (u ≡ v)
one_contents h p q s u v (_, (c, read, is), _, moved) (_, (d, read2, is2), _, moved2) =
    let same = one_read (contents s.reader.features h.size) read read2 in
    let one = one_payload h.id c p q is (subst (λ r. IsPayload h.id r q) (sym same.1) is2) in
    (one, moved ∙ ap (λ r. read_on s r p) same.0 ∙ ap (read_on s v.reader) one ∙ sym moved2)

pub one_section : (p q : Payload) (s u v : Parsing) → GivesSection p s u → GivesSection q s v → (p ≡ q) × (u ≡ v)
one_section p q s u v (inl g) (inl k) = one_end p q s u v g k
one_section p q s u v (inl g) (inr (h, mid, opens, _)) = absurd (opens.0 g.0)
one_section p q s u v (inr (h, mid, opens, _)) (inl k) = absurd (opens.0 k.0)
one_section p q s u v (inr (h, mid, opens, gives)) (inr (k, mid2, opens2, gives2)) =
    let same = one_opened h k s mid mid2 opens opens2 in
    by gives (subst (λ z. GivesCode z q mid v ⊎ GivesContents z q mid v) (sym same.0) (subst (λ m. GivesCode k q m v ⊎ GivesContents k q m v) (sym same.1) gives2))
  where
    by : GivesCode h p mid u ⊎ GivesContents h p mid u → GivesCode h q mid v ⊎ GivesContents h q mid v → (p ≡ q) × (u ≡ v)
    by (inl a) (inl b) = one_code h p q mid u v a b
    by (inl a) (inr b) = absurd (b.0 (is_code h p mid u a))
    by (inr a) (inl b) = absurd (a.0 (is_code h q mid v b))
    by (inr a) (inr b) = one_contents h p q mid u v a b

pub one_body : (n size : ℕ) (p q : Payload) (s u v : Parsing) → GivesBody n size p s u → GivesBody n size q s v → (p ≡ q) × (u ≡ v)
one_body n size p q s u v (inl (_, _, g)) (inl (_, _, k)) = one_section p q s u v g k
one_body n size p q s u v (inl (none, _, _)) (inr (some, _, _, _, _, _)) = absurd (omega (arith, none, some))
one_body n size p q s u v (inr (some, _, _, _, _, _)) (inl (none, _, _)) = absurd (omega (arith, none, some))
one_body n size p q s u v (inr (_, body, left, read, is, moved)) (inr (_, other, less, read2, is2, moved2)) =
    let same = one_read (delimited size (sized_contents s.reader.features)) read read2 in
    let parts : body ≡ other = ap (λ (k : Reader × ℕ). k.0) same.1 in
    let size_left : left ≡ less = ap (λ (k : Reader × ℕ). k.1) same.1 in (
      is ∙ ap payload.CodeSectionEntry parts ∙ sym is2,
      moved ∙ ap (λ r. moved_to s r (phase.Bodies (n - 1) left)) same.0 ∙ ap (λ k. moved_to s v.reader (phase.Bodies (n - 1) k)) size_left ∙ sym moved2,
    )

one_next : (state : ParserState) (p q : Payload) (s u v : Parsing) → Gives state p s u → Gives state q s v → (p ≡ q) × (u ≡ v)
one_next phase.Header p q s u v g k = one_version p q s u v g k
one_next phase.Section p q s u v g k = one_section p q s u v g k
one_next (phase.Bodies n size) p q s u v g k = one_body n size p q s u v g k
one_next phase.Ended p q s u v g k = absurd g

-- The next payload and the parser after it are determined.
pub next_payload : (s u v : Parsing) (p q : Payload) → Gives s.state p s u → Gives s.state q s v → (p ≡ q) × (u ≡ v)
next_payload s u v p q g k = one_next s.state p q s u v g k

pub none_after : (s u : Parsing) (p : Payload) → Gives s.state p s u → s.state ≡ phase.Ended → ⊥
none_after s u p g ended = subst (λ z. Gives z p s u) ended g

pub one_list : (s t end : Parsing) (ps qs : List Payload) → PayloadsOccur ps s t → t.state ≡ phase.Ended → PayloadsOccur qs s end → end.state ≡ phase.Ended → ps ≡ qs
one_list s t end [] [] is ended is2 ended2 = refl
one_list s t end [] (q ∷ qs) is ended (u, g, _) ended2 = absurd (none_after s u q g (subst (λ (z : Parsing). z.state ≡ phase.Ended) is ended))
one_list s t end (p ∷ ps) [] (u, g, _) ended is ended2 = absurd (none_after s u p g (subst (λ (z : Parsing). z.state ≡ phase.Ended) is ended2))
one_list s t end (p ∷ ps) (q ∷ qs) (u, g, more) ended (v, k, more2) ended2 =
    let same = next_payload s u v p q g k in
    let rest = one_list u t end ps qs more ended (subst (λ z. PayloadsOccur qs z end) (sym same.1) more2) ended2 in
    ap (λ z. z ∷ ps) same.0 ∙ ap (λ z. q ∷ z) rest

-- Bytes are at most one list of payloads.
pub one_module : (r : Reader) (ps qs : List Payload) → IsModuleOf ps r → IsModuleOf qs r → ps ≡ qs
one_module r ps qs (t, occur, ended) (end, occur2, ended2) = one_list (starts r) t end ps qs occur ended occur2 ended2

no_fault : {what : Malformed} (fault : Option Malformed) → fault ≡ None → fault ≡ Some what → ⊥
no_fault fault none some = cc (none, some)

code_or_fails : (h : SectionHeader) (p : Payload) (s u : Parsing) (e : Error) → e.message ≢ message.OutOfMemory → GivesCode h p s u → FailsCode h e s → ⊥
code_or_fails h (payload.CodeSectionStart c a w z) s u e known (_, _, _, read, _, _) (_, inl f) = read_or_fails (delimited h.size u32) (c, z) e known read f
code_or_fails h (payload.CodeSectionStart c a w z) s u e known (_, _, _, read, fault, _) (_, inr (count, size, after, read2, what, some, _)) =
    let same = one_read (delimited h.size u32) read read2 in
    let counts : c ≡ count = ap (λ (k : ℕ × ℕ). k.0) same.1 in
    no_fault (functions_fault s.counts.functions (Some count)) (subst (λ k. functions_fault s.counts.functions (Some k) ≡ None) counts fault) some
code_or_fails h p s u e known g f = absurd g

contents_or_fails : (h : SectionHeader) (p : Payload) (s u : Parsing) (e : Error) → e.message ≢ message.OutOfMemory → GivesContents h p s u → FailsContents h e s → ⊥
contents_or_fails h p s u e known (_, (c, read, is), _, _) (_, inl f) = read_or_fails (contents s.reader.features h.size) c e known read f
contents_or_fails h p s u e known (_, (c, read, is), _, _) (_, inr (d, after, read2, inl f)) =
    let same = one_read (contents s.reader.features h.size) read read2 in
    payload_or_fails h.id d p e known (subst (λ r. IsPayload h.id r p) same.1 is) f
contents_or_fails h p s u e known (_, (c, read, is), equal, moved) (_, inr (d, after, read2, inr (q, what, is2, some, _))) =
    let same = one_read (contents s.reader.features h.size) read read2 in
    let one = one_payload h.id d p q (subst (λ r. IsPayload h.id r p) same.1 is) is2 in
    let counts : u.counts ≡ counts_after s.counts q = ap (λ (z : Parsing). z.counts) moved ∙ ap (counts_after s.counts) one in
    no_fault (data_fault_at h.id (counts_after s.counts q)) (subst (λ k. data_fault_at h.id k ≡ None) counts equal) some

-- A section that was opened was read, or fails to be.
section_or_fails : (h k : SectionHeader) (p : Payload) (s mid mid2 u : Parsing) (e : Error) → e.message ≢ message.OutOfMemory → Opens s h mid → Opens s k mid2 →
    GivesCode h p mid u ⊎ GivesContents h p mid u → FailsCode k e mid2 ⊎ FailsContents k e mid2 → ⊥
section_or_fails h k p s mid mid2 u e known opens opens2 gives fails =
    let same = one_opened h k s mid mid2 opens opens2 in
    by gives (subst (λ z. FailsCode z e mid ⊎ FailsContents z e mid) (sym same.0) (subst (λ m. FailsCode k e m ⊎ FailsContents k e m) (sym same.1) fails))
  where
    by : GivesCode h p mid u ⊎ GivesContents h p mid u → FailsCode h e mid ⊎ FailsContents h e mid → ⊥
    by (inl a) (inl b) = code_or_fails h p mid u e known a b
    by (inl a) (inr b) = b.0 (is_code h p mid u a)
    by (inr a) (inl b) = a.0 b.0
    by (inr a) (inr b) = contents_or_fails h p mid u e known a b

opened_or_fails : (h : SectionHeader) (s mid : Parsing) (e : Error) → e.message ≢ message.OutOfMemory → Opens s h mid → FailsToOpen e s → ⊥
opened_or_fails h s mid e known (_, free, _, _, _) (_, inl (begins, _)) = free begins
opened_or_fails h s mid e known (_, _, read, _, _) (_, inr (_, inl f)) = read_or_fails header h e known read f
opened_or_fails h s mid e known (_, _, read, may, _) (_, inr (_, inr (k, after, read2, late, _))) =
    late (subst (λ (z : SectionHeader). MayComeAfter s.order.last z.id) (one_read header read read2).1 may)

given_or_fails : (p : Payload) (s u : Parsing) (e : Error) → e.message ≢ message.OutOfMemory → GivesSection p s u → FailsAtSection e s → ⊥
given_or_fails p s u e known (inl g) (inl f) = no_fault (counts_fault s.counts) g.1.0 f.1.1
given_or_fails p s u e known (inl g) (inr (inl f)) = f.0 g.0
given_or_fails p s u e known (inl g) (inr (inr (k, mid, opens, _))) = opens.0 g.0
given_or_fails p s u e known (inr (h, mid, opens, _)) (inl f) = opens.0 f.0
given_or_fails p s u e known (inr (h, mid, opens, _)) (inr (inl f)) = opened_or_fails h s mid e known opens f
given_or_fails p s u e known (inr (h, mid, opens, gives)) (inr (inr (k, mid2, opens2, fails))) = section_or_fails h k p s mid mid2 u e known opens opens2 gives fails

body_or_fails : (n size : ℕ) (p : Payload) (s u : Parsing) (e : Error) → e.message ≢ message.OutOfMemory → GivesBody n size p s u → FailsAtBody n size e s → ⊥
body_or_fails n size p s u e known (inl (_, _, g)) (inl (_, _, f)) = given_or_fails p s u e known g f
body_or_fails n size p s u e known (inl (_, empty, _)) (inr (inl (_, some, _))) = omega (arith, empty, some)
body_or_fails n size p s u e known (inl (none, _, _)) (inr (inr (some, _))) = omega (arith, none, some)
body_or_fails n size p s u e known (inr (some, _, _, _, _, _)) (inl (none, _, _)) = omega (arith, none, some)
body_or_fails n size p s u e known (inr (some, _, _, _, _, _)) (inr (inl (none, _, _))) = omega (arith, none, some)
body_or_fails n size p s u e known (inr (_, body, left, read, _, _)) (inr (inr (_, f))) = read_or_fails (delimited size (sized_contents s.reader.features)) (body, left) e known read f

next_or_fails : (state : ParserState) (p : Payload) (s u : Parsing) (e : Error) → e.message ≢ message.OutOfMemory → Gives state p s u → FailsAt state e s → ⊥
next_or_fails phase.Header (payload.Version n encoding.Module a) s u e known (_, (v, read), _, _, _) f = read_or_fails preamble v e known read f
next_or_fails phase.Header p s u e known g f = absurd g
next_or_fails phase.Section p s u e known g f = given_or_fails p s u e known g f
next_or_fails (phase.Bodies n size) p s u e known g f = body_or_fails n size p s u e known g f
next_or_fails phase.Ended p s u e known g f = absurd g

-- The next payload was read, or fails to be, unless allocation failed.
pub payload_or_error : (s u : Parsing) (p : Payload) (e : Error) → e.message ≢ message.OutOfMemory → Gives s.state p s u → FailsAt s.state e s → ⊥
payload_or_error s u p e known g f = next_or_fails s.state p s u e known g f
