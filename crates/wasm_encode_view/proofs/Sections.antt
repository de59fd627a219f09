-- The shortest encodings of declarations of locals, bodies and sections, and that they are placed.
use Rattle.std.specs.Prelude.{IfSome}
use Rattle.std.proofs.Common.{◌≡◌, ℕ, zero, suc, ◌+◌, ◌-◌, ◌*◌, ◌/◌, ◌%◌, ◌<◌, ◌≤◌, ◌^◌, inl, inr, List, [], ◌∷◌, ◌++◌, length, take, get_or, Option, Some, None, refl, sym, ap, subst, ◌∙◌, arith, length-append}
use Rattle.std.proofs.lemmas.Bool.{cases_lt}
use Rattle.std.proofs.lemmas.Nat.{div_below}
use Rattle.wasm_below.specs.Number.{EncodesUnsigned}
use Rattle.wasm_below.proofs.Numbers.{unsigned_below}
use Rattle.wasm_imm.specs.Lists.{EncodesEach}
use Rattle.wasm_encode_numbers.specs.Appended.{Appends, HasNone}
use Rattle.wasm_encode_immediates.proofs.ListTexts.{one_more}
use Rattle.wasm_encode_numbers.proofs.Unsigned.{joins}
use Rattle.wasm_encode_view.specs.declared.section.WasmLocals.{WasmLocals}
use Rattle.wasm_encode_view.specs.Locals.{EncodesType}
use Rattle.wasm_encode_view.specs.Sections.{EncodesLocals, EncodesDeclarations, EncodesSized, EncodesSection, Puts, PutsShortest, PutsBetween, PlacesShortest}
use Rattle.wasm_encode_view.proofs.Puts.{puts_both, puts_whole}

-- ---- the shortest encoding of a value

encodes_of : {X : Type 0} (P : List ℕ → X → Type 0) (x : X) (text : List ℕ) → Appends P x [] text → P text x
encodes_of P x text a = subst (λ t. P t x) (sym a.appended) a.encodes

shortest_of : {X : Type 0} (P : List ℕ → X → Type 0) (x : X) (text other : List ℕ) → Appends P x [] text → P other x → length text ≤ length other
shortest_of P x text other a p = subst (λ t. length t ≤ length other) (sym a.appended) (a.shortest other p)

made : {X : Type 0} (P : List ℕ → X → Type 0) (x : X) (text : List ℕ) → P text x → ((other : List ℕ) → P other x → length text ≤ length other) → Appends P x [] text
made P x text p short = record { text = text; appended = refl; encodes = p; shortest = short }

-- Two of them have the same length.
pub same_length : {X : Type 0} (P : List ℕ → X → Type 0) (x : X) (a b : List ℕ) → Appends P x [] a → Appends P x [] b → length a ≡ length b
same_length P x a b p q =
    let l = shortest_of P x a b p (encodes_of P x b q) in
    let m = shortest_of P x b a q (encodes_of P x a p) in
    omega (arith, l, m)

appended_after : {X : Type 0} (P : List ℕ → X → Type 0) (x : X) (before text : List ℕ) → Appends P x [] text → Appends P x before (before ++ text)
appended_after P x before text a = record { text = text; appended = refl; encodes = encodes_of P x text a; shortest = λ other p. shortest_of P x text other a p }

pub has_some : {X : Type 0} (P : List ℕ → X → Type 0) (x : X) (text : List ℕ) → Appends P x [] text → ¬ HasNone P x
has_some P x text a none = none text (encodes_of P x text a)

-- ---- declarations

pub one_shortest : (v : WasmLocals) (number ty : List ℕ) → Appends (EncodesUnsigned 32) v.count [] number → Appends EncodesType v.ty [] ty → Appends EncodesLocals v [] (number ++ ty)
one_shortest v number ty a b =
    made EncodesLocals v (number ++ ty) (number, ty, refl, encodes_of (EncodesUnsigned 32) v.count number a, encodes_of EncodesType v.ty ty b)
    (λ other (first, second, e, p, q).
    let x = shortest_of (EncodesUnsigned 32) v.count number first a p in
    let y = shortest_of EncodesType v.ty ty second b q in
    let l = length-append number ty in
    let m = ap length e ∙ length-append first second in
    omega (arith, x, y, l, m))

pub none_of_type : (v : WasmLocals) → HasNone EncodesType v.ty → HasNone EncodesLocals v
none_of_type v none text (number, ty, e, p, q) = none ty q

-- A member without an encoding.
pub none_of_each : {X : Type 0} (P : List ℕ → X → Type 0) (xs : List X) (i : ℕ) (d : X) → i < length xs → HasNone P (get_or xs i d) → HasNone (EncodesEach P) xs
none_of_each P [] i d lt none text p = absurd (omega (arith, lt))
none_of_each P (y ∷ ys) zero d lt none text (first, rest, e, p, l) = none first p
none_of_each P (y ∷ ys) (suc i) d lt none text (first, rest, e, p, l) = none_of_each P ys i d (omega (arith, lt)) none rest l

same_member : {X : Type 0} (xs : List X) (i : ℕ) (d e : X) → i < length xs → get_or xs i d ≡ get_or xs i e
same_member [] i d e lt = absurd (omega (arith, lt))
same_member (y ∷ ys) zero d e lt = refl
same_member (y ∷ ys) (suc i) d e lt = same_member ys i d e (omega (arith, lt))

pub list_shortest : (vs : List WasmLocals) (number each : List ℕ) → Appends (EncodesUnsigned 32) (length vs) [] number → Appends (EncodesEach EncodesLocals) vs [] each →
    Appends EncodesDeclarations vs [] (number ++ each)
list_shortest vs number each a b =
    made EncodesDeclarations vs (number ++ each)
    (number, each, length vs, refl, encodes_of (EncodesUnsigned 32) (length vs) number a, (refl, encodes_of (EncodesEach EncodesLocals) vs each b))
    (λ other (first, second, n, e, p, many).
    let x = shortest_of (EncodesUnsigned 32) (length vs) number first a (subst (EncodesUnsigned 32 first) (sym many.0) p) in
    let y = shortest_of (EncodesEach EncodesLocals) vs each second b many.1 in
    let l = length-append number each in
    let m = ap length e ∙ length-append first second in
    omega (arith, x, y, l, m))

pub none_of_list : (vs : List WasmLocals) → HasNone (EncodesEach EncodesLocals) vs → HasNone EncodesDeclarations vs
none_of_list vs none text (first, second, n, e, p, many) = none second many.1

pub too_many : (vs : List WasmLocals) → 2 ^ 32 ≤ length vs → HasNone EncodesDeclarations vs
too_many vs long text (first, second, n, e, p, many) = let lt = unsigned_below first 32 n p in let same = many.0 in absurd (omega (arith, long, lt, same))

-- ---- a size and its bytes

-- A smaller number has an encoding that is no longer.
smaller : (width : ℕ) (text : List ℕ) (n m : ℕ) → EncodesUnsigned width text n → m ≤ n → (other : List ℕ) × EncodesUnsigned width other m × (length other ≤ length text)
smaller width [] n m p le = absurd p
smaller width (c ∷ []) n m (lt, e, fits) le = (m ∷ [], (omega (arith, lt, e, le), refl, omega (arith, fits, le)), omega arith)
smaller width (c ∷ d ∷ text) n m (w, ge, lt, high, sum, p) le =
    let fits = unsigned_below (c ∷ d ∷ text) width n (w, ge, lt, high, sum, p) in
    elim (cases_lt m 128) [
      | inl one ↦ (m ∷ [], (one, refl, omega (arith, fits, le)), omega arith)
      | inr more ↦ (
          let below : m / 128 < high + 1 = div_below m 128 (high + 1) (omega arith) (omega (arith, sum, lt, le)) in
          let (other, q, short) = smaller (width - 7) (d ∷ text) high (m / 128) p (omega (arith, below)) in
          ((m % 128 + 128) ∷ other, joins width m other w q, omega (arith, short))
          )
    ]

pub sized_shortest : {X : Type 0} (P : List ℕ → X → Type 0) (x : X) (size part bytes : List ℕ) (n : ℕ) → n ≡ length part + length bytes → Appends (EncodesUnsigned 32) n [] size →
    Appends P x [] part → Appends (EncodesSized P x) bytes [] (size ++ (part ++ bytes))
sized_shortest P x size part bytes n is a b =
    let same : n ≡ length (part ++ bytes) = is ∙ sym (length-append part bytes) in
    made (EncodesSized P x) bytes (size ++ (part ++ bytes))
    (size, part, refl, subst (EncodesUnsigned 32 size) same (encodes_of (EncodesUnsigned 32) n size a), encodes_of P x part b)
    (λ other (number, first, e, p, q).
    let l = shortest_of P x part first b q in
    let k = length-append first bytes in
    let (less, r, s) = smaller 32 number (length (first ++ bytes)) n p (omega (arith, is, l, k)) in
    let t = shortest_of (EncodesUnsigned 32) n size less a r in
    let i = length-append size (part ++ bytes) in
    let j = length-append part bytes in
    let m = ap length e ∙ length-append number (first ++ bytes) in
    omega (arith, l, k, s, t, i, j, m))

pub none_sized : {X : Type 0} (P : List ℕ → X → Type 0) (x : X) (bytes : List ℕ) → HasNone P x → HasNone (EncodesSized P x) bytes
none_sized P x bytes none text (size, part, e, p, q) = none part q

pub too_large : {X : Type 0} (P : List ℕ → X → Type 0) (x : X) (part bytes : List ℕ) → Appends P x [] part → 2 ^ 32 ≤ length part + length bytes → HasNone (EncodesSized P x) bytes
too_large P x part bytes a long text (size, first, e, p, q) =
    let l = shortest_of P x part first a q in
    let k = length-append first bytes in
    let lt = unsigned_below size 32 (length (first ++ bytes)) p in
    absurd (omega (arith, long, l, k, lt))

pub section_shortest : (id count : ℕ) (entries more : List ℕ) → Appends (EncodesSized (EncodesUnsigned 32) count) entries [] more → Appends (EncodesSection id count) entries [] (id ∷ more)
section_shortest id count entries more a =
    made (EncodesSection id count) entries (id ∷ more) (more, refl, encodes_of (EncodesSized (EncodesUnsigned 32) count) entries more a)
    (λ other (rest, e, p).
    let l = shortest_of (EncodesSized (EncodesUnsigned 32) count) entries more rest a p in
    let m = ap length e in
    omega (arith, l, m))

pub no_section : (id count : ℕ) (entries : List ℕ) → HasNone (EncodesSized (EncodesUnsigned 32) count) entries → HasNone (EncodesSection id count) entries
no_section id count entries none text (more, e, p) = none more p

-- ---- what the calls do

pub placed : {X : Type 0} (P : List ℕ → X → Type 0) (x : X) (text : List ℕ) (error end count_old count_new : ℕ) (old new : List ℕ) → Appends P x [] text → Puts text 0 end old new →
    length text ≤ length old → count_new ≡ end → error ≡ 0 → PlacesShortest P x error count_old count_new old new
placed P x text error end count_old count_new old new a puts fits count is =
    let whole = puts_whole text end old new puts in
    inl (text, a, count ∙ whole.0, inl (fits, is, whole.1))

pub no_room : {X : Type 0} (P : List ℕ → X → Type 0) (x : X) (text : List ℕ) (error count_old count_new : ℕ) (old : List ℕ) → Appends P x [] text → count_new ≡ length text →
    length old < count_new → error ≡ 102 → PlacesShortest P x error count_old count_new old old
no_room P x text error count_old count_new old a count long is = inl (text, a, count, inr (omega (arith, long, count), is, refl))

pub none_placed : {X : Type 0} (P : List ℕ → X → Type 0) (x : X) (error count : ℕ) (old : List ℕ) → HasNone P x → error ≡ 112 → PlacesShortest P x error count count old old
none_placed P x error count old none is = inr (none, is, refl, refl)

-- ---- part after part

-- One more member.
pub each_put : {X : Type 0} (P : List ℕ → X → Type 0) (xs : List X) (i : ℕ) (d : X) (at next end : ℕ) (old between new : List ℕ) → i < length xs →
    PutsShortest (EncodesEach P) (take i xs) at (Some next) old between → PutsShortest P (get_or xs i d) next (Some end) between new →
    PutsShortest (EncodesEach P) (take (i + 1) xs) at (Some end) old new
each_put P xs i d at next end old between new lt (before, a, first) (text, b, second) =
    let x = get_or xs i d in (
      before ++ text,
      one_more P xs i x [] before (before ++ text) lt (same_member xs i d x lt) a (appended_after P x before text b),
      puts_both before text at next end old between new first second,
    )

pub locals_put : (vs : List WasmLocals) (at next : ℕ) (result : Option ℕ) (number old between new : List ℕ) → Appends (EncodesUnsigned 32) (length vs) [] number → Puts number at next old between →
    PutsShortest (EncodesEach EncodesLocals) vs next result between new → PutsShortest EncodesDeclarations vs at result old new
locals_put vs at next (Some end) number old between new a first (text, b, rest) = (number ++ text, list_shortest vs number text a b, puts_both number text at next end old between new first rest)
locals_put vs at next None number old between new a first none = none_of_list vs none

pub few_locals : (at next count : ℕ) (result : Option ℕ) (number old between : List ℕ) → at ≤ 10 → length number ≤ 10 → count < 2 ^ 32 → Puts number at next old between →
    IfSome result (λ end. end ≤ next + 22 * count) → IfSome result (λ end. end < 2 ^ 40)
few_locals at next count (Some end) number old between le short lt first few = let m = first.0 in omega (arith, le, short, lt, m, few)
few_locals at next count None number old between le short lt first few = tt

pub body_put : (size operators : List ℕ) (vs : List WasmLocals) (at next end : ℕ) (old first second new : List ℕ) → Puts size 0 at old first →
    PutsShortest EncodesDeclarations vs at (Some next) first second → Puts operators next end second new → PutsBetween EncodesDeclarations size vs operators (Some end) old new
body_put size operators vs at next end old first second new a (text, short, b) c =
    (text, short, puts_both size (text ++ operators) 0 at end old first new a (puts_both text operators at next end first second new b c))

pub section_put : (one size count entries : List ℕ) (second third last end : ℕ) (old a b c new : List ℕ) → Puts one 0 second old a → Puts size second third a b → Puts count third last b c →
    Puts entries last end c new → Puts (one ++ (size ++ (count ++ entries))) 0 end old new
section_put one size count entries second third last end old a b c new p q r s =
    puts_both one (size ++ (count ++ entries)) 0 second end old a new p
    (puts_both size (count ++ entries) second third end a b new q (puts_both count entries third last end b c new r s))

-- ---- what the calls do

-- The locals do not fit.
pub locals_no_room : (vs : List WasmLocals) (needed error count_old count_new : ℕ) (none after old : List ℕ) → PutsShortest EncodesDeclarations vs 0 (Some needed) none after →
    count_new ≡ needed → length old < needed → error ≡ 102 → PlacesShortest EncodesDeclarations vs error count_old count_new old old
locals_no_room vs needed error count_old count_new none after old (text, a, puts) count long is =
    no_room EncodesDeclarations vs text error count_old count_new old a (omega (arith, count, puts.0)) (omega (arith, count, long)) is

pub locals_placed : (vs : List WasmLocals) (needed error end count_old count_new : ℕ) (none after old new : List ℕ) → PutsShortest EncodesDeclarations vs 0 (Some needed) none after →
    needed ≤ length old → PutsShortest EncodesDeclarations vs 0 (Some end) old new → count_new ≡ end → error ≡ 0 → PlacesShortest EncodesDeclarations vs error count_old count_new old new
locals_placed vs needed error end count_old count_new none after old new (text, a, puts) fits (other, b, more) count is =
    let same = same_length EncodesDeclarations vs text other a b in
    placed EncodesDeclarations vs other error end count_old count_new old new b more (omega (arith, same, fits, puts.0)) count is

-- A second call can't fail after one that did not.
pub not_twice : (vs : List WasmLocals) (needed : ℕ) (none after : List ℕ) → PutsShortest EncodesDeclarations vs 0 (Some needed) none after → ¬ HasNone EncodesDeclarations vs
not_twice vs needed none after (text, a, puts) = has_some EncodesDeclarations vs text a

pub body_no_room : (vs : List WasmLocals) (operators size : List ℕ) (declared n needed error count_old count_new : ℕ) (none after old : List ℕ) →
    PutsShortest EncodesDeclarations vs 0 (Some declared) none after → n ≡ declared + length operators → Appends (EncodesUnsigned 32) n [] size → needed ≡ length size + n →
    count_new ≡ needed → length old < needed → error ≡ 102 → PlacesShortest (EncodesSized EncodesDeclarations vs) operators error count_old count_new old old
body_no_room vs operators size declared n needed error count_old count_new none after old (text, a, puts) sum b need count long is =
    let whole = sized_shortest EncodesDeclarations vs size text operators n (omega (arith, sum, puts.0)) b a in
    let l = length-append size (text ++ operators) in
    let m = length-append text operators in
    no_room (EncodesSized EncodesDeclarations vs) operators (size ++ (text ++ operators)) error count_old count_new old whole
    (omega (arith, count, need, sum, puts.0, l, m)) (omega (arith, count, long)) is

pub body_placed : (vs : List WasmLocals) (operators size : List ℕ) (declared n error end count_old count_new : ℕ) (none after old new : List ℕ) →
    PutsShortest EncodesDeclarations vs 0 (Some declared) none after → n ≡ declared + length operators → Appends (EncodesUnsigned 32) n [] size → length size + n ≤ length old →
    PutsBetween EncodesDeclarations size vs operators (Some end) old new → count_new ≡ end → error ≡ 0 →
    PlacesShortest (EncodesSized EncodesDeclarations vs) operators error count_old count_new old new
body_placed vs operators size declared n error end count_old count_new none after old new (text, a, puts) sum b fits (other, c, more) count is =
    let same = same_length EncodesDeclarations vs text other a c in
    let whole = sized_shortest EncodesDeclarations vs size other operators n (omega (arith, sum, puts.0, same)) b c in
    let l = length-append size (other ++ operators) in
    let m = length-append other operators in
    placed (EncodesSized EncodesDeclarations vs) operators (size ++ (other ++ operators)) error end count_old count_new old new whole more
    (omega (arith, fits, sum, puts.0, same, l, m)) count is

pub body_too_large : (vs : List WasmLocals) (operators : List ℕ) (declared error count : ℕ) (none after old : List ℕ) → PutsShortest EncodesDeclarations vs 0 (Some declared) none after →
    2 ^ 32 ≤ declared + length operators → error ≡ 112 → PlacesShortest (EncodesSized EncodesDeclarations vs) operators error count count old old
body_too_large vs operators declared error count none after old (text, a, puts) long is =
    none_placed (EncodesSized EncodesDeclarations vs) operators error count old (too_large EncodesDeclarations vs text operators a (omega (arith, long, puts.0))) is

whole_section : (id count n : ℕ) (number entries size : List ℕ) → Appends (EncodesUnsigned 32) count [] number → n ≡ length number + length entries → Appends (EncodesUnsigned 32) n [] size →
    Appends (EncodesSection id count) entries [] (id ∷ (size ++ (number ++ entries)))
whole_section id count n number entries size a sum b = section_shortest id count entries (size ++ (number ++ entries)) (sized_shortest (EncodesUnsigned 32) count size number entries n sum b a)

long_section : (id n : ℕ) (number entries size : List ℕ) → n ≡ length number + length entries → length (id ∷ (size ++ (number ++ entries))) ≡ 1 + length size + n
long_section id n number entries size sum = let l = length-append size (number ++ entries) in let m = length-append number entries in omega (arith, sum, l, m)

pub section_no_room : (id count n error count_old count_new : ℕ) (number entries size old : List ℕ) → Appends (EncodesUnsigned 32) count [] number → n ≡ length number + length entries →
    Appends (EncodesUnsigned 32) n [] size → count_new ≡ 1 + length size + n → length old < count_new → error ≡ 102 →
    PlacesShortest (EncodesSection id count) entries error count_old count_new old old
section_no_room id count n error count_old count_new number entries size old a sum b need long is =
    no_room (EncodesSection id count) entries (id ∷ (size ++ (number ++ entries))) error count_old count_new old (whole_section id count n number entries size a sum b)
    (need ∙ sym (long_section id n number entries size sum)) long is

pub section_placed : (id count n error end count_old count_new : ℕ) (number entries size old new : List ℕ) → Appends (EncodesUnsigned 32) count [] number → n ≡ length number + length entries →
    Appends (EncodesUnsigned 32) n [] size → 1 + length size + n ≤ length old → Puts (id ∷ (size ++ (number ++ entries))) 0 end old new → count_new ≡ end → error ≡ 0 →
    PlacesShortest (EncodesSection id count) entries error count_old count_new old new
section_placed id count n error end count_old count_new number entries size old new a sum b fits puts need is =
    placed (EncodesSection id count) entries (id ∷ (size ++ (number ++ entries))) error end count_old count_new old new (whole_section id count n number entries size a sum b) puts
    (let l = long_section id n number entries size sum in omega (arith, fits, l)) need is

pub section_too_large : (id count error length_old : ℕ) (number entries old : List ℕ) → Appends (EncodesUnsigned 32) count [] number → 2 ^ 32 ≤ length number + length entries → error ≡ 112 →
    PlacesShortest (EncodesSection id count) entries error length_old length_old old old
section_too_large id count error length_old number entries old a long is =
    none_placed (EncodesSection id count) entries error length_old old (no_section id count entries (too_large (EncodesUnsigned 32) count number entries a long)) is
