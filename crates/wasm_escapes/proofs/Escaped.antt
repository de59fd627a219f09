use Rattle.std.proofs.Common.{◌≡◌, ℕ, zero, suc, ◌+◌, ◌/◌, ◌%◌, ◌<◌, Bool, true, false, List, [], ◌∷◌, refl, sym, subst, ap, ◌∙◌, arith, cond}
use Rattle.std.proofs.lemmas.Bool.{ltb-true, ltb-false, false_from_ne_true}
use Rattle.std.specs.Prelude.{flat_map, nat_lt, nat_eq}
use Rattle.std.specs.List.{All}
use Rattle.std.specs.Fmt.{digit_glyph}
use Rattle.std.specs.Str.{IsUtf8, is_utf8}
use Rattle.std.proofs.lemmas.List.Elements.{All-append}
use Rattle.std.proofs.lemmas.Str.{IsUtf8-from_is_utf8, is_utf8-from_IsUtf8}
use borrow.Author.Tests.{eq-eqb}
use Rattle.wasm_escapes.specs.Escapes.{escape, utf8_byte, ascii_byte, utf8_name, escaped, IsShown, AreBytes}

-- ---- the name that is shown

pub in_utf8 : (name shown : List ℕ) → shown ≡ utf8_name name → IsUtf8 shown → shown ≡ escaped name
in_utf8 name shown is utf8 =
    let test = is_utf8-from_IsUtf8 (utf8_name name) (subst IsUtf8 is utf8) in
    is ∙ sym (ap (λ b. cond b (utf8_name name) (flat_map ascii_byte name)) test)

pub in_ascii : (name shown : List ℕ) → shown ≡ utf8_name name → (IsUtf8 shown → ⊥) → flat_map ascii_byte name ≡ escaped name
in_ascii name shown is none =
    let test = false_from_ne_true (is_utf8 (utf8_name name)) (λ yes. none (subst IsUtf8 (sym is) (IsUtf8-from_is_utf8 (utf8_name name) yes))) in
    sym (ap (λ b. cond b (utf8_name name) (flat_map ascii_byte name)) test)

-- ---- it has no control character

all_none : All IsShown []
all_none k d below = absurd (omega (arith, below))

all_more : (x : ℕ) (xs : List ℕ) → IsShown x → All IsShown xs → All IsShown (x ∷ xs)
all_more x xs one others zero d below = one
all_more x xs one others (suc k) d below = others k d (omega (arith, below))

glyph_by : (b : Bool) (d : ℕ) → d < 16 → IsShown (cond b (48 + d) (87 + d))
glyph_by true d small = (omega (arith, small), λ is. absurd (omega (arith, small, is)))
glyph_by false d small = (omega (arith, small), λ is. absurd (omega (arith, small, is)))

escape_shown : (byte : ℕ) → byte < 256 → All IsShown (escape byte)
escape_shown byte small =
    let high : byte / 16 < 16 = omega (arith, small) in
    let low : byte % 16 < 16 = omega arith in
    let first = digit_glyph false (byte / 16) in
    let second = digit_glyph false (byte % 16) in
    let bar : IsShown 92 = (omega arith, λ is. absurd (omega (arith, is))) in
    let last = all_more second [] (glyph_by (nat_lt (byte % 16) 10) (byte % 16) low) all_none in
    let both = all_more first (second ∷ []) (glyph_by (nat_lt (byte / 16) 10) (byte / 16) high) last in
    all_more 92 (first ∷ second ∷ []) bar both

utf8_by : (low delete : Bool) (byte : ℕ) → nat_lt byte 32 ≡ low → nat_eq byte 127 ≡ delete → byte < 256 →
    All IsShown (cond low (escape byte) (cond delete (escape byte) (byte ∷ [])))
utf8_by true delete byte l d small = escape_shown byte small
utf8_by false true byte l d small = escape_shown byte small
utf8_by false false byte l d small =
    all_more byte [] (ltb-false byte 32 l, λ is. absurd (let h : true ≡ false = sym (eq-eqb byte 127 is) ∙ d in cc)) all_none

ascii_by : (low kept : Bool) (byte : ℕ) → nat_lt byte 32 ≡ low → nat_lt byte 127 ≡ kept → byte < 256 →
    All IsShown (cond low (escape byte) (cond kept (byte ∷ []) (escape byte)))
ascii_by true kept byte l k small = escape_shown byte small
ascii_by false false byte l k small = escape_shown byte small
ascii_by false true byte l k small =
    let least = ltb-false byte 32 l in
    let most = ltb-true byte 127 k in
    all_more byte [] (least, λ is. absurd (omega (arith, most, is))) all_none

all_shown : (show : ℕ → List ℕ) → ((byte : ℕ) → byte < 256 → All IsShown (show byte)) → (name : List ℕ) → AreBytes name → All IsShown (flat_map show name)
all_shown show each [] bytes = all_none
all_shown show each (b ∷ bs) bytes =
    All-append IsShown (show b) (flat_map show bs) (each b (bytes zero 0 (omega arith)))
    (all_shown show each bs (λ k d below. bytes (suc k) d (omega (arith, below))))

escaped_by : (test : Bool) (name : List ℕ) → AreBytes name → All IsShown (cond test (utf8_name name) (flat_map ascii_byte name))
escaped_by true name bytes = all_shown utf8_byte (λ b small. utf8_by (nat_lt b 32) (nat_eq b 127) b refl refl small) name bytes
escaped_by false name bytes = all_shown ascii_byte (λ b small. ascii_by (nat_lt b 32) (nat_lt b 127) b refl refl small) name bytes

pub escaped_shown : (name : List ℕ) → AreBytes name → All IsShown (escaped name)
escaped_shown name bytes = escaped_by (is_utf8 (utf8_name name)) name bytes
