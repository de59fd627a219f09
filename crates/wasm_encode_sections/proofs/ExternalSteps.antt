-- Writing external types, texts and exports.
use Rattle.std.proofs.Common.{◌≡◌, ◌≢◌, ℕ, zero, suc, ◌+◌, ◌≤◌, ◌<◌, inl, inr, Bool, true, false, List, [], ◌∷◌, ◌++◌, length, refl, sym, subst, ap, ◌∙◌, arith}
use Rattle.std.proofs.lemmas.Bool.{le-leb, leb-true, false≢true}
use Rattle.std.specs.Prelude.{leb}
use Rattle.std.specs.Str.{is_utf8}
use Rattle.wasm_below.specs.declared.malformed.Malformed.TheVariants as malformed
use Rattle.wasm_grammars.specs.Grammar.{Grammar, done, bind, thing, choose, Encodes}
use Rattle.wasm_grammars.specs.Blocks.{block}
use Rattle.wasm_below.specs.declared.message.Message.TheVariants as message
use Rattle.wasm_grammars.specs.Parts.{byte, u32, val_type, fail_before}
use Rattle.wasm_externals.specs.declared.export.Export.{Export}
use Rattle.wasm_externals.specs.declared.external.ExternalKind.{ExternalKind}
use Rattle.wasm_externals.specs.declared.external.ExternalKind.TheVariants as kind
use Rattle.wasm_externals.specs.declared.global_type.GlobalType.{GlobalType}
use Rattle.wasm_externals.specs.declared.tag_type.TagKind.{TagKind}
use Rattle.wasm_externals.specs.declared.tag_type.TagKind.TheVariants as tag
use Rattle.wasm_externals.specs.declared.tag_type.TagType.{TagType}
use Rattle.wasm_externals.specs.Externals.{kind_at, external_kind, export}
use Rattle.wasm_externals.specs.Flags.{flags, has_flag}
use Rattle.wasm_externals.specs.Globals.{global_type, tag_type}
use Rattle.wasm_externals.specs.Texts.{max_text_size, text_size, text}
use Rattle.wasm_write_grammars.specs.Writing.{Writes, HasNone}
use Rattle.wasm_write_grammars.proofs.Owing.{Owes, Only, owes, wrote, meets, chosen, of_thing, paid, block_written}
use Rattle.wasm_encode_sections.specs.Flags.{flag_byte}
use Rattle.wasm_encode_sections.proofs.InnerBytes.{sides}
use Rattle.wasm_encode_sections.proofs.FlagBytes.{flag_bits, only_two, two_small, flags_small, flags_written}

-- ---- kinds

abbrev pub kind_byte : ExternalKind → ℕ
kind_byte kind.Func = 0
kind_byte kind.Table = 1
kind_byte kind.Memory = 2
kind_byte kind.Global = 3
kind_byte kind.Tag = 4

only_kind_byte : (b : ℕ) → b ≤ 4 → b ≡ kind_byte (kind_at b)
only_kind_byte zero le = refl
only_kind_byte (suc zero) le = refl
only_kind_byte (suc (suc zero)) le = refl
only_kind_byte (suc (suc (suc zero))) le = refl
only_kind_byte (suc (suc (suc (suc zero)))) le = refl
only_kind_byte (suc (suc (suc (suc (suc b))))) le = absurd (omega (arith, le))

kind_small : (k : ExternalKind) → kind_byte k ≤ 4
kind_small kind.Func = omega arith
kind_small kind.Table = omega arith
kind_small kind.Memory = omega arith
kind_small kind.Global = omega arith
kind_small kind.Tag = omega arith

kind_back : (k : ExternalKind) → k ≡ kind_at (kind_byte k)
kind_back kind.Func = refl
kind_back kind.Table = refl
kind_back kind.Memory = refl
kind_back kind.Global = refl
kind_back kind.Tag = refl

pub kind_written : (k : ExternalKind) {x : ExternalKind} → x ≡ k → {old new : List ℕ} → Writes byte (kind_byte k) old new → Writes external_kind x old new
kind_written k {x} is {old} {new} w =
    let first = wrote (owes external_kind k old) (kind_byte k)
    (λ z place at first after p (small, (none, same)). only_kind_byte z (leb-true z 4 small) ∙ ap kind_byte (sym same)) w in
    subst (λ z. Writes external_kind z old new) (sym is) (paid (meets first (le-leb (kind_byte k) 4 (kind_small k))) (kind_back k))

-- ---- globals and tags

pub only_content : (x : GlobalType) → Only val_type (λ t. bind (thing (flags 3 malformed.GlobalFlags)) (λ b. done (record { content_type = t; mutable = has_flag b 1; shared = has_flag b 2 }))) x x.content_type
only_content x z place at first after p (a, c, b, e, q, (none, same)) = sym (ap (λ (t : GlobalType). t.content_type) same)

pub global_written : (x : GlobalType) (old : List ℕ) {b : ℕ} → b ≡ flag_byte x.mutable x.shared false false → {mid new : List ℕ} → Writes val_type x.content_type old mid →
    Writes byte b mid new → Writes global_type x old new
global_written x old {b} is {mid} {new} one two =
    let byte_is = flag_byte x.mutable x.shared false false in
    let content = wrote (owes global_type x old) x.content_type (only_content x) one in
    let flagged = flags_written 3 malformed.GlobalFlags byte_is (two_small x.mutable x.shared) (subst (λ z. Writes byte z mid new) is two) in
    let last = wrote content byte_is
    (λ z place at first after p (none, same). only_two z x.mutable x.shared (flags_small 3 malformed.GlobalFlags place first z p)
    (sym (ap (λ (t : GlobalType). t.mutable) same)) (sym (ap (λ (t : GlobalType). t.shared) same))) (of_thing flagged) in
    let bits = flag_bits x.mutable x.shared false false in
    paid last (ap (λ k. record { content_type = x.content_type; mutable = k; shared = x.shared }) (sym bits.0) ∙
    ap (λ k. record { content_type = x.content_type; mutable = has_flag byte_is 1; shared = k }) (sym bits.1))

tag_kind : (k : TagKind) → k ≡ tag.Exception
tag_kind tag.Exception = refl

zero_flags : (z : ℕ) → z ≤ 0 → z ≡ 0
zero_flags z le = omega (arith, le)

pub tag_starts : (x : TagType) (old : List ℕ) {mid : List ℕ} → Writes byte 0 old mid →
    Owes tag_type x old (bind u32 (λ index. done (record { kind = tag.Exception; func_type_idx = index }))) mid
tag_starts x old w =
    wrote (owes tag_type x old) 0 (λ z place at first after p e. zero_flags z (flags_small 0 malformed.TagAttributes place first z p))
    (of_thing (flags_written 0 malformed.TagAttributes 0 (omega arith) w))

pub tag_written : (x : TagType) (old : List ℕ) {mid new : List ℕ} → Writes byte 0 old mid → Writes u32 x.func_type_idx mid new → Writes tag_type x old new
tag_written x old one two =
    paid (wrote (tag_starts x old one) x.func_type_idx (λ z place at first after p (none, same). sym (ap (λ (t : TagType). t.func_type_idx) same)) two)
    (ap (λ k. record { kind = k; func_type_idx = x.func_type_idx }) (tag_kind x.kind))

-- ---- texts

abbrev pub valid : List ℕ → Grammar (List ℕ)
valid bytes = choose (is_utf8 bytes) (done bytes) (fail_before (message.Malformed malformed.Utf8))

valid_is : (bytes : List ℕ) (place : ℕ) (t x : List ℕ) → Encodes (valid bytes) place t x → bytes ≡ x
valid_is bytes place t x p =
    elim (sides (is_utf8 bytes) p) [
      | inl (is, (none, same)) ↦ sym same
      | inr (unequal, q) ↦ absurd q
    ]

abbrev pub fits : ℕ → Grammar ℕ
fits n = choose (leb n max_text_size) (done n) (fail_before (message.Malformed malformed.StringSize))

fits_is : (n place : ℕ) (t : List ℕ) (m : ℕ) → Encodes (fits n) place t m → (n ≡ m) × (m ≤ max_text_size)
fits_is n place t m p =
    elim (sides (leb n max_text_size) p) [
      | inl (is, (none, same)) ↦ (sym same, leb-true m max_text_size (subst (λ k. leb k max_text_size ≡ true) (sym same) is))
      | inr (unequal, q) ↦ absurd q
    ]

pub size_written : (n : ℕ) → n ≤ max_text_size → {old new : List ℕ} → Writes u32 n old new → Writes text_size n old new
size_written n le {old} w =
    paid (chosen (wrote (owes text_size n old) n (λ z place at first after p q. (fits_is z at after n q).0) w) (le-leb n max_text_size le)) refl

size_of : (place : ℕ) (t : List ℕ) (n : ℕ) → Encodes text_size place t n → n ≤ max_text_size
size_of place t n (first, after, z, e, p, q) = (fits_is z (place + length first) after n q).1

pub only_length : (bytes : List ℕ) → Only (thing text_size) (λ n. bind (block n) valid) bytes (length bytes)
only_length bytes z place at first after p (a, c, b, e, (same, size), q) = sym size ∙ ap length (same ∙ valid_is b (at + length a) c bytes q)

pub text_starts : (bytes old : List ℕ) → length bytes ≤ max_text_size → {mid : List ℕ} → Writes u32 (length bytes) old mid →
    Owes text bytes old (bind (block (length bytes)) valid) mid
text_starts bytes old le w = wrote (owes text bytes old) (length bytes) (only_length bytes) (of_thing (size_written (length bytes) le w))

pub text_written : (bytes old : List ℕ) → length bytes ≤ max_text_size → is_utf8 bytes ≡ true → {mid new : List ℕ} → Writes u32 (length bytes) old mid →
    Writes (block (length bytes)) bytes mid new → Writes text bytes old new
text_written bytes old le valid_utf8 one two =
    paid (chosen (wrote (text_starts bytes old le one) bytes (λ z place at first after p q. valid_is z at after bytes q) two) valid_utf8) refl

pub text_lacks : (bytes : List ℕ) → max_text_size < length bytes → HasNone text bytes
text_lacks bytes many place t (first, after, n, e, p, (a, c, b, f, (same, size), q)) =
    let small = size_of place first n p in
    let is = sym size ∙ ap length (same ∙ valid_is b (place + length first + length a) c bytes q) in
    omega (arith, small, is, many)

-- ---- exports

pub only_name : (x : Export) → Only (thing text) (λ n. bind (thing external_kind) (λ k. bind u32 (λ i. done (record { name = n; kind = k; index = i })))) x x.name
only_name x z place at first after p (a, b, k, e, q, (c, d, i, f, r, (none, same))) = sym (ap (λ (t : Export). t.name) same)

pub only_kind : (x : Export) (n : List ℕ) → Only (thing external_kind) (λ k. bind u32 (λ i. done (record { name = n; kind = k; index = i }))) x x.kind
only_kind x n z place at first after p (c, d, i, f, r, (none, same)) = sym (ap (λ (t : Export). t.kind) same)

pub only_index : (x : Export) (n : List ℕ) (k : ExternalKind) → Only u32 (λ i. done (record { name = n; kind = k; index = i })) x x.index
only_index x n k z place at first after p (none, same) = sym (ap (λ (t : Export). t.index) same)
