-- Writing subtypes.
use Rattle.std.proofs.Common.{◌≡◌, ℕ, ◌≤◌, ◌<◌, Bool, true, false, List, [], ◌∷◌, ◌++◌, length, refl, sym, subst, ap, ◌∙◌, arith}
use Rattle.std.proofs.lemmas.Bool.{eqb-true, le-leb}
use Rattle.std.specs.Prelude.{◌==◌, Option, Some, None}
use Rattle.wasm_below.specs.declared.message.Message.{Message}
use Rattle.wasm_below.specs.declared.message.SizeName.TheVariants as size_name
use Rattle.wasm_below.specs.Reference.{max_type_index}
use Rattle.wasm_grammars.specs.Grammar.{Grammar, done, bind, thing, Leads, Encodes}
use Rattle.wasm_grammars.specs.Parts.{byte, u32, size}
use Rattle.wasm_types.specs.declared.composites.CompositeType.{CompositeType}
use Rattle.wasm_types.specs.declared.recursive.SubType.{SubType}
use Rattle.wasm_types.specs.Types.{composite_type, supertype, super_index, within_limit, sub_type, plain_type}
use Rattle.wasm_write_grammars.specs.Writing.{Writes, SizeReason}
use Rattle.wasm_write_grammars.proofs.Owing.{Owes, Only, owes, wrote, led, unled, chosen, other, meets, of_thing, paid}
use Rattle.wasm_encode_sections.proofs.SameValue.{writes_as}
use Rattle.wasm_encode_sections.specs.Subtypes.{is_plain, sub_byte}
use Rattle.wasm_encode_sections.proofs.SubtypeBytes.{only_no_super, only_super, only_sub, sub_byte_leads, sub_byte_final, plain_leads, plain_shorter, plain_whole, not_plain}

pub size_fits : {n : ℕ} {m : Message} → n ≤ 1 → SizeReason 1 size_name.SupertypeIndices n m → ⊥
size_fits le (e, lt) = omega (arith, le, lt)

pub no_super_written : {x : Option ℕ} {old new : List ℕ} → x ≡ None → Writes (size 1 size_name.SupertypeIndices) 0 old new → Writes supertype x old new
no_super_written {x} {old} {new} is w = subst (λ k. Writes supertype k old new) (sym is) (paid (chosen (wrote (owes supertype None old) 0 (λ z place at first after p e. only_no_super z at after e) w) refl) refl)

pub super_written : (index : ℕ) {x : Option ℕ} → x ≡ Some index → index ≤ max_type_index → {old mid new : List ℕ} → Writes (size 1 size_name.SupertypeIndices) 1 old mid →
    Writes u32 index mid new → Writes supertype x old new
super_written index {x} is le {old} {mid} {new} one two =
    let count = other (wrote (owes supertype (Some index) old) 1 (λ z place at first after p e. only_super z at after index p.1 e) one) refl in
    let number = wrote count index (λ z place at first after p (f, r, j, e, (small, (n, j_is)), (m, same)). sym (cc (same, j_is))) two in
    let within : Writes (within_limit index) index new new = paid (meets (owes (within_limit index) index new) (le-leb index max_type_index le)) refl in
    subst (λ k. Writes supertype k old new) (sym is) (paid (wrote number index (λ z place at first after p (m, same). sym (cc same)) (of_thing within)) refl)

-- The parts of a type in full.
abbrev pub in_full : Bool → Option ℕ → CompositeType → SubType
in_full f s t = record { is_final = f; supertype_idx = s; composite_type = t }

abbrev pub after_byte : ℕ → Grammar SubType
after_byte b = bind (thing supertype) (λ s. bind (thing composite_type) (λ t. done (in_full (b == 0x4f) s t)))

pub full_starts : (x : SubType) (old : List ℕ) → is_plain x.is_final x.supertype_idx ≡ false → {b : ℕ} → b ≡ sub_byte x.is_final → {mid : List ℕ} → Writes byte b old mid →
    Owes sub_type x old (after_byte (sub_byte x.is_final)) mid
full_starts x old full same w =
    led (owes sub_type x old) (sub_byte x.is_final) (sub_byte_leads x.is_final)
    (λ c place text lead (a, r, s, e, p, (d, t, ty, f, q, (n, same))). only_sub c lead x.is_final (ap (λ (k : SubType). k.is_final) same))
    (λ place text lead e. not_plain x full place text lead e) (writes_as same w)

pub only_super_of : (b : ℕ) (x : SubType) → Only (thing supertype) (λ s. bind (thing composite_type) (λ t. done (in_full (b == 0x4f) s t))) x x.supertype_idx
only_super_of b x z place at first after p (d, t, ty, f, q, (n, same)) = sym (ap (λ (k : SubType). k.supertype_idx) same)

pub only_type_of : (b : ℕ) (s : Option ℕ) (x : SubType) → Only (thing composite_type) (λ t. done (in_full (b == 0x4f) s t)) x x.composite_type
only_type_of b s x z place at first after p (n, same) = sym (ap (λ (k : SubType). k.composite_type) same)

pub super_starts : (x : SubType) (old : List ℕ) → is_plain x.is_final x.supertype_idx ≡ false → {b : ℕ} → b ≡ sub_byte x.is_final → {mid then : List ℕ} → Writes byte b old mid →
    Writes supertype x.supertype_idx mid then → Owes sub_type x old (bind (thing composite_type) (λ t. done (in_full (sub_byte x.is_final == 0x4f) x.supertype_idx t))) then
super_starts x old full same one two = wrote (full_starts x old full same one) x.supertype_idx (only_super_of (sub_byte x.is_final) x) (of_thing two)

pub full_written : (x : SubType) (old : List ℕ) → is_plain x.is_final x.supertype_idx ≡ false → {b : ℕ} → b ≡ sub_byte x.is_final → {mid then new : List ℕ} → Writes byte b old mid →
    Writes supertype x.supertype_idx mid then → Writes composite_type x.composite_type then new → Writes sub_type x old new
full_written x old full same one two three =
    let last = wrote (super_starts x old full same one two) x.composite_type (only_type_of (sub_byte x.is_final) x.supertype_idx x) (of_thing three) in
    paid last (ap (λ f. in_full f x.supertype_idx x.composite_type) (sub_byte_final x.is_final))

pub plain_starts : (x : SubType) (old : List ℕ) → is_plain x.is_final x.supertype_idx ≡ true → Owes sub_type x old plain_type old
plain_starts x old plain = unled (owes sub_type x old) (λ place text e. plain_leads place text x e) (plain_shorter x plain)

pub only_plain : (x : SubType) → Only composite_type (λ t. done (in_full true None t)) x x.composite_type
only_plain x z place at first after p (n, same) = sym (ap (λ (k : SubType). k.composite_type) same)

pub plain_written : (x : SubType) (old : List ℕ) → is_plain x.is_final x.supertype_idx ≡ true → {new : List ℕ} → Writes composite_type x.composite_type old new →
    Writes sub_type x old new
plain_written x old plain w = paid (wrote (plain_starts x old plain) x.composite_type (only_plain x) w) (plain_whole x plain)
