use Rattle.std.proofs.Common.{◌≡◌, ℕ, ◌+◌, ◌-◌, ◌*◌, ◌<◌, ◌≤◌, ◌^◌, List, [], ◌∷◌, ◌++◌, length, drop, get_or, refl, sym, subst, ap, ◌∙◌, append_assoc, length-append, length-drop, add-one, arith}
use Rattle.std.proofs.Math.Seq.{drop-cons}
use Rattle.std.proofs.lemmas.Nat.{le_or_l, le_or_r}
use Rattle.std.specs.Prelude.{bit_or}
use Rattle.std.proofs.lemmas.List.{append-nil}
use Rattle.wasm_below.specs.Number.{EncodesUnsigned}
use Rattle.wasm_below.proofs.Numbers.{wide_fits}
use Rattle.wasm_imm.specs.BranchTables.{HasTargets}
use Rattle.wasm_imm.proofs.ListLemmas.{each_both}

pub targets_after : (n m : ℕ) (bytes : List ℕ) (start middle after : ℕ) → HasTargets n bytes start middle → HasTargets m bytes middle after →
    HasTargets (n + m) bytes start after
targets_after n m bytes start middle after a b =
    record {
      text = a.text ++ b.text;
      targets = (
        a.targets.0 ++ b.targets.0,
        (
          omega (arith, length-append a.targets.0 b.targets.0, a.targets.1.0, b.targets.1.0),
          each_both (EncodesUnsigned 32) a.text b.text a.targets.0 b.targets.0 a.targets.1.1 b.targets.1.1,
        ),
      );
      parts = a.parts ∙ ap (λ z. a.text ++ z) b.parts ∙ sym (append_assoc a.text b.text (drop after bytes));
      ends = omega (arith, a.ends, b.ends, length-append a.text b.text);
    }

pub targets_within : (n : ℕ) (bytes : List ℕ) (start after : ℕ) → start ≤ length bytes → HasTargets n bytes start after → after ≤ length bytes
targets_within n bytes start after le h =
    let whole : length bytes - start ≡ length h.text + length (drop after bytes) = sym (length-drop start bytes) ∙ ap length h.parts ∙
    length-append h.text (drop after bytes) in
    omega (arith, h.ends)

-- A number of at most `width` bits starts at position `start` and ends before position `after`.
pub record HasNumber (width : ℕ) (bytes : List ℕ) (start after : ℕ) : Type 0 where
  pub text : List ℕ
  pub value : ℕ
  pub encodes : EncodesUnsigned width text value
  pub parts : drop start bytes ≡ text ++ drop after bytes
  pub ends : after ≡ start + length text

byte_first : (bytes : List ℕ) (start : ℕ) → start < length bytes → drop start bytes ≡ get_or bytes start 0 ∷ drop (start + 1) bytes
byte_first bytes start lt = drop-cons bytes start 0 lt ∙ ap (λ k. get_or bytes start 0 ∷ drop k bytes) (sym (add-one start))

pub last_byte : (width : ℕ) (bytes : List ℕ) (start : ℕ) → start < length bytes → get_or bytes start 0 < 128 → get_or bytes start 0 < 2 ^ width →
    HasNumber width bytes start (start + 1)
last_byte width bytes start lt small fits =
    record {
      text = get_or bytes start 0 ∷ [];
      value = get_or bytes start 0;
      encodes = (small, refl, fits);
      parts = byte_first bytes start lt;
      ends = refl;
    }

byte_before : (width byte : ℕ) (text : List ℕ) (high : ℕ) → 7 < width → 128 ≤ byte → byte < 256 → EncodesUnsigned (width - 7) text high →
    EncodesUnsigned width (byte ∷ text) (128 * high + (byte - 128))
byte_before width byte [] high wide more small p = absurd p
byte_before width byte (c ∷ text) high wide more small p = (wide, more, small, high, omega arith, p)

pub more_bytes : (width : ℕ) (bytes : List ℕ) (start next after : ℕ) → 7 < width → start < length bytes → 128 ≤ get_or bytes start 0 →
    get_or bytes start 0 < 256 → next ≡ start + 1 → HasNumber (width - 7) bytes next after → HasNumber width bytes start after
more_bytes width bytes start next after wide lt more small e h =
    record {
      text = get_or bytes start 0 ∷ h.text;
      value = 128 * h.value + (get_or bytes start 0 - 128);
      encodes = byte_before width (get_or bytes start 0) h.text h.value wide more small h.encodes;
      parts = byte_first bytes start lt ∙ ap (λ k. get_or bytes start 0 ∷ drop k bytes) (sym e) ∙ ap (λ z. get_or bytes start 0 ∷ z) h.parts;
      ends = omega (arith, e, h.ends);
    }

pub is_target : (bytes : List ℕ) (start after end : ℕ) → after ≡ end → HasNumber 32 bytes start after → HasTargets 1 bytes start end
is_target bytes start after end e h =
    subst (HasTargets 1 bytes start) e (record {
      text = h.text;
      targets = (h.value ∷ [], (refl, (h.text, [], sym (append-nil h.text), h.encodes, refl)));
      parts = h.parts;
      ends = h.ends;
    })

pub short_byte : (width : ℕ) (bytes : List ℕ) (start : ℕ) → 7 ≤ width → start < length bytes → get_or bytes start 0 < 128 →
    HasNumber width bytes start (start + 1)
short_byte width bytes start wide lt small = last_byte width bytes start lt small (wide_fits (get_or bytes start 0) width small wide)

pub short_more : (bytes : List ℕ) (start at bits : ℕ) → start ≤ at → at < length bytes → (bits < 128 → HasTargets (at - start) bytes start at) →
    bit_or bits (get_or bytes at 0) < 128 → HasTargets (at + 1 - start) bytes start (at + 1)
short_more bytes start at bits le lt before small =
    let byte = get_or bytes at 0 in
    let first : bits < 128 = omega (arith, le_or_l bits byte) in
    let last : byte < 128 = omega (arith, le_or_r bits byte) in
    let count : at - start + 1 ≡ at + 1 - start = omega arith in
    subst (λ n. HasTargets n bytes start (at + 1)) count
    (targets_after (at - start) 1 bytes start at (at + 1) (before first) (is_target bytes at (at + 1) (at + 1) refl (short_byte 32 bytes at (omega arith) lt last)))
