-- Writing the items of a section.
use Rattle.std.proofs.Common.{◌≡◌, ℕ, zero, suc, ◌+◌, ◌≤◌, ◌^◌, List, [], ◌∷◌, ◌++◌, length, refl, sym, ap, ◌∙◌, arith}
use Rattle.wasm_below.proofs.Numbers.{unsigned_below}
use Rattle.wasm_grammars.specs.Grammar.{Grammar, thing, Encodes}
use Rattle.wasm_grammars.specs.Parts.{u32, more}
use Rattle.wasm_sections.specs.Items.{listed, items}
use Rattle.wasm_write_grammars.specs.Writing.{Writes, HasNone}
use Rattle.wasm_write_grammars.proofs.Owing.{Owes, Only, owes, wrote}
use Rattle.wasm_write_grammars.proofs.WrittenMembers.{more_parts}

-- A list whose members may allocate has the encodings of one whose members do not.
pub to_more : {X : Type 0} (n : ℕ) (g : Grammar X) (xs : List X) (at : ℕ) (text : List ℕ) (v : List X) → Encodes (listed n g xs) at text v → Encodes (more n (thing g) xs) at text v
to_more zero g xs at text v p = p
to_more (suc n) g xs at text v (first, rest, x, e, p, q) = (first, rest, x, e, p, to_more n g (xs ++ x ∷ []) (at + length first) rest v q)

pub of_more : {X : Type 0} (n : ℕ) (g : Grammar X) (xs : List X) (at : ℕ) (text : List ℕ) (v : List X) → Encodes (more n (thing g) xs) at text v → Encodes (listed n g xs) at text v
of_more zero g xs at text v p = p
of_more (suc n) g xs at text v (first, rest, x, e, p, q) = (first, rest, x, e, p, of_more n g (xs ++ x ∷ []) (at + length first) rest v q)

pub only_number : {X : Type 0} (g : Grammar X) (xs : List X) → Only u32 (λ n. listed n g []) xs (length xs)
only_number g xs z place at first after p q =
    let (tail, is, len) = more_parts z (thing g) [] at after xs (to_more z g [] at after xs q) in
    sym len ∙ ap length (sym is)

pub items_starts : {X : Type 0} (g : Grammar X) (xs : List X) (old : List ℕ) {mid : List ℕ} → Writes u32 (length xs) old mid →
    Owes (items g) xs old (more (length xs) (thing g) []) mid
items_starts {X} g xs old {mid} w =
    record {
      appended = o.appended;
      pays = λ new v. o.pays new (record {
        text = v.text;
        appended = v.appended;
        encodes = λ place. of_more (length xs) g [] place v.text xs (v.encodes place);
        shortest = λ place other p. v.shortest place other (to_more (length xs) g [] place other xs p);
      });
      lacks = λ none. o.lacks (λ place text p. none place text (to_more (length xs) g [] place text xs p));
    }
  where
    o : Owes (items g) xs old (listed (length xs) g []) mid
    o = wrote (owes (items g) xs old) (length xs) (only_number g xs) w

pub items_lack : {X : Type 0} (g : Grammar X) (xs : List X) → 2 ^ 32 ≤ length xs → HasNone (items g) xs
items_lack g xs many place text (first, after, n, e, p, q) =
    let below = unsigned_below first 32 n p in
    let (tail, is, len) = more_parts n (thing g) [] (place + length first) after xs (to_more n g [] (place + length first) after xs q) in
    let all : length xs ≡ length tail = ap length is in
    omega (arith, below, all, len, many)
