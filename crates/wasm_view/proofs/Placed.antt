use Rattle.std.proofs.Common.{◌≡◌, ℕ, ◌-◌, ◌≤◌, ◌<◌, List, [], ◌∷◌, ◌++◌, length, drop, set, zero, suc, refl, sym, ap, subst, ◌∙◌, arith, length-append, Some}
use Rattle.wasm_below.specs.declared.types.ValType.{ValType}
use Rattle.wasm_instr.specs.declared.operator.Operator.{Operator}
use Rattle.wasm_instr.specs.declared.operator.Operator.TheVariants as operator
use Rattle.wasm_view.specs.Members.{type_of}
use Rattle.wasm_view.specs.declared.members.WasmType.{WasmType}
use Rattle.wasm_view.specs.Lists.{written, types_of, PlacesOne, ReturnsMembers}
use Rattle.std.proofs.lemmas.List.{drop_all}

pub written_none : {X : Type 0} (old : List X) → written [] old ≡ old
written_none [] = refl
written_none (x ∷ xs) = refl

pub written_length : {X : Type 0} (items room : List X) → length (written items room) ≡ length room
written_length items [] = refl
written_length [] (y ∷ ys) = refl
written_length (x ∷ xs) (y ∷ ys) = ap suc (written_length xs ys)

pub written_one : {X : Type 0} (items room : List X) (x : X) → length items < length room →
    set (written items room) (length items) x ≡ written (items ++ x ∷ []) room
written_one items [] x fits = absurd (omega (arith, fits))
written_one [] (y ∷ ys) x fits = ap (λ list. x ∷ list) (sym (written_none ys))
written_one (i ∷ is) (y ∷ ys) x fits = ap (λ list. i ∷ list) (written_one is ys x (omega (arith, fits)))

pub written_full : {X : Type 0} (items room : List X) (x : X) → length room ≤ length items → written items room ≡ written (items ++ x ∷ []) room
written_full items [] x full = refl
written_full [] (y ∷ ys) x full = absurd (omega (arith, full))
written_full (i ∷ is) (y ∷ ys) x full = ap (λ list. i ∷ list) (written_full is ys x (omega (arith, full)))

drop_more : {X : Type 0} (seen : List X) (x : X) (from : ℕ) → from ≤ length seen → drop from (seen ++ x ∷ []) ≡ drop from seen ++ x ∷ []
drop_more seen x zero within = refl
drop_more [] x (suc n) within = absurd (omega (arith, within))
drop_more (y ∷ ys) x (suc n) within = drop_more ys x n (omega (arith, within))

drop_length : {X : Type 0} (seen : List X) (from : ℕ) → from ≤ length seen → length (drop from seen) ≡ length seen - from
drop_length seen zero within = omega arith
drop_length [] (suc n) within = absurd (omega (arith, within))
drop_length (y ∷ ys) (suc n) within = omega (arith, drop_length ys n (omega (arith, within)), within)

pub member_set : {X : Type 0} (member : X) (index from place : ℕ) (old new : List X) → from ≤ index → place ≡ index - from → place < length old →
    new ≡ set old place member → PlacesOne member index from old new
member_set member index from place old new after at within put seen base is placed =
    let there : from ≤ length seen = omega (arith, after, is) in
    let n : place ≡ length (drop from seen) = omega (arith, at, is, drop_length seen from there) in
    let fits : length (drop from seen) < length base = omega (arith, within, n, ap length placed, written_length (drop from seen) base) in
    put ∙ ap (λ list. set list place member) placed ∙ ap (λ m. set (written (drop from seen) base) m member) n ∙
    written_one (drop from seen) base member fits ∙ ap (λ list. written list base) (sym (drop_more seen member from there))

pub member_after : {X : Type 0} (member : X) (index from place : ℕ) (old : List X) → from ≤ index → place ≡ index - from → length old ≤ place →
    PlacesOne member index from old old
member_after member index from place old after at full seen base is placed =
    let there : from ≤ length seen = omega (arith, after, is) in
    let past : length base ≤ length (drop from seen) =
    omega (arith, full, at, is, drop_length seen from there, ap length placed, written_length (drop from seen) base) in
    placed ∙ written_full (drop from seen) base member past ∙ ap (λ list. written list base) (sym (drop_more seen member from there))

pub member_before : {X : Type 0} (member : X) (index from : ℕ) (old : List X) → index < from → PlacesOne member index from old old
member_before member index from old before seen base is placed =
    let more : length (seen ++ member ∷ []) ≤ from = omega (arith, before, is, length-append seen (member ∷ [])) in
    placed ∙ ap (λ list. written list base) (drop_all from seen (omega (arith, before, is)) ∙ sym (drop_all from (seen ++ member ∷ []) more))

pub none_placed : {X : Type 0} (from : ℕ) (base : List X) → base ≡ written (drop from []) base
none_placed zero base = sym (written_none base)
none_placed (suc n) base = sym (written_none base)

pub lone_placed : (op : Operator) (ty : ValType) (from : ℕ) (plain : WasmType) (base new : List WasmType) → op ≡ operator.TypedSelect ty → plain ≡ type_of ty →
    PlacesOne plain 0 from base new → ReturnsMembers (types_of op) from base (Some 1) new
lone_placed op ty from plain base new is same one =
    let placed = one [] base refl (none_placed from base) ∙ ap (λ p. written (drop from (p ∷ [])) base) same in
    subst (λ o. ReturnsMembers (types_of o) from base (Some 1) new) (sym is) (1, refl, (refl, placed))
