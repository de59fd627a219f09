-- The rule of br_table, as the program tests it: by its targets, without taking operands.
use Rattle.std.proofs.Common.{◌≡◌, ℕ, Bool, true, false, if◌then◌else◌, List, [], ◌∷◌, length, Option, Some, None, refl, sym, ap, ◌∙◌}
use Rattle.std.specs.Prelude.{is_some, nat_eq}
use Rattle.std.specs.Option.{option_map, option_and_then}
use Rattle.std.proofs.Math.Dec.{eqb-suc-zero, eqb-zero-suc, eqb-suc-suc}
use Rattle.wasm_typing.specs.declared.value_type.ValueType.TheVariants.{I32}
use Rattle.wasm_typing.specs.Types.{Stack}
use Rattle.wasm_typing.specs.Matching.{TypeOrder, matches}
use Rattle.wasm_typing.specs.Rules.{switches, at, or_invalid}
use Rattle.wasm_typing.specs.Checking.{State, state, pop, take_like, all_match, match_each}
use Rattle.wasm_typing.specs.Steps.{Frame, with_now, labels_of}
use Rattle.wasm_typing.proofs.Stacks.{mapped}
use Rattle.wasm_check_control.specs.State.{by_rule, taken, jumped}
use Rattle.wasm_check_control.specs.Switches.{fits, label_fits, targets_fit, all_at, switch}
use Rattle.wasm_check_control.proofs.Steps.{nothing}

unmapped : {A B : Type 0} (f : A → B) (o : Option A) → option_map f o ≡ None → o ≡ None
unmapped f None e = refl
unmapped f (Some a) e = absurd (cc e)

unchanged : {A B : Type 0} (f : A → B) (o : Option A) → is_some (option_map f o) ≡ is_some o
unchanged f None = refl
unchanged f (Some a) = refl

abbrev counted : Bool → Bool → Bool
counted same b = if same then b else false

by_test : (test same : Bool) (o : Option Stack) (b : Bool) → b ≡ counted same (is_some o) → (if test then b else false) ≡ counted same (is_some (if test then o else None))
by_test true same o b e = e
by_test false true o b e = refl
by_test false false o b e = refl

module _ (O : TypeOrder) where
  -- The operands that are as many as the types of a label match another label if it fits.
  like : (last s rest : Stack) (any : Bool) (vs : Stack) → take_like last rest any ≡ Some vs → all_match O vs s ≡ counted (nat_eq (length s) (length last)) (is_some (pop O s rest any))
  like [] [] rest any vs e = ap (λ x. all_match O x []) (let i : vs ≡ [] = cc e in i)
  like [] (w ∷ s) rest any vs e =
      ap (λ x. all_match O x (w ∷ s)) (let i : vs ≡ [] = cc e in i) ∙ ap (λ b. counted b (is_some (pop O (w ∷ s) rest any))) (sym (eqb-suc-zero (length s)))
  like (l ∷ last) s [] false vs e = absurd (cc e)
  like (l ∷ last) [] [] true vs e = ap (λ x. all_match O x []) (sym (mapped _ (take_like last [] true) vs e).2) ∙ ap (λ b. counted b true) (sym (eqb-zero-suc (length last)))
  like (l ∷ last) (w ∷ s) [] true vs e =
      let m = mapped _ (take_like last [] true) vs e in
      ap (λ x. all_match O x (w ∷ s)) (sym m.2) ∙ like last s [] true m.0 m.1 ∙
      ap (λ b. counted b (is_some (pop O s [] true))) (sym (eqb-suc-suc (length s) (length last)))
  like (l ∷ last) [] (k ∷ rest) any vs e =
      ap (λ x. all_match O x []) (sym (mapped _ (take_like last rest any) vs e).2) ∙ ap (λ b. counted b true) (sym (eqb-zero-suc (length last)))
  like (l ∷ last) (w ∷ s) (k ∷ rest) any vs e =
      let m = mapped _ (take_like last rest any) vs e in
      ap (λ x. all_match O x (w ∷ s)) (sym m.2) ∙ by_test (matches O k w) (nat_eq (length s) (length last)) (pop O s rest any) (all_match O m.0 s) (like last s rest any m.0 m.1) ∙
      ap (λ b. counted b (is_some (if matches O k w then pop O s rest any else None))) (sym (eqb-suc-suc (length s) (length last)))

  -- Where there are too few operands, the label itself does not fit.
  unlike : (last rest : Stack) (any : Bool) → take_like last rest any ≡ None → pop O last rest any ≡ None
  unlike [] rest any e = absurd (cc e)
  unlike (l ∷ last) [] true e = unlike last [] true (unmapped _ (take_like last [] true) e)
  unlike (l ∷ last) [] false e = refl
  unlike (l ∷ last) (k ∷ rest) any e = go (matches O k l) (unlike last rest any (unmapped _ (take_like last rest any) e))
    where
      go : (test : Bool) → pop O last rest any ≡ None → (if test then pop O last rest any else None) ≡ None
      go true h = h
      go false h = refl

  module _ (f : Frame) (outer : List Frame) (last rest : Stack) where
    abbrev left : List Frame
    left = with_now f (state rest f.now.unreachable f.now.set) ∷ outer

    fits_is : (s : Stack) → fits O s left (length last) ≡ counted (nat_eq (length s) (length last)) (is_some (pop O s rest f.now.unreachable))
    fits_is s = ap (counted (nat_eq (length s) (length last))) (unchanged _ (pop O s rest f.now.unreachable))

    targets_from : (vs : Stack) → take_like last rest f.now.unreachable ≡ Some vs → (labels : List Stack) (targets : List ℕ) (others : List Stack) (o : Option Stack) →
        ((ss : List Stack) → all_at labels targets ≡ Some ss → match_each O vs ss ≡ targets_fit O labels targets left (length last)) →
        option_and_then (λ (s : Stack). option_map (λ ss. s ∷ ss) (all_at labels targets)) o ≡ Some others →
        match_each O vs others ≡ (if label_fits O o left (length last) then targets_fit O labels targets left (length last) else false)
    targets_from vs e labels targets others None before h = absurd (cc h)
    targets_from vs e labels targets others (Some s) before h =
        let m = mapped _ (all_at labels targets) others h in
        ap (match_each O vs) (sym m.2) ∙
        ap (λ b. if b then match_each O vs m.0 else false) (like last s rest f.now.unreachable vs e ∙ sym (fits_is s)) ∙
        ap (λ b. if fits O s left (length last) then b else false) (before m.0 m.1)

    targets_are : (vs : Stack) → take_like last rest f.now.unreachable ≡ Some vs → (labels : List Stack) (targets : List ℕ) (others : List Stack) →
        all_at labels targets ≡ Some others → match_each O vs others ≡ targets_fit O labels targets left (length last)
    targets_are vs e labels [] others h = ap (match_each O vs) (let i : others ≡ [] = cc h in i)
    targets_are vs e labels (l ∷ ls) others h = targets_from vs e labels ls others (at labels l) (targets_are vs e labels ls) h

    none_from : (labels : List Stack) (targets : List ℕ) (o : Option Stack) → (all_at labels targets ≡ None → targets_fit O labels targets left (length last) ≡ false) →
        option_and_then (λ (s : Stack). option_map (λ ss. s ∷ ss) (all_at labels targets)) o ≡ None →
        (if label_fits O o left (length last) then targets_fit O labels targets left (length last) else false) ≡ false
    none_from labels targets None before h = refl
    none_from labels targets (Some s) before h = go (fits O s left (length last)) (before (unmapped _ (all_at labels targets) h))
      where
        go : (test : Bool) → targets_fit O labels targets left (length last) ≡ false → (if test then targets_fit O labels targets left (length last) else false) ≡ false
        go true e = e
        go false e = refl

    none_at : (labels : List Stack) (targets : List ℕ) → all_at labels targets ≡ None → targets_fit O labels targets left (length last) ≡ false
    none_at labels [] h = absurd (cc h)
    none_at labels (l ∷ ls) h = none_from labels ls (at labels l) (none_at labels ls) h

    -- The frames after the test of the default target and of the others.
    abbrev tested : Bool → Bool → Option (List Frame)
    tested first others = if first then (if others then Some (jumped left) else None) else None

    abbrev finished : Option State → Option (List Frame)
    finished o = option_map (λ (now : State). with_now f (state now.operands now.unreachable f.now.set) ∷ outer) o

    abbrev choice : List Stack → Stack → Option State
    choice others vs = if all_match O vs last then (if match_each O vs others then Some (state [] true f.now.set) else None) else None

    tested_is : (a b : Bool) → finished (if a then (if b then Some (state [] true f.now.set) else None) else None) ≡ tested a b
    tested_is true true = refl
    tested_is true false = refl
    tested_is false b = refl

    with_others : (labels : List Stack) (targets : List ℕ) (others : List Stack) → all_at labels targets ≡ Some others → (o : Option Stack) → take_like last rest f.now.unreachable ≡ o →
        finished (option_and_then (choice others) o) ≡ tested (fits O last left (length last)) (targets_fit O labels targets left (length last))
    with_others labels targets others h None e =
        ap (λ b. tested b (targets_fit O labels targets left (length last)))
        (sym (fits_is last ∙ ap (λ o. counted (nat_eq (length last) (length last)) (is_some o)) (unlike last rest f.now.unreachable e) ∙ never (nat_eq (length last) (length last))))
      where
        never : (b : Bool) → counted b false ≡ false
        never true = refl
        never false = refl
    with_others labels targets others h (Some vs) e =
        tested_is (all_match O vs last) (match_each O vs others) ∙
        ap (λ b. tested b (match_each O vs others)) (like last last rest f.now.unreachable vs e ∙ sym (fits_is last)) ∙
        ap (tested (fits O last left (length last))) (targets_are vs e labels targets others h)

    without : (labels : List Stack) (targets : List ℕ) → all_at labels targets ≡ None → None ≡ tested (fits O last left (length last)) (targets_fit O labels targets left (length last))
    without labels targets h = sym (ap (tested (fits O last left (length last))) (none_at labels targets h) ∙ go (fits O last left (length last)))
      where
        go : (b : Bool) → tested b false ≡ None
        go true = refl
        go false = refl

  abbrev outcome : List Stack → List ℕ → Stack → List Frame → Option (List Frame)
  outcome labels targets last a = if fits O last a (length last) then (if targets_fit O labels targets a (length last) then Some (jumped a) else None) else None

  rule_from : (labels : List Stack) (targets : List ℕ) (last rest : Stack) (f : Frame) (outer : List Frame) → pop O (I32 ∷ []) f.now.operands f.now.unreachable ≡ Some rest →
      (o : Option (List Stack)) → all_at labels targets ≡ o →
      by_rule O (or_invalid (λ (others : List Stack). switches others last) o) (f ∷ outer) ≡ outcome labels targets last (with_now f (state rest f.now.unreachable f.now.set) ∷ outer)
  rule_from labels targets last rest f outer e None h = without f outer last rest labels targets h
  rule_from labels targets last rest f outer e (Some others) h =
      ap (λ p. finished f outer last rest (option_and_then (λ (r : Stack). option_and_then (choice f outer last rest others) (take_like last r f.now.unreachable)) p)) e ∙
      with_others f outer last rest labels targets others h (take_like last rest f.now.unreachable) refl

  -- The rule once the index is taken, for a default target with a label.
  pub switched : (labels : List Stack) (targets : List ℕ) (default : ℕ) (last : Stack) (old a : List Frame) → at labels default ≡ Some last → taken O (I32 ∷ []) old ≡ Some a →
      by_rule O (switch labels targets default) old ≡ outcome labels targets last a
  switched labels targets default last [] a d e = absurd (cc e)
  switched labels targets default last (f ∷ outer) a d e =
      let m = mapped (λ rest. with_now f (state rest f.now.unreachable f.now.set) ∷ outer) (pop O (I32 ∷ []) f.now.operands f.now.unreachable) a e in
      ap (λ o. by_rule O (or_invalid (λ (s : Stack). or_invalid (λ (others : List Stack). switches others s) (all_at labels targets)) o) (f ∷ outer)) d ∙
      rule_from labels targets last m.0 f outer m.1 (all_at labels targets) refl ∙
      ap (outcome labels targets last) m.2

  no_others : (last : Stack) (f : Frame) (outer : List Frame) → pop O (I32 ∷ []) f.now.operands f.now.unreachable ≡ None → (o : Option (List Stack)) →
      by_rule O (or_invalid (λ (others : List Stack). switches others last) o) (f ∷ outer) ≡ None
  no_others last f outer e None = refl
  no_others last f outer e (Some others) =
      ap (λ p. finished f outer last [] (option_and_then (λ (r : Stack). option_and_then (choice f outer last [] others) (take_like last r f.now.unreachable)) p)) e

  no_index_at : (labels : List Stack) (targets : List ℕ) (o : Option Stack) (old : List Frame) → taken O (I32 ∷ []) old ≡ None →
      by_rule O (or_invalid (λ (s : Stack). or_invalid (λ (others : List Stack). switches others s) (all_at labels targets)) o) old ≡ None
  no_index_at labels targets o [] e = refl
  no_index_at labels targets None (f ∷ outer) e = refl
  no_index_at labels targets (Some last) (f ∷ outer) e = no_others last f outer (unmapped _ (pop O (I32 ∷ []) f.now.operands f.now.unreachable) e) (all_at labels targets)

  -- Without an index, the operator has no type.
  pub no_index : (labels : List Stack) (targets : List ℕ) (default : ℕ) (old : List Frame) → taken O (I32 ∷ []) old ≡ None → by_rule O (switch labels targets default) old ≡ None
  no_index labels targets default old e = no_index_at labels targets (at labels default) old e

  pub no_label : (labels : List Stack) (targets : List ℕ) (default : ℕ) (old : List Frame) → at labels default ≡ None → by_rule O (switch labels targets default) old ≡ None
  no_label labels targets default old e =
      ap (λ o. by_rule O (or_invalid (λ (s : Stack). or_invalid (λ (others : List Stack). switches others s) (all_at labels targets)) o) old) e ∙ nothing O old

-- Operands that are taken leave the labels.
pub same_labels : (O : TypeOrder) (s : Stack) (old a : List Frame) → taken O s old ≡ Some a → labels_of a ≡ labels_of old
same_labels O s [] a e = absurd (cc e)
same_labels O s (f ∷ outer) a e =
    let m = mapped (λ rest. with_now f (state rest f.now.unreachable f.now.set) ∷ outer) (pop O s f.now.operands f.now.unreachable) a e in
    ap labels_of (sym m.2)
