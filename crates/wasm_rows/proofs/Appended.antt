-- Texts that are appended, completely or in part.
use Rattle.std.proofs.Common.{◌≡◌, ℕ, suc, ◌+◌, List, [], ◌++◌, Option, Some, None, sym, subst, ap, ◌∙◌, append_assoc, append-nil, take, drop, take-append-drop}
use Rattle.std.specs.Io.KnownBytes.{Appends, Keeps}
use Rattle.wasm_rows.specs.declared.fault.Fault.{Fault}
use Rattle.wasm_rows.specs.declared.fault.Fault.TheVariants as fault
use Rattle.wasm_rows.specs.Rows.{row_at, rows_from}
use Rattle.wasm_rows.specs.Writing.{IsHalt, AppendsPart, HaltsIn}

pub appends_none : (a : Option (List ℕ)) → Appends a a []
appends_none None = tt
appends_none (Some a) = sym (append-nil a)

pub appends_both : (a b c : Option (List ℕ)) (x y : List ℕ) → Appends a b x → Appends b c y → Appends a c (x ++ y)
appends_both None b c x y p q = tt
appends_both (Some a) None c x y p q = absurd p
appends_both (Some a) (Some b) None x y p q = absurd q
appends_both (Some a) (Some b) (Some c) x y p q = q ∙ ap (λ z. z ++ y) p ∙ append_assoc a x y

pub appends_kept : (a b c : Option (List ℕ)) (x : List ℕ) → Appends a b x → Keeps b c → Appends a c x
appends_kept None b c x p q = tt
appends_kept (Some a) None c x p q = absurd p
appends_kept (Some a) (Some b) None x p q = absurd q
appends_kept (Some a) (Some b) (Some c) x p q = q ∙ p

-- The first bytes of what is left of a text are appended.
pub part_more : (a b c : Option (List ℕ)) (text done left now : List ℕ) (n : ℕ) → text ≡ done ++ left → Appends a b done → Appends b c (take n left) →
    now ≡ drop n left → (more : List ℕ) × (text ≡ more ++ now) × Appends a c more
part_more a b c text done left now n whole before wrote is = (
  done ++ take n left,
  whole ∙ ap (λ z. done ++ z) (sym (take-append-drop n left)) ∙ sym (append_assoc done (take n left) (drop n left)) ∙ ap (λ z. (done ++ take n left) ++ z) (sym is),
  appends_both a b c done (take n left) before wrote,
)

-- Nothing more of a text is appended.
pub part_kept : (a b c : Option (List ℕ)) (text done left now : List ℕ) → text ≡ done ++ left → Appends a b done → Keeps b c → now ≡ left →
    (more : List ℕ) × (text ≡ more ++ now) × Appends a c more
part_kept a b c text done left now whole before kept is = (done, whole ∙ ap (λ z. done ++ z) (sym is), appends_kept a b c done before kept)

-- A text of which a part is appended after others.
pub halts_after : (f : Fault) (a b c : Option (List ℕ)) (done text rest all : List ℕ) → done ++ (text ++ rest) ≡ all → Appends a b done → HaltsIn text f b c →
    IsHalt f × AppendsPart a c all
halts_after (fault.Section e) a b c done text rest all whole before halts = absurd halts
halts_after fault.Memory a b c done text rest all whole before halts =
    (tt, (done, text ++ rest, sym whole, subst (λ z. Appends a z done) (sym halts) before))
halts_after fault.Writing a b c done text rest all whole before (written, left, parts, wrote) = (
  tt,
  (
    done ++ written,
    left ++ rest,
    sym whole ∙ ap (λ z. done ++ (z ++ rest)) parts ∙ ap (λ z. done ++ z) (append_assoc written left rest) ∙ sym (append_assoc done written (left ++ rest)),
    appends_both a b c done written before wrote,
  ),
)

-- A row of which the text is appended after others.
pub row_appended : (a b c : Option (List ℕ)) (n m address k : ℕ) (before bytes done all : List ℕ) → n ≡ suc m → done ++ rows_from n before address bytes k ≡ all →
    Appends a b done → Appends b c (row_at before address bytes k) →
    (more : List ℕ) × (more ++ rows_from m before address bytes (k + 1) ≡ all) × Appends a c more
row_appended a b c n m address k before bytes done all is whole first wrote = (
  done ++ row_at before address bytes k,
  append_assoc done (row_at before address bytes k) (rows_from m before address bytes (k + 1)) ∙ ap (λ j. done ++ rows_from j before address bytes k) (sym is) ∙ whole,
  appends_both a b c done (row_at before address bytes k) first wrote,
)
