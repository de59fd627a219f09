use Rattle.std.proofs.Common.{ℕ, List, [], ◌++◌, Option, Some, None, sym, subst, ap, ◌∙◌, append_assoc, append-nil}
use Rattle.std.specs.Io.KnownBytes.{Appends}

pub appends_none : (a : Option (List ℕ)) → Appends a a []
appends_none None = tt
appends_none (Some a) = sym (append-nil a)

pub appends_both : (a b c : Option (List ℕ)) (x y : List ℕ) → Appends a b x → Appends b c y → Appends a c (x ++ y)
appends_both None b c x y p q = tt
appends_both (Some a) None c x y p q = absurd p
appends_both (Some a) (Some b) None x y p q = absurd q
appends_both (Some a) (Some b) (Some c) x y p q = q ∙ ap (λ z. z ++ y) p ∙ append_assoc a x y

pub appends_three : (a b c : Option (List ℕ)) (x y z : List ℕ) → Appends a b (x ++ y) → Appends b c z → Appends a c (x ++ (y ++ z))
appends_three a b c x y z p q = subst (Appends a c) (append_assoc x y z) (appends_both a b c (x ++ y) z p q)
