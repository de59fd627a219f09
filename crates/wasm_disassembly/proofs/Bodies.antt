use Rattle.std.proofs.Common.{◌≡◌, ℕ, List, [], ◌∷◌, ◌++◌, Option, Some, None, refl, sym, subst, ap, ◌∙◌, append_assoc, append-nil}
use Rattle.std.specs.Prelude.{◌&&◌}
use Rattle.std.specs.Io.KnownBytes.{Appends, Keeps}
use Rattle.wasm_operators.specs.below.declared.error.Error.{Error}
use Rattle.wasm_operators.specs.below.FromReader.{EncodesReader}
use Rattle.wasm_operators.specs.below.Source.{Reader, offset_of, end_of, HasRead}
use Rattle.wasm_disassembly.specs.Listing.{BodiesOccur, Refusals, Reported, are_none}

pub body_more : (r : Reader) (bs : List Reader) (mid new b : Reader) → BodiesOccur r bs mid →
    HasRead (EncodesReader mid.features) b mid new → end_of b ≡ offset_of new → BodiesOccur r (bs ++ b ∷ []) new
body_more r [] mid new b same reads placed = (new, subst (λ z. HasRead (EncodesReader z.features) b z new) same reads, placed, refl)
body_more r (c ∷ cs) mid new b (next, first, occurs, others) reads placed = (next, first, occurs, body_more next cs mid new b others reads placed)

pub reported_both : {S : Type 0} (reports : S → ℕ → Error → S → Type 0) (a b : Refusals) (old mid new : S) → Reported reports a old mid → Reported reports b mid new →
    Reported reports (a ++ b) old new
reported_both reports [] b old mid new same more = subst (λ s. Reported reports b s new) same more
reported_both reports (r ∷ a) b old mid new (next, one, others) more = (next, one, reported_both reports a b next mid new others more)

pub none_both : (a b : Refusals) → (are_none a && are_none b) ≡ are_none (a ++ b)
none_both [] b = refl
none_both (r ∷ a) b = refl

pub appends_both : (a b c : Option (List ℕ)) (x y : List ℕ) → Appends a b x → Appends b c y → Appends a c (x ++ y)
appends_both None b c x y p q = tt
appends_both (Some a) None c x y p q = absurd p
appends_both (Some a) (Some b) None x y p q = absurd q
appends_both (Some a) (Some b) (Some c) x y p q = q ∙ ap (λ z. z ++ y) p ∙ append_assoc a x y

pub keeps_both : (a b c : Option (List ℕ)) (x : List ℕ) → Appends a b x → Keeps b c → Appends a c x
keeps_both None b c x p q = tt
keeps_both (Some a) None c x p q = absurd p
keeps_both (Some a) (Some b) None x p q = absurd q
keeps_both (Some a) (Some b) (Some c) x p q = q ∙ p

pub appends_none : (a : Option (List ℕ)) → Appends a a []
appends_none None = tt
appends_none (Some a) = sym (append-nil a)

pub keeps_same : (a : Option (List ℕ)) → Keeps a a
keeps_same None = tt
keeps_same (Some a) = refl
