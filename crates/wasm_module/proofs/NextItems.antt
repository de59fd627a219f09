-- What follows some items of a list.
use Rattle.std.proofs.Common.{◌≡◌, ℕ, ◌+◌, ◌<◌, List, [], ◌∷◌, ◌++◌, length, Result, Ok, Err, refl, sym, subst, ap, ◌∙◌, inl, inr, arith}
use Rattle.std.specs.List.{All}
use Rattle.std.proofs.lemmas.List.Elements.{All-head, All-tail}
use Rattle.wasm_below.specs.declared.error.Error.{Error}
use Rattle.wasm_below.specs.Number.{EncodesUnsigned}
use Rattle.wasm_below.specs.Sequence.{PrefixCode}
use Rattle.wasm_below.specs.Source.{Reader, rest, at_position, BeginsWith, IsRefusal, HasRead, Reads}
use Rattle.wasm_module.specs.Types.{EncodesSubType, EncodesRecTypeLength, RecTypeLengthFault}
use Rattle.wasm_module.specs.declared.composite.CompositeType.{CompositeType}
use Rattle.wasm_module.specs.Items.{ItemsOccur, IsList}
use Rattle.wasm_module.specs.Parameters.{Announces, RecTypeOccurs, RecTypesOccur, AreTypes}
use Rattle.wasm_module.proofs.NamedFunctions.{not_both}

pub all_at : {X : Type 0} (P : X → Type 0) (xs : List X) (y : X) (zs ys : List X) → ys ≡ xs ++ y ∷ zs → All P ys → P y
all_at {X} P xs y zs ys is all = at xs (subst (All P) is all)
  where
    at : (xs : List X) → All P (xs ++ y ∷ zs) → P y
    at [] h = All-head P y zs h
    at (x ∷ xs) h = at xs (All-tail P x (xs ++ y ∷ zs) h)

pub one_read : {X : Type 0} (P : List ℕ → X → Type 0) → PrefixCode P → (r a b : Reader) (x y : X) → HasRead P x r a → HasRead P y r b →
    (x ≡ y) × (a ≡ b)
one_read P code r a b x y (text, is, takes) (other, is_other, takes_other) =
    let same = code text other (rest a) (rest b) x y is is_other (sym takes.parts ∙ takes_other.parts) in
    (same.1, takes.moved ∙ ap (λ (z : List ℕ). at_position r (r.position + length z)) same.0 ∙ sym takes_other.moved)

module _ {X : Type 0} (P : List ℕ → X → Type 0) (code : PrefixCode P) where
  pub same_items : (r : Reader) (xs ys : List X) (mid end : Reader) → ItemsOccur P r xs mid → ItemsOccur P r ys end → length xs ≡ length ys →
      (xs ≡ ys) × (mid ≡ end)
  same_items r [] [] mid end a b l = (refl, a ∙ sym b)
  same_items r [] (y ∷ ys) mid end a b l = absurd (omega (arith, l))
  same_items r (x ∷ xs) [] mid end a b l = absurd (omega (arith, l))
  same_items r (x ∷ xs) (y ∷ ys) mid end (n, reads, others) (n', reads', others') l =
      let first = one_read P code r n n' x y reads reads' in
      let more = same_items n xs ys mid end others (subst (λ z. ItemsOccur P z ys end) (sym first.1) others') (omega (arith, l)) in
      (ap (λ z. z ∷ xs) first.0 ∙ ap (λ zs. y ∷ zs) more.0, more.1)

  pub more_items : (r : Reader) (xs ys : List X) (mid end : Reader) → ItemsOccur P r xs mid → ItemsOccur P r ys end → length xs < length ys →
      (y : X) × (zs : List X) × (next : Reader) × (ys ≡ xs ++ y ∷ zs) × HasRead P y mid next
  more_items r xs [] mid end a b l = absurd (omega (arith, l))
  more_items r [] (y ∷ ys) mid end a (next, reads, others) l = (y, ys, next, refl, subst (λ z. HasRead P y z next) (sym a) reads)
  more_items r (x ∷ xs) (y ∷ ys) mid end (n, reads, others) (n', reads', others') l =
      let first = one_read P code r n n' x y reads reads' in
      let (z, zs, next, is, read) = more_items n xs ys mid end others (subst (λ r. ItemsOccur P r ys end) (sym first.1) others') (omega (arith, l)) in
      (z, zs, next, ap (λ v. y ∷ v) is ∙ ap (λ v. v ∷ (xs ++ z ∷ zs)) (sym first.0), read)

  pub next_item : PrefixCode (EncodesUnsigned 32) → (contents first mid : Reader) (n : ℕ) (xs ys : List X) → HasRead (EncodesUnsigned 32) n contents first →
      ItemsOccur P first xs mid → length xs < n → IsList P contents ys →
      (y : X) × (zs : List X) × (next : Reader) × (ys ≡ xs ++ y ∷ zs) × HasRead P y mid next
  next_item numbers contents first mid n xs ys counted occur fewer list =
      let same = one_read (EncodesUnsigned 32) numbers contents first list.first n (length ys) counted list.count in
      more_items first xs ys mid list.end occur (subst (λ z. ItemsOccur P z ys list.end) (sym same.1) list.occur) (subst (λ k. length xs < k) same.0 fewer)

  pub one_list : PrefixCode (EncodesUnsigned 32) → (contents : Reader) (xs ys : List X) → IsList P contents xs → IsList P contents ys → xs ≡ ys
  one_list numbers contents xs ys a b =
      let same = one_read (EncodesUnsigned 32) numbers contents a.first b.first (length xs) (length ys) a.count b.count in
      (same_items a.first xs ys a.end b.end a.occur (subst (λ z. ItemsOccur P z ys b.end) (sym same.1) b.occur) same.0).0

  pub none_refused : PrefixCode (EncodesUnsigned 32) → (contents first mid : Reader) (n : ℕ) (xs ys : List X) (e : Error) →
      HasRead (EncodesUnsigned 32) n contents first → ItemsOccur P first xs mid → length xs < n → IsRefusal P e mid → IsList P contents ys → ⊥
  none_refused numbers contents first mid n xs ys e counted occur fewer refused list =
      let (y, zs, next, is, reads) = next_item numbers contents first mid n xs ys counted occur fewer list in not_both P e mid next y refused reads

abbrev read : Result ℕ Error → Type 0
read (Ok n) = Unit {0}
read (Err e) = ⊥

abbrev same : Result ℕ Error → Result ℕ Error → Type 0
same a b = a ≡ b

pub none_announced : (n : ℕ) (e : Error) (r new first : Reader) → (BeginsWith 0x4e (rest r) → Reads EncodesRecTypeLength RecTypeLengthFault (Err e) r new) →
    ((BeginsWith 0x4e (rest r) → ⊥) → same (Err e) (Ok 1) × (new ≡ r)) → Announces n r first → ⊥
none_announced n e r new first rec_type one (inl is) = not_both EncodesRecTypeLength e r first n (rec_type is.0).1 is.1
none_announced n e r new first rec_type one (inr not) = subst read (sym (one not.0).0) tt

module _ (rec_type : PrefixCode EncodesRecTypeLength) (sub : PrefixCode EncodesSubType) where
  pub one_announced : (n m : ℕ) (r a b : Reader) → Announces n r a → Announces m r b → (n ≡ m) × (a ≡ b)
  one_announced n m r a b (inl p) (inl q) = one_read EncodesRecTypeLength rec_type r a b n m p.1 q.1
  one_announced n m r a b (inl p) (inr q) = absurd (q.0 p.0)
  one_announced n m r a b (inr p) (inl q) = absurd (p.0 q.0)
  one_announced n m r a b (inr p) (inr q) = (p.1 ∙ sym q.1, p.2 ∙ sym q.2)

  pub one_rec_type : (r mid end : Reader) (g h : List CompositeType) → RecTypeOccurs r g mid → RecTypeOccurs r h end → (g ≡ h) × (mid ≡ end)
  one_rec_type r mid end g h (first, announces, occur) (first', announces', occur') =
      let same = one_announced (length g) (length h) r first first' announces announces' in
      same_items EncodesSubType sub first g h mid end occur (subst (λ z. ItemsOccur EncodesSubType z h end) (sym same.1) occur') same.0

  pub more_rec_types : (r : Reader) (gs hs : List (List CompositeType)) (mid end : Reader) → RecTypesOccur r gs mid → RecTypesOccur r hs end → length gs < length hs →
      (h : List CompositeType) × (others : List (List CompositeType)) × (next : Reader) × (hs ≡ gs ++ h ∷ others) × RecTypeOccurs mid h next
  more_rec_types r gs [] mid end a b l = absurd (omega (arith, l))
  more_rec_types r [] (h ∷ hs) mid end a (next, occurs, others) l = (h, hs, next, refl, subst (λ z. RecTypeOccurs z h next) (sym a) occurs)
  more_rec_types r (g ∷ gs) (h ∷ hs) mid end (n, occurs, others) (n', occurs', others') l =
      let first = one_rec_type r n n' g h occurs occurs' in
      let (i, is, next, parts, occur) = more_rec_types n gs hs mid end others (subst (λ r. RecTypesOccur r hs end) (sym first.1) others') (omega (arith, l)) in
      (i, is, next, ap (λ v. h ∷ v) parts ∙ ap (λ v. v ∷ (gs ++ i ∷ is)) (sym first.0), occur)

  pub next_rec_type : PrefixCode (EncodesUnsigned 32) → (contents first mid : Reader) (n : ℕ) (gs hs : List (List CompositeType)) →
      HasRead (EncodesUnsigned 32) n contents first → RecTypesOccur first gs mid → length gs < n → AreTypes contents hs →
      (h : List CompositeType) × (others : List (List CompositeType)) × (next : Reader) × (hs ≡ gs ++ h ∷ others) × RecTypeOccurs mid h next
  next_rec_type numbers contents first mid n gs hs counted occur fewer types =
      let same = one_read (EncodesUnsigned 32) numbers contents first types.first n (length hs) counted types.count in
      more_rec_types first gs hs mid types.end occur (subst (λ z. RecTypesOccur z hs types.end) (sym same.1) types.occur) (subst (λ k. length gs < k) same.0 fewer)
