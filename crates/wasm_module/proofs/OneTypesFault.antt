use Rattle.std.proofs.Common.{◌≡◌, ◌<◌, ◌⊎◌, ℕ, List, [], ◌∷◌, length, refl, sym, subst, ap, ◌∙◌, inl, inr, arith}
use Rattle.std.specs.List.{All}
use Rattle.wasm_below.specs.declared.error.Error.{Error}
use Rattle.wasm_below.specs.Fault.{DeterminesRefusal}
use Rattle.wasm_below.specs.Number.{EncodesUnsigned}
use Rattle.wasm_below.specs.Sequence.{PrefixCode}
use Rattle.wasm_below.specs.Source.{Reader, rest, BeginsWith, offset_of, U32Fault, IsRefusal, HasRead}
use Rattle.wasm_module.specs.Types.{EncodesSubType, SubTypeFault, EncodesRecTypeLength, RecTypeLengthFault}
use Rattle.wasm_module.specs.declared.composite.CompositeType.{CompositeType}
use Rattle.wasm_module.specs.declared.composite.CompositeType.TheVariants as composite
use Rattle.wasm_module.specs.Items.{ItemsOccur}
use Rattle.wasm_module.specs.Parameters.{IsKnownType, AreKnownTypes, Announces, RecTypeOccurs, RecTypesOccur, AreTypes}
use Rattle.wasm_module.specs.Refusals.{IsRefusedAs, HasSubTypesTo, SubTypesFault, AnnouncedFault, RecTypeFault, HasTypesTo, TypesLengthFault, TypesFault}
use Rattle.wasm_module.specs.declared.fault.ModuleFault.{ModuleFault}
use Rattle.wasm_module.specs.declared.fault.ModuleFault.TheVariants as fault
use Rattle.wasm_module.proofs.NamedFunctions.{not_both}
use Rattle.wasm_module.proofs.NextItems.{all_at, one_read, one_announced, one_rec_type, more_rec_types, next_rec_type}
use Rattle.wasm_module.proofs.OneFault.{one_error}
use Rattle.wasm_module.proofs.OneListFault.{one_refusal, no_refusal, order, refused_there, next_there, one_place}

abbrev pub IsNotMemory : ModuleFault → Type 0
IsNotMemory f = f ≡ fault.Memory → ⊥

abbrev byte_of : CompositeType → ℕ
byte_of (composite.Other byte) = byte
byte_of _ = 0

module _ (sub : PrefixCode EncodesSubType) where
  other_there : (byte : ℕ) (r after : Reader) → HasRead EncodesSubType (composite.Other byte) r after →
      (x : CompositeType) → (next : Reader) → HasRead EncodesSubType x r next → IsKnownType x → ⊥
  other_there byte r after reads x next reads' known =
      subst (λ t. IsKnownType t) (sym (one_read EncodesSubType sub r after next (composite.Other byte) x reads reads').0) known

  sub_place : (n : ℕ) (r a b : Reader) → HasSubTypesTo n r a → HasSubTypesTo n r b →
      ((x : CompositeType) → (next : Reader) → HasRead EncodesSubType x a next → IsKnownType x → ⊥) →
      ((x : CompositeType) → (next : Reader) → HasRead EncodesSubType x b next → IsKnownType x → ⊥) → a ≡ b
  sub_place n r a b h k stops stops' = one_place EncodesSubType sub IsKnownType r a b h.types k.types h.occur k.occur h.known k.known stops stops'

  refused_or_other : (n : ℕ) (r : Reader) (e : Error) (byte offset : ℕ) → SubTypesFault (fault.Refused e) n r → SubTypesFault (fault.TypeKind byte offset) n r → ⊥
  refused_or_other n r e byte offset (a, h, p) (b, k, at, after, q) =
      let same = sub_place n r a b h k (refused_there EncodesSubType IsKnownType e a p.0) (other_there byte b after q) in
      not_both EncodesSubType e b after (composite.Other byte) (subst (λ z. IsRefusal EncodesSubType e z) same p.0) q

  no_sub_types : (f : ModuleFault) (n : ℕ) (r end : Reader) (types : List CompositeType) → SubTypesFault f n r → IsNotMemory f →
      ItemsOccur EncodesSubType r types end → length types ≡ n → AreKnownTypes types → ⊥
  no_sub_types (fault.Refused e) n r end types (a, h, p) other occur all known =
      let (y, next, reads, is) = next_there EncodesSubType sub IsKnownType r a end h.types types h.occur occur known (subst (λ k. length h.types < k) (sym all) h.fewer) in
      not_both EncodesSubType e a next y p.0 reads
  no_sub_types (fault.TypeKind byte offset) n r end types (a, h, at, after, p) other occur all known =
      let (y, next, reads, is) = next_there EncodesSubType sub IsKnownType r a end h.types types h.occur occur known (subst (λ k. length h.types < k) (sym all) h.fewer) in
      other_there byte a after p y next reads is
  no_sub_types fault.Memory n r end types p other occur all known = other refl
  no_sub_types (fault.NotModule said) n r end types p other occur all known = p
  no_sub_types (fault.ImportKind byte offset) n r end types p other occur all known = p

  module _ (determines : DeterminesRefusal SubTypeFault) where
    of_refused : (n : ℕ) (r : Reader) (e : Error) (g : ModuleFault) → SubTypesFault (fault.Refused e) n r → SubTypesFault g n r → IsNotMemory g → fault.Refused e ≡ g
    of_refused n r e (fault.Refused f) (a, h, p) (b, k, q) other =
        let same = sub_place n r a b h k (refused_there EncodesSubType IsKnownType e a p.0) (refused_there EncodesSubType IsKnownType f b q.0) in
        let shown = determines e.message f.message b e.offset f.offset (subst (λ z. SubTypeFault e.message z e.offset) same p.1) q.1 in
        ap (λ x. fault.Refused x) (one_error e f shown)
    of_refused n r e (fault.TypeKind byte offset) p q other = absurd (refused_or_other n r e byte offset p q)
    of_refused n r e fault.Memory p q other = absurd (other refl)
    of_refused n r e (fault.NotModule said) p q other = absurd q
    of_refused n r e (fault.ImportKind byte offset) p q other = absurd q

    of_kind : (n : ℕ) (r : Reader) (byte offset : ℕ) (g : ModuleFault) → SubTypesFault (fault.TypeKind byte offset) n r → SubTypesFault g n r → IsNotMemory g →
        fault.TypeKind byte offset ≡ g
    of_kind n r byte offset (fault.TypeKind byte' offset') (a, h, at, after, p) (b, k, at', after', q) other =
        let same = sub_place n r a b h k (other_there byte a after p) (other_there byte' b after' q) in
        let reads = subst (λ z. HasRead EncodesSubType (composite.Other byte) z after) same p in
        let bytes : byte ≡ byte' =
        ap byte_of (one_read EncodesSubType sub b after after' (composite.Other byte) (composite.Other byte') reads q).0 in
        ap (λ x. fault.TypeKind x offset) bytes ∙ ap (λ o. fault.TypeKind byte' o) (at ∙ ap offset_of same ∙ sym at')
    of_kind n r byte offset (fault.Refused e) p q other = absurd (refused_or_other n r e byte offset q p)
    of_kind n r byte offset fault.Memory p q other = absurd (other refl)
    of_kind n r byte offset (fault.NotModule said) p q other = absurd q
    of_kind n r byte offset (fault.ImportKind b o) p q other = absurd q

    one_sub_fault : (n : ℕ) (r : Reader) (f g : ModuleFault) → SubTypesFault f n r → SubTypesFault g n r → IsNotMemory f → IsNotMemory g → f ≡ g
    one_sub_fault n r (fault.Refused e) g p q other other' = of_refused n r e g p q other'
    one_sub_fault n r (fault.TypeKind byte offset) g p q other other' = of_kind n r byte offset g p q other'
    one_sub_fault n r fault.Memory g p q other other' = absurd (other refl)
    one_sub_fault n r (fault.NotModule said) g p q other other' = absurd p
    one_sub_fault n r (fault.ImportKind byte offset) g p q other other' = absurd p

announced_there : (e : Error) (n : ℕ) (r first : Reader) → BeginsWith 0x4e (rest r) → IsRefusal EncodesRecTypeLength e r → Announces n r first → ⊥
announced_there e n r first here refused (inl is) = not_both EncodesRecTypeLength e r first n refused is.1
announced_there e n r first here refused (inr not) = not.0 here

no_announced : (f : ModuleFault) (n : ℕ) (r first : Reader) → AnnouncedFault f r → Announces n r first → ⊥
no_announced f n r first p is =
    no_refusal (λ e. BeginsWith 0x4e (rest r) × IsRefusedAs EncodesRecTypeLength RecTypeLengthFault e r)
    (λ e (here, (refused, reported)). announced_there e n r first here refused is) f p

one_announced_fault : DeterminesRefusal RecTypeLengthFault → (f g : ModuleFault) (r : Reader) → AnnouncedFault f r → AnnouncedFault g r → f ≡ g
one_announced_fault determines f g r p q =
    let P : Error → Type 0 = λ e. BeginsWith 0x4e (rest r) × IsRefusedAs EncodesRecTypeLength RecTypeLengthFault e r in
    one_refusal P
    (λ e f (here, (refused, is)) (here', (refused', is')). one_error e f (determines e.message f.message r e.offset f.offset is is')) f g p q

no_length : (f : ModuleFault) (contents first : Reader) (n : ℕ) → TypesLengthFault f contents → HasRead (EncodesUnsigned 32) n contents first → ⊥
no_length f contents first n p counted =
    no_refusal (λ e. IsRefusedAs (EncodesUnsigned 32) U32Fault e contents)
    (λ e refused. not_both (EncodesUnsigned 32) e contents first n refused.0 counted) f p

one_length_fault : DeterminesRefusal U32Fault → (f g : ModuleFault) (contents : Reader) → TypesLengthFault f contents → TypesLengthFault g contents → f ≡ g
one_length_fault u32 f g contents p q =
    let P : Error → Type 0 = λ e. IsRefusedAs (EncodesUnsigned 32) U32Fault e contents in
    one_refusal P (λ e f p q. one_error e f (u32 e.message f.message contents e.offset f.offset p.1 q.1)) f g p q

module _ (rec_type : PrefixCode EncodesRecTypeLength) (sub : PrefixCode EncodesSubType) where
  no_rec_type : (f : ModuleFault) (r : Reader) → RecTypeFault f r → IsNotMemory f → (types : List CompositeType) → (next : Reader) → RecTypeOccurs r types next →
      AreKnownTypes types → ⊥
  no_rec_type f r (inl p) other types next (first, announces, occur) known = no_announced f (length types) r first p announces
  no_rec_type f r (inr (n, first, announces, p)) other types next (first', announces', occur) known =
      let same = one_announced rec_type sub n (length types) r first first' announces announces' in
      no_sub_types sub f n first next types p other (subst (λ z. ItemsOccur EncodesSubType z types next) (sym same.1) occur) (sym same.0) known

  same_rec_types : (r : Reader) (gs hs : List (List CompositeType)) (a b : Reader) → RecTypesOccur r gs a → RecTypesOccur r hs b → length gs ≡ length hs → a ≡ b
  same_rec_types r [] [] a b p q l = p ∙ sym q
  same_rec_types r [] (h ∷ hs) a b p q l = absurd (omega (arith, l))
  same_rec_types r (g ∷ gs) [] a b p q l = absurd (omega (arith, l))
  same_rec_types r (g ∷ gs) (h ∷ hs) a b (n, occurs, others) (n', occurs', others') l =
      let first = one_rec_type rec_type sub r n n' g h occurs occurs' in
      same_rec_types n gs hs a b others (subst (λ z. RecTypesOccur z hs b) (sym first.1) others') (omega (arith, l))

  no_more : (r a b : Reader) (gs hs : List (List CompositeType)) (f : ModuleFault) → RecTypesOccur r gs a → RecTypesOccur r hs b → All AreKnownTypes hs →
      RecTypeFault f a → IsNotMemory f → length gs < length hs → ⊥
  no_more r a b gs hs f occur occur' known p other less =
      let (t, others, next, is, occurs) = more_rec_types rec_type sub r gs hs a b occur occur' less in
      no_rec_type f a p other t next occurs (all_at AreKnownTypes gs t others hs is known)

  place_by : (r a b : Reader) (gs hs : List (List CompositeType)) (f g : ModuleFault) → RecTypesOccur r gs a → RecTypesOccur r hs b → All AreKnownTypes gs →
      All AreKnownTypes hs → RecTypeFault f a → RecTypeFault g b → IsNotMemory f → IsNotMemory g →
      (length gs < length hs) ⊎ ((length gs ≡ length hs) ⊎ (length hs < length gs)) → a ≡ b
  place_by r a b gs hs f g occur occur' known known' p q other other' (inl less) = absurd (no_more r a b gs hs f occur occur' known' p other less)
  place_by r a b gs hs f g occur occur' known known' p q other other' (inr (inl same)) = same_rec_types r gs hs a b occur occur' same
  place_by r a b gs hs f g occur occur' known known' p q other other' (inr (inr more)) = absurd (no_more r b a hs gs g occur' occur known q other' more)

  module _ (numbers : PrefixCode (EncodesUnsigned 32)) where
    pub no_types_fault : (f : ModuleFault) (contents : Reader) (gs : List (List CompositeType)) → TypesFault f contents → IsNotMemory f → AreTypes contents gs →
        All AreKnownTypes gs → ⊥
    no_types_fault f contents gs (inl p) other types known = no_length f contents types.first (length gs) p types.count
    no_types_fault f contents gs (inr (a, h, p)) other types known =
        let (t, others, next, is, occurs) = next_rec_type rec_type sub numbers contents h.first a h.announced h.rec_types gs h.count h.occur h.fewer types in
        no_rec_type f a p other t next occurs (all_at AreKnownTypes h.rec_types t others gs is known)

    types_place : (contents a b : Reader) (f g : ModuleFault) → HasTypesTo contents a → HasTypesTo contents b → RecTypeFault f a → RecTypeFault g b →
        IsNotMemory f → IsNotMemory g → a ≡ b
    types_place contents a b f g h k p q other other' =
        let same = (one_read (EncodesUnsigned 32) numbers contents h.first k.first h.announced k.announced h.count k.count).1 in
        place_by h.first a b h.rec_types k.rec_types f g h.occur (subst (λ z. RecTypesOccur z k.rec_types b) (sym same) k.occur) h.known k.known p q other other'
        (order (length h.rec_types) (length k.rec_types))

    module _ (u32 : DeterminesRefusal U32Fault) (types : DeterminesRefusal SubTypeFault) (lengths : DeterminesRefusal RecTypeLengthFault) where
      one_rec_fault : (f g : ModuleFault) (r : Reader) → RecTypeFault f r → RecTypeFault g r → IsNotMemory f → IsNotMemory g → f ≡ g
      one_rec_fault f g r (inl p) (inl q) other other' = one_announced_fault lengths f g r p q
      one_rec_fault f g r (inl p) (inr (m, first, announces, q)) other other' = absurd (no_announced f m r first p announces)
      one_rec_fault f g r (inr (n, first, announces, p)) (inl q) other other' = absurd (no_announced g n r first q announces)
      one_rec_fault f g r (inr (n, first, announces, p)) (inr (m, first', announces', q)) other other' =
          let same = one_announced rec_type sub n m r first first' announces announces' in
          let here = subst (λ z. SubTypesFault f m z) same.1 (subst (λ k. SubTypesFault f k first) same.0 p) in
          one_sub_fault sub types m first' f g here q other other'

      pub one_types_fault : (f g : ModuleFault) (contents : Reader) → TypesFault f contents → TypesFault g contents → IsNotMemory f → IsNotMemory g → f ≡ g
      one_types_fault f g contents (inl p) (inl q) other other' = one_length_fault u32 f g contents p q
      one_types_fault f g contents (inl p) (inr (b, k, q)) other other' = absurd (no_length f contents k.first k.announced p k.count)
      one_types_fault f g contents (inr (a, h, p)) (inl q) other other' = absurd (no_length g contents h.first h.announced q h.count)
      one_types_fault f g contents (inr (a, h, p)) (inr (b, k, q)) other other' =
          let same = types_place contents a b f g h k p q other other' in
          one_rec_fault f g b (subst (λ z. RecTypeFault f z) same p) q other other'
