use Rattle.std.proofs.Common.{◌≡◌, ℕ, ◌+◌, ◌<◌, ◌≤◌, inl, inr, List, length, refl, sym, subst, ap, ◌∙◌, arith, ◌≢◌, ◌⊎◌}
use Rattle.wasm_below.specs.declared.message.Message.{Message}
use Rattle.wasm_below.specs.declared.message.Message.TheVariants as message
use Rattle.wasm_below.specs.declared.message.NumberName.{NumberName}
use Rattle.wasm_below.specs.declared.message.SizeName.{SizeName}
use Rattle.wasm_below.specs.declared.message.NumberName.TheVariants as number_name
use Rattle.wasm_below.specs.Refusal.{NamesNumber, NamesSize}
use Rattle.wasm_below.specs.Sequence.{PrefixCode}
use Rattle.wasm_below.specs.Fault.{ThenFault, DeterminesRefusal}
use Rattle.wasm_below.specs.Number.{EncodesUnsigned}
use Rattle.wasm_below.specs.FromReader.{ReaderFault}
use Rattle.wasm_below.specs.Source.{Reader, rest, at_position, byte_at, BeginsWith, HasRead, NoPrefix, BeginsAbove, NumberFault, U32Fault, S33Fault, SizeFault, CountFault, EndFault, EndsWithin}
use Rattle.wasm_below.proofs.PrefixCode.{unsigned_prefix_code}
use Rattle.wasm_below.specs.PartFaults.{CheckedByteFault, ZeroFault}
use Rattle.wasm_below.proofs.Faults.{no_byte}

same_byte : (r : Reader) (a b : ℕ) → a ≡ b → 128 ≤ byte_at r a → byte_at r b < 128 → ⊥
same_byte r a b e ge lt = let f : byte_at r a ≡ byte_at r b = ap (byte_at r) e in omega arith

pub number_determines : (width : ℕ) (name : NumberName) → DeterminesRefusal (λ m r offset. NumberFault m width r offset × NamesNumber name m)
number_determines width name message.EndOfData message.EndOfData r a b h k = (refl, h.0.0 ∙ sym k.0.0)
number_determines width name message.EndOfData (message.IntegerTooLong v) r a b h k = absurd (omega (arith, h.0.1, k.0.0, k.0.2))
number_determines width name message.EndOfData (message.IntegerTooLarge v) r a b h k = absurd (omega (arith, h.0.1, k.0.0, k.0.2))
number_determines width name (message.IntegerTooLong u) message.EndOfData r a b h k = absurd (omega (arith, k.0.1, h.0.0, h.0.2))
number_determines width name (message.IntegerTooLong u) (message.IntegerTooLong v) r a b h k = (ap message.IntegerTooLong (h.1 ∙ sym k.1), h.0.0 ∙ sym k.0.0)
number_determines width name (message.IntegerTooLong u) (message.IntegerTooLarge v) r a b h k = absurd (same_byte r a b (h.0.0 ∙ sym k.0.0) h.0.1 k.0.1)
number_determines width name (message.IntegerTooLarge u) message.EndOfData r a b h k = absurd (omega (arith, k.0.1, h.0.0, h.0.2))
number_determines width name (message.IntegerTooLarge u) (message.IntegerTooLong v) r a b h k = absurd (same_byte r b a (k.0.0 ∙ sym h.0.0) k.0.1 h.0.1)
number_determines width name (message.IntegerTooLarge u) (message.IntegerTooLarge v) r a b h k =
    (ap message.IntegerTooLarge (h.1 ∙ sym k.1), h.0.0 ∙ sym k.0.0)
number_determines width name message.EndOfData _ r a b h k = absurd k.0
number_determines width name (message.IntegerTooLong u) _ r a b h k = absurd k.0
number_determines width name (message.IntegerTooLarge u) _ r a b h k = absurd k.0
number_determines width name _ _ r a b h k = absurd h.0

pub u32_determines : DeterminesRefusal U32Fault
u32_determines = number_determines 32 number_name.VarU32

pub s33_determines : DeterminesRefusal S33Fault
s33_determines message.EndOfData message.EndOfData r a b h k = (refl, h.0.0 ∙ sym k.0.0)
s33_determines message.EndOfData (message.IntegerTooLong v) r a b h k = absurd (omega (arith, h.0.1, k.0.0, k.0.1))
s33_determines (message.IntegerTooLong u) message.EndOfData r a b h k = absurd (omega (arith, k.0.1, h.0.0, h.0.1))
s33_determines (message.IntegerTooLong u) (message.IntegerTooLong v) r a b h k = (ap message.IntegerTooLong (h.1 ∙ sym k.1), h.0.0 ∙ sym k.0.0)
s33_determines message.EndOfData _ r a b h k = absurd k.0
s33_determines (message.IntegerTooLong u) _ r a b h k = absurd k.0
s33_determines _ _ r a b h k = absurd h.0

above_none : (limit : ℕ) (bytes : List ℕ) → BeginsAbove limit bytes → NoPrefix (EncodesUnsigned 32) bytes → ⊥
above_none limit bytes (text, more, n, p, _, e) none = none text more n p e

pub size_determines : (limit : ℕ) (name : SizeName) →
    DeterminesRefusal (λ m r offset. SizeFault m limit r offset × NamesSize name m × NamesNumber number_name.VarU32 m)
size_determines limit name (message.SizeOutOfBounds u) (message.SizeOutOfBounds v) r a b h q = (ap message.SizeOutOfBounds (h.1 ∙ sym q.1), h.0.0 ∙ sym q.0.0)
size_determines limit name (message.SizeOutOfBounds u) k r a b h q = absurd (above_none limit (rest r) h.0.1 q.0.1)
size_determines limit name m (message.SizeOutOfBounds v) r a b h q = absurd (above_none limit (rest r) q.0.1 h.0.1)
size_determines limit name m k r a b h q = number_determines 32 number_name.VarU32 m k r a b (h.0.0, h.2) (q.0.0, q.2)

first_prefix_code : {X : Type 0} (First : List ℕ → X → Type 0) → PrefixCode First → (r s t : Reader) (x y : X) → HasRead First x r s →
    HasRead First y r t → (x ≡ y) × (s ≡ t)
first_prefix_code First prefix_code r s t x y (text, p, h) (other, q, k) =
    let o = prefix_code text other (rest s) (rest t) x y p q (sym h.parts ∙ k.parts) in
    (o.1, h.moved ∙ ap (λ (z : List ℕ). at_position r (r.position + length z)) o.0 ∙ sym k.moved)

pub then_determines : {X : Type 0} (First : List ℕ → X → Type 0) (FirstFault : Message → Reader → ℕ → Type 0) (After : X → Message → Reader → ℕ → Type 0) →
    PrefixCode First → DeterminesRefusal FirstFault → ((x : X) → DeterminesRefusal (After x)) → DeterminesRefusal (ThenFault First FirstFault After)
then_determines First FirstFault After prefix_code f g m k r a b (inl h) (inl q) = f m k r a b h.1 q.1
then_determines First FirstFault After prefix_code f g m k r a b (inl h) (inr (x, new, (text, p, t), _)) = absurd (h.0 text (rest new) x p t.parts)
then_determines First FirstFault After prefix_code f g m k r a b (inr (x, new, (text, p, t), _)) (inl q) = absurd (q.0 text (rest new) x p t.parts)
then_determines First FirstFault After prefix_code f g m k r a b (inr (x, s, h, u)) (inr (y, t, q, v)) =
    let o = first_prefix_code First prefix_code r s t x y h q in
    g x m k s a b u (subst (λ z. After z k s b) (sym o.0) (subst (λ z. After y k z b) (sym o.1) v))

pub reader_determines : DeterminesRefusal ReaderFault
reader_determines = then_determines (EncodesUnsigned 32) U32Fault EndsWithin (λ a b x y m n p q e. unsigned_prefix_code a b 32 x y m n p q e) u32_determines
    (λ n m k r a b h q. (h.0 ∙ sym q.0, h.1 ∙ sym q.1))

pub either_determines : (Holds : Type 0) (Then Else : Message → Reader → ℕ → Type 0) → DeterminesRefusal Then → DeterminesRefusal Else →
    DeterminesRefusal (λ m r offset. (Holds × Then m r offset) ⊎ (¬ Holds × Else m r offset))
either_determines Holds Then Else pt pe m k r a b (inl h) (inl q) = pt m k r a b h.1 q.1
either_determines Holds Then Else pt pe m k r a b (inl h) (inr q) = absurd (q.0 h.0)
either_determines Holds Then Else pt pe m k r a b (inr h) (inl q) = absurd (h.0 q.0)
either_determines Holds Then Else pt pe m k r a b (inr h) (inr q) = pe m k r a b h.1 q.1

pub same_first_byte : (bytes : List ℕ) (c d : ℕ) → BeginsWith c bytes → BeginsWith d bytes → c ≡ d
same_first_byte bytes c d (x, h) (y, q) = cc (h, q)

pub end_determines : DeterminesRefusal EndFault
end_determines m k r a b h q = (h.0 ∙ sym q.0, h.1 ∙ sym q.1)

pub count_determines : (name : SizeName) (limit : ℕ) → DeterminesRefusal (CountFault name limit)
count_determines name limit = size_determines limit name

pub checked_determines : (IsWrong : ℕ → Type 0) (refusal : ℕ → Message) (place : ℕ) → DeterminesRefusal (CheckedByteFault IsWrong refusal place)
checked_determines IsWrong refusal place m k r a b (inl h) (inl q) = end_determines m k r a b h q
checked_determines IsWrong refusal place m k r a b (inl h) (inr (c, prefix, _, _, _)) = absurd (no_byte r c h.2 prefix)
checked_determines IsWrong refusal place m k r a b (inr (c, prefix, _, _, _)) (inl q) = absurd (no_byte r c q.2 prefix)
checked_determines IsWrong refusal place m k r a b (inr (c, f, _, em, ea)) (inr (d, g, _, ek, eb)) =
    (em ∙ ap refusal (same_first_byte (rest r) c d f g) ∙ sym ek, ea ∙ sym eb)

pub zero_determines : (refusal : Message) (place : ℕ) → DeterminesRefusal (ZeroFault refusal place)
zero_determines refusal place = checked_determines (λ byte. byte ≢ 0) (λ byte. refusal) place
