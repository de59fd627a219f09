use Rattle.std.proofs.Common.{◌≡◌, ℕ, inl, inr, List, refl, sym, ap, ◌∙◌, arith}
use Rattle.wasm_below.specs.declared.message.Message.TheVariants as message
use Rattle.wasm_below.specs.declared.message.TypeName.{TypeName}
use Rattle.wasm_below.specs.declared.message.TypeName.TheVariants as type_name
use Rattle.wasm_below.specs.Fault.{DeterminesRefusal}
use Rattle.wasm_below.specs.Number.{EncodesUnsigned, EncodesSigned}
use Rattle.wasm_below.specs.Source.{Reader, rest, BeginsWith, U32Fault, S33Fault}
use Rattle.wasm_below.specs.TypeEncoding.{LeadsShort, LedBy, ShortFault, ByteFault, NoIndex, HeapTypeFault, RefTypeFault, ValTypeFault, after_byte}
use Rattle.wasm_below.proofs.PrefixCode.{unsigned_prefix_code, signed_prefix_code}
use Rattle.wasm_below.proofs.DeterminedRefusals.{u32_determines, s33_determines, then_determines}

index_determines : (begin : Reader) → DeterminesRefusal (NoIndex begin)
index_determines begin m k r a b h q = (h.0 ∙ sym q.0, h.1 ∙ sym q.1)

short_determines : (name : TypeName) → DeterminesRefusal (ShortFault name)
short_determines name message.EndOfData message.EndOfData r a b h q = (refl, h.0 ∙ sym q.0)
short_determines name message.EndOfData (message.InvalidType v) r a b h q = absurd (q.2 h.1)
short_determines name (message.InvalidType u) message.EndOfData r a b h q = absurd (h.2 q.1)
short_determines name (message.InvalidType u) (message.InvalidType v) r a b h q = (ap message.InvalidType (h.0 ∙ sym q.0), h.1 ∙ sym q.1)
short_determines name message.EndOfData _ r a b h q = absurd q
short_determines name (message.InvalidType u) _ r a b h q = absurd q
short_determines name _ _ r a b h q = absurd h

byte_determines : (name : TypeName) → DeterminesRefusal (ByteFault name)
byte_determines name message.EndOfData message.EndOfData r a b h q = (refl, h.0 ∙ sym q.0)
byte_determines name message.EndOfData (message.InvalidType v) r a b h q = absurd (q.2 h.1)
byte_determines name (message.InvalidType u) message.EndOfData r a b h q = absurd (h.2 q.1)
byte_determines name (message.InvalidType u) (message.InvalidType v) r a b h q = (ap message.InvalidType (h.0 ∙ sym q.0), h.1 ∙ sym q.1)
byte_determines name message.EndOfData _ r a b h q = absurd q
byte_determines name (message.InvalidType u) _ r a b h q = absurd q
byte_determines name _ _ r a b h q = absurd h

no_short : (bytes : List ℕ) → BeginsWith 0x62 bytes → LedBy LeadsShort bytes → ⊥
no_short bytes f (b, l, g) = (let same : b ≡ 0x62 = cc (f.1, g.1) in omega (arith, l.0))

pub heap_determines : DeterminesRefusal HeapTypeFault
heap_determines m k r a b (inl h) (inl q) =
    then_determines (EncodesUnsigned 32) U32Fault (λ n. NoIndex r) (λ a b x y m n p q e. unsigned_prefix_code a b 32 x y m n p q e) u32_determines
    (λ n. index_determines r) m k (after_byte r) a b h.1 q.1
heap_determines m k r a b (inl h) (inr (inl q)) = absurd (no_short (rest r) h.0 q.0)
heap_determines m k r a b (inl h) (inr (inr q)) = absurd (q.0 h.0)
heap_determines m k r a b (inr (inl h)) (inl q) = absurd (no_short (rest r) q.0 h.0)
heap_determines m k r a b (inr (inl h)) (inr (inl q)) = short_determines type_name.HeapType m k r a b h.1 q.1
heap_determines m k r a b (inr (inl h)) (inr (inr q)) = absurd (q.1 h.0)
heap_determines m k r a b (inr (inr h)) (inl q) = absurd (h.0 q.0)
heap_determines m k r a b (inr (inr h)) (inr (inl q)) = absurd (h.1 q.0)
heap_determines m k r a b (inr (inr h)) (inr (inr q)) =
    then_determines (EncodesSigned 33) S33Fault (λ n. NoIndex r) (λ a b x y m n p q e. signed_prefix_code a b 33 x y m n p q e) s33_determines
    (λ n. index_determines r) m k r a b h.2 q.2

pub ref_determines : DeterminesRefusal RefTypeFault
ref_determines m k r a b (inl h) (inl q) = heap_determines m k (after_byte r) a b h.2 q.2
ref_determines m k r a b (inl h) (inr q) = absurd (q.0 h.0 h.1)
ref_determines m k r a b (inr h) (inl q) = absurd (h.0 q.0 q.1)
ref_determines m k r a b (inr h) (inr q) = short_determines type_name.ReferenceType m k r a b h.1 q.1

pub value_determines : DeterminesRefusal ValTypeFault
value_determines m k r a b (inl h) (inl q) = ref_determines m k r a b h.3 q.3
value_determines m k r a b (inl h) (inr q) = absurd (q.0 h.0 h.1 h.2)
value_determines m k r a b (inr h) (inl q) = absurd (h.0 q.0 q.1 q.2)
value_determines m k r a b (inr h) (inr q) = byte_determines type_name.ValueType m k r a b h.1 q.1
