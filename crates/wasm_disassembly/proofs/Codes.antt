-- A code section has at most one list of bodies.
use Rattle.std.proofs.Common.{◌≡◌, ℕ, ◌+◌, ◌<◌, List, [], ◌∷◌, ◌++◌, length, refl, sym, subst, ap, ◌∙◌, append_assoc, append-nil, arith, inl, inr}
use Rattle.wasm_operators.specs.below.declared.error.Error.{Error}
use Rattle.wasm_operators.specs.below.declared.features.WasmFeatures.{WasmFeatures}
use Rattle.wasm_operators.specs.below.declared.message.Message.{Message}
use Rattle.wasm_operators.specs.below.declared.message.Message.TheVariants as message
use Rattle.wasm_operators.specs.below.FromReader.{EncodesReader, ReaderFault, IsRefused}
use Rattle.wasm_operators.specs.below.Number.{EncodesUnsigned}
use Rattle.wasm_operators.specs.below.Sequence.{PrefixCode}
use Rattle.wasm_operators.specs.below.Source.{Reader, rest, offset_of, end_of, at_position, HasRead}
use Rattle.wasm_disassembly.specs.Listing.{BodiesOccur, IsCode, StopsCode, RefusesCode}
use Rattle.wasm_module.proofs.NamedFunctions.{not_both}
use Rattle.wasm_module.proofs.NextItems.{one_read}
use Rattle.wasm_module.proofs.Unique.{same_texts}
use Rattle.wasm_operators.proofs.OneRead.{may_end}

pub not_refused : {X : Type 0} (P : List ℕ → X → Type 0) (F : Message → Reader → ℕ → Type 0) (e : Error) (r b : Reader) (x : X) → IsRefused P F (λ s. ⊥) e r →
    HasRead P x r b → ⊥
not_refused P F e r b x refused (text, is, takes) =
    let memory : e.message ≡ message.OutOfMemory → ⊥ = λ m. (refused.memory m).0 in
    refused.refuses [] (may_end e.message memory) text (rest b) x is (append-nil (rest r) ∙ takes.parts)

abbrev reader_by : WasmFeatures → ℕ → List ℕ → ℕ → Reader
reader_by features start buffer position = record { features = features; start = start; buffer = buffer; position = position }

same_reader : (b c : Reader) → b.features ≡ c.features → b.start ≡ c.start → b.buffer ≡ c.buffer → b.position ≡ c.position → b ≡ c
same_reader b c features start buffer position =
    ap (λ z. reader_by z b.start b.buffer b.position) features ∙
    ap (λ z. reader_by c.features z b.buffer b.position) start ∙
    ap (λ z. reader_by c.features c.start z b.position) buffer ∙
    ap (λ z. reader_by c.features c.start c.buffer z) position

module _ (numbers : PrefixCode (EncodesUnsigned 32)) where
  one_body : (r mid next b c : Reader) → HasRead (EncodesReader r.features) b r mid → HasRead (EncodesReader r.features) c r next →
      end_of b ≡ offset_of mid → end_of c ≡ offset_of next → (b ≡ c) × (mid ≡ next)
  one_body r mid next b c (text, (n, body, size, q, number, (f, buffer, start, long)), takes)
      (text', (n', body', size', q', number', (f', buffer', start', long')), takes') placed placed' =
      let whole : n ++ (body ++ rest mid) ≡ n' ++ (body' ++ rest next) =
      sym (append_assoc n body (rest mid)) ∙ ap (λ z. z ++ rest mid) (sym q) ∙ sym takes.parts ∙ takes'.parts ∙ ap (λ z. z ++ rest next) q' ∙
      append_assoc n' body' (rest next) in
      let size_is = numbers n n' (body ++ rest mid) (body' ++ rest next) size size' number number' whole in
      let after = same_texts n n' (body ++ rest mid) (body' ++ rest next) (ap length size_is.0) whole in
      let contents = same_texts body body' (rest mid) (rest next) (long ∙ size_is.1 ∙ sym long') after.1 in
      let texts : text ≡ text' = q ∙ ap (λ z. z ++ body) size_is.0 ∙ ap (λ z. n' ++ z) contents.0 ∙ sym q' in
      let moved : mid ≡ next = takes.moved ∙ ap (λ (z : List ℕ). at_position r (r.position + length z)) texts ∙ sym takes'.moved in
      let same_buffer : b.buffer ≡ c.buffer = buffer ∙ contents.0 ∙ sym buffer' in
      let sizes : length b.buffer ≡ length c.buffer = ap length same_buffer in
      let ends : offset_of mid ≡ offset_of next = ap offset_of moved in
      let starts : b.start ≡ c.start = omega (arith, placed, placed', sizes, ends) in
      (same_reader b c (f ∙ sym f') starts same_buffer (start ∙ sym start'), moved)

  same_bodies : (r : Reader) (bs cs : List Reader) (mid end : Reader) → BodiesOccur r bs mid → BodiesOccur r cs end → length bs ≡ length cs →
      (bs ≡ cs) × (mid ≡ end)
  same_bodies r [] [] mid end a b l = (refl, a ∙ sym b)
  same_bodies r [] (c ∷ cs) mid end a b l = absurd (omega (arith, l))
  same_bodies r (b ∷ bs) [] mid end a c l = absurd (omega (arith, l))
  same_bodies r (b ∷ bs) (c ∷ cs) mid end (n, reads, placed, others) (n', reads', placed', others') l =
      let first = one_body r n n' b c reads reads' placed placed' in
      let more = same_bodies n bs cs mid end others (subst (λ z. BodiesOccur z cs end) (sym first.1) others') (omega (arith, l)) in
      (ap (λ z. z ∷ bs) first.0 ∙ ap (λ zs. c ∷ zs) more.0, more.1)

  one_more : (r : Reader) (bs cs : List Reader) (mid end : Reader) → BodiesOccur r bs mid → BodiesOccur r cs end → length bs < length cs →
      (c : Reader) × (next : Reader) × HasRead (EncodesReader mid.features) c mid next
  one_more r bs [] mid end a b l = absurd (omega (arith, l))
  one_more r [] (c ∷ cs) mid end a (next, reads, placed, others) l =
      (c, next, subst (λ z. HasRead (EncodesReader z.features) c z next) (sym a) reads)
  one_more r (b ∷ bs) (c ∷ cs) mid end (n, reads, placed, others) (n', reads', placed', others') l =
      let first = one_body r n n' b c reads reads' placed placed' in
      one_more n bs cs mid end others (subst (λ z. BodiesOccur z cs end) (sym first.1) others') (omega (arith, l))

  pub one_code : (contents : Reader) (first second : List Reader) → IsCode contents first → IsCode contents second → first ≡ second
  one_code contents bs cs a b =
      let same = one_read (EncodesUnsigned 32) numbers contents a.first b.first (length bs) (length cs) a.count b.count in
      (same_bodies a.first bs cs a.end b.end a.occur (subst (λ z. BodiesOccur z cs b.end) (sym same.1) b.occur) same.0).0

  stops_not : (contents : Reader) (all before : List Reader) (e : Error) → IsCode contents all → StopsCode e contents before → ⊥
  stops_not contents all before e h s =
      let same = one_read (EncodesUnsigned 32) numbers contents s.first h.first (length before + s.remaining) (length all) s.count h.count in
      let occur = subst (λ z. BodiesOccur z all h.end) (sym same.1) h.occur in
      elim s.stops [
        | inl (more, refused) ↦
            let fewer : length before < length all = let e = same.0 in omega (arith, more, e) in
            let (c, next, reads) = one_more s.first before all s.end h.end s.occur occur fewer in
            not_refused (EncodesReader s.end.features) ReaderFault e s.end next c refused reads
        | inr (none, (left, message, offset)) ↦
            let as_many : length before ≡ length all = let e = same.0 in omega (arith, none, e) in
            let ends = (same_bodies s.first before all s.end h.end s.occur occur as_many).1 in
            left (ap rest ends ∙ h.all)
      ]

  pub code_not_refused : (contents : Reader) (all before : List Reader) (e : Error) → IsCode contents all → RefusesCode e contents before → ⊥
  code_not_refused contents all before e h (inl (none, refused)) = not_both (EncodesUnsigned 32) e contents h.first (length all) refused.0 h.count
  code_not_refused contents all before e h (inr stops) = stops_not contents all before e h stops
