-- The code section that compaction writes has typed bodies if and only if its input has.
use Rattle.std.proofs.Common.{◌≡◌, ◌↔◌, ℕ, zero, suc, List, ◌++◌, length, refl, sym, ap, subst, ◌∙◌, append_assoc}
use Rattle.wasm_below.specs.declared.features.WasmFeatures.{WasmFeatures}
use Rattle.wasm_below.specs.Source.{reader_of}
use Rattle.wasm_below.proofs.PrefixCode.{unsigned_prefix_code}
use Rattle.wasm_below.proofs.TakesLemmas.{same_rest}
use Rattle.wasm_module.proofs.Unique.{same_texts}
use Rattle.wasm_typing.specs.Matching.{IsOrder}
use Rattle.wasm_check_control.specs.Environment.{Environment}
use Rattle.wasm_compaction.specs.Blocks.{EncodesBlock, InSequence}
use Rattle.wasm_compaction.specs.Compaction.{CompactsBody, CompactsCode}
use Rattle.wasm_validation.specs.Valid.{IsTypedFunction}
use Rattle.wasm_compaction_laws.specs.Sections.{AreTypedBodies, IsTypedCode}
use Rattle.wasm_compaction_laws.proofs.Bodies.{compacted_function}

-- A block is determined by the bytes that start with it.
one_block : (a b x y c d : List ℕ) → EncodesBlock a c → EncodesBlock b d → a ++ x ≡ b ++ y → (c ≡ d) × (x ≡ y)
one_block a b x y c d (size, parts, encodes) (other, parts2, encodes2) whole =
    let both : size ++ (c ++ x) ≡ other ++ (d ++ y) =
    sym (append_assoc size c x) ∙ ap (λ z. z ++ x) (sym parts) ∙ whole ∙ ap (λ z. z ++ y) parts2 ∙ append_assoc other d y in
    let sizes = unsigned_prefix_code size other 32 (c ++ x) (d ++ y) (length c) (length d) encodes encodes2 both in
    same_texts c d x y sizes.1 (same_rest size other (c ++ x) (d ++ y) sizes.0 both)

-- The bodies in `old` are typed if and only if the bodies in `new` are.
module _ (E : Environment) (ok : IsOrder E.order) (f : WasmFeatures) where
  bodies_on : (n x : ℕ) (old new : List ℕ) → InSequence (CompactsBody f) n old new → AreTypedBodies E f n x old → AreTypedBodies E f n x new
  bodies_on zero x old new (none, none2) typed = none2
  bodies_on (suc n) x old new (part, more, other, others, is, is2, (body, compacted, block, short, c), rest) (p, m, b, parts, block2, typed, typeds) =
      let same = one_block p part m more b body block2 block (sym parts ∙ is) in
      let here = subst (λ z. IsTypedFunction E x (reader_of f 0 z)) same.0 typed in
      let next = subst (AreTypedBodies E f n (suc x)) same.1 typeds in
      (other, others, compacted, is2, short.encodes, (compacted_function E x (reader_of f 0 body) (reader_of f 0 compacted) ok refl c).0 here, bodies_on n (suc x) more others rest next)

  bodies_back : (n x : ℕ) (old new : List ℕ) → InSequence (CompactsBody f) n old new → AreTypedBodies E f n x new → AreTypedBodies E f n x old
  bodies_back zero x old new (none, none2) typed = none
  bodies_back (suc n) x old new (part, more, other, others, is, is2, (body, compacted, block, short, c), rest) (p, m, b, parts, block2, typed, typeds) =
      let same = one_block p other m others b compacted block2 short.encodes (sym parts ∙ is2) in
      let here = subst (λ z. IsTypedFunction E x (reader_of f 0 z)) same.0 typed in
      let next = subst (AreTypedBodies E f n (suc x)) same.1 typeds in
      (part, more, body, is, block, (compacted_function E x (reader_of f 0 body) (reader_of f 0 compacted) ok refl c).1 here, bodies_back n (suc x) more others rest next)

pub compacted_code : (E : Environment) (f : WasmFeatures) (x : ℕ) (old new : List ℕ) → IsOrder E.order → CompactsCode f old new → (IsTypedCode E f x old ↔ IsTypedCode E f x new)
compacted_code E f x old new ok c = (
  (λ (count, number, bodies, parts, counted, typed).
      let whole : number ++ bodies ≡ c.number ++ c.bodies = sym parts ∙ c.parts in
      let one = unsigned_prefix_code number c.number 32 bodies c.bodies count c.count counted c.counted whole in
      let left = same_rest number c.number bodies c.bodies one.0 whole in
      let here = subst (λ n. AreTypedBodies E f n x c.bodies) one.1 (subst (AreTypedBodies E f count x) left typed) in
      (c.count, c.number_again, c.bodies_again, c.parts_again, c.counted_again.encodes, bodies_on E ok f c.count x c.bodies c.bodies_again c.each here)),
  (λ (count, number, bodies, parts, counted, typed).
      let whole : number ++ bodies ≡ c.number_again ++ c.bodies_again = sym parts ∙ c.parts_again in
      let one = unsigned_prefix_code number c.number_again 32 bodies c.bodies_again count c.count counted c.counted_again.encodes whole in
      let left = same_rest number c.number_again bodies c.bodies_again one.0 whole in
      let here = subst (λ n. AreTypedBodies E f n x c.bodies_again) one.1 (subst (AreTypedBodies E f count x) left typed) in
      (c.count, c.number, c.bodies, c.parts, c.counted, bodies_back E ok f c.count x c.bodies c.bodies_again c.each here)),
)
