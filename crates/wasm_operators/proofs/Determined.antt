use Rattle.std.proofs.Common.{◌≡◌, ℕ, ◌+◌, List, [], ◌++◌, length, refl, sym, subst, ap, ◌∙◌, append_assoc, arith, inl, inr}
use Rattle.wasm_below.specs.Fault.{DeterminesRefusal, ManyFault}
use Rattle.wasm_below.specs.FromReader.{EncodesReader, SameReader}
use Rattle.wasm_below.specs.Number.{EncodesUnsigned}
use Rattle.wasm_below.specs.Sequence.{PrefixCodeUpTo}
use Rattle.wasm_below.specs.Source.{Source, U32Fault}
use Rattle.wasm_below.specs.TypeEncoding.{ValTypeFault}
use Rattle.wasm_below.specs.declared.features.WasmFeatures.{WasmFeatures}
use Rattle.wasm_below.proofs.DeterminedRefusals.{u32_determines, then_determines}
use Rattle.wasm_below.proofs.DeterminedTypeRefusals.{value_determines}
use Rattle.wasm_below.proofs.Steps.{number_prefix_code}
use Rattle.wasm_below.proofs.TakesLemmas.{same_rest}
use Rattle.wasm_imm.proofs.DeterminedControlRefusals.{many_determines}
use Rattle.wasm_operators.specs.Expression.{Placed, EncodesExpression}
use Rattle.wasm_operators.proofs.LayoutLemmas.{one_whole}
use Rattle.wasm_operators.specs.Body.{source_after, EncodesBody}
use Rattle.wasm_operators.specs.Locals.{Declaration, EncodesDeclaration, DeclarationFault, LocalsFault, NumberedFault, NextFault}
use Rattle.wasm_operators.proofs.LocalsLemmas.{declaration_prefix_code, locals_prefix_code}
use Rattle.wasm_imm.proofs.VectorPrefixCodes.{same_length}

pub declaration_determines : DeterminesRefusal DeclarationFault
declaration_determines =
    then_determines (EncodesUnsigned 32) U32Fault (λ number. ValTypeFault) (number_prefix_code 32) u32_determines (λ number. value_determines)

pub locals_determine : DeterminesRefusal LocalsFault
locals_determine =
    then_determines (EncodesUnsigned 32) U32Fault (ManyFault EncodesDeclaration DeclarationFault) (number_prefix_code 32) u32_determines
    (λ count. many_determines EncodesDeclaration DeclarationFault declaration_prefix_code declaration_determines count)

numbered_determines : (total number : ℕ) → DeterminesRefusal (NumberedFault total number)
numbered_determines total number m k r a b (inl h) (inl q) = (h.1 ∙ sym q.1, h.2 ∙ sym q.2)
numbered_determines total number m k r a b (inl h) (inr q) = absurd (omega (arith, h.0, q.0))
numbered_determines total number m k r a b (inr h) (inl q) = absurd (omega (arith, h.0, q.0))
numbered_determines total number m k r a b (inr h) (inr q) = value_determines m k r a b h.1 q.1

pub next_determines : (total : ℕ) → DeterminesRefusal (NextFault total)
next_determines total =
    then_determines (EncodesUnsigned 32) U32Fault (NumberedFault total) (number_prefix_code 32) u32_determines (numbered_determines total)

pub reader_prefix_code : (features : WasmFeatures) → PrefixCodeUpTo SameReader (EncodesReader features)
reader_prefix_code features a b x y r s (a1, a2, n, ea, pa, (ra, ba, za, la)) (b1, b2, k, eb, pb, (rb, bb, zb, lb)) e =
    let whole : a1 ++ (a2 ++ x) ≡ b1 ++ (b2 ++ y) = sym (append_assoc a1 a2 x) ∙ ap (λ z. z ++ x) (sym ea) ∙ e ∙ ap (λ z. z ++ y) eb ∙ append_assoc b1 b2 y in
    let o = number_prefix_code 32 a1 b1 (a2 ++ x) (b2 ++ y) n k pa pb whole in
    let same : a2 ≡ b2 = same_length a2 b2 x y (la ∙ o.1 ∙ sym lb) (same_rest a1 b1 (a2 ++ x) (b2 ++ y) o.0 whole) in
    (ea ∙ cc (o.0, same) ∙ sym eb, (ra ∙ sym rb, ba ∙ same ∙ sym bb, za ∙ sym zb))

pub one_body_of : (s : Source) (declarations others : List Declaration) (first second : Placed) → EncodesBody s declarations first →
    EncodesBody s others second → (declarations ≡ others) × (first ≡ second)
one_body_of s declarations others first second p q =
    let whole : p.locals ++ p.expression ≡ q.locals ++ q.expression = sym p.parts ∙ q.parts in
    let same = locals_prefix_code p.locals q.locals p.expression q.expression declarations others p.encodes_locals q.encodes_locals whole in
    let left = same_rest p.locals q.locals p.expression q.expression same.0 whole in
    let moved : source_after s q.locals q.expression ≡ source_after s p.locals p.expression =
    ap (λ t. source_after s t q.expression) (sym same.0) ∙ ap (source_after s p.locals) (sym left) in
    let h : EncodesExpression (source_after s p.locals p.expression) second = subst (λ z. EncodesExpression z second) moved q.encodes_expression in
    let g = p.encodes_expression in
    (same.1, (one_whole [] s.features (s.offset + length p.locals) first second p.expression p.expression [] [] g.0 h.0 g.1 h.1 refl).0)
