use Rattle.std.proofs.Common.{◌≡◌, ℕ, ◌+◌, ◌≤◌, List, [], ◌∷◌, ◌++◌, length, Some, None, inl, inr, refl, sym, subst, ap, ◌∙◌, ◌⊎◌, arith}
use Rattle.std.proofs.lemmas.Bool.{cases_lt}
use Rattle.wasm_below.specs.declared.features.WasmFeatures.{WasmFeatures}
use Rattle.wasm_below.specs.declared.message.Message.{Message}
use Rattle.wasm_below.specs.Fault.{DeterminesRefusal}
use Rattle.wasm_below.specs.FromReader.{SameReader}
use Rattle.wasm_below.specs.Sequence.{PrefixCodeUpTo}
use Rattle.wasm_below.specs.Source.{Reader, rest, offset_of, at_position}
use Rattle.wasm_grammar.specs.declared.frame_kind.FrameKind.{FrameKind}
use Rattle.wasm_grammar.specs.declared.frame_kind.FrameKind.TheVariants as frame
use Rattle.wasm_grammar.specs.Frames.{Allows, replacement, frames_after, frames_along}
use Rattle.wasm_grammar.proofs.Innermost.{may_not_step}
use Rattle.wasm_grammar.proofs.Runs.{IsSome_of}
use Rattle.wasm_instr.specs.declared.operator.Operator.{Operator}
use Rattle.wasm_instr.specs.declared.operator.Operator.TheVariants as operator
use Rattle.wasm_instr.specs.Encoding.{EncodesOperator}
use Rattle.wasm_instr.specs.Roles.{role_of, roles_of}
use Rattle.wasm_instr.proofs.OperatorPrefixCode.{operator_prefix_code}
use Rattle.wasm_decode_opcodes.specs.OperatorFaults.{OperatorFault}
use Rattle.wasm_operators.proofs.DecoderPremises.{takes_all}
use Rattle.wasm_operators.specs.Expression.{operators}
use Rattle.wasm_operators.proofs.LayoutLemmas.{GoesOn, laid_goes_on, laid_same, next_allowed, one_whole, operators-append}
use Rattle.wasm_decode.proofs.DeterminedOperatorRefusals.{operator_determines}
use Rattle.wasm_operators.specs.Constant.{HasNoEnd, EncodesConstantReader}
use Rattle.wasm_operators.specs.ConstantFaults.{PassesOperators, IsNoOperator, EndsInside, ConstantFault}
use Rattle.wasm_operators.proofs.OneEnd.{constant_at}
use Rattle.wasm_grammar.proofs.Paths.{some_is}
use Rattle.wasm_operators.proofs.Runs.{features_stay}

pub constant_prefix_code : (f : WasmFeatures) → PrefixCodeUpTo SameReader (EncodesConstantReader f)
constant_prefix_code f a b x y m n first second e =
    let p = constant_at f a m 0 first in
    let q = constant_at f b n 0 second in
    let same = one_whole [] f 0 p.0 q.0 a b x y p.1 q.1 p.2 q.2 e in
    let buffers = first.0.1 ∙ same.1 ∙ sym second.0.1 in
    (same.1, (first.0.0 ∙ sym second.0.0, buffers, first.0.2 ∙ sym second.0.2))

end_encodes : (f : WasmFeatures) → EncodesOperator f (0x0b ∷ []) operator.End
end_encodes f = record { head = 0x0b ∷ []; after = []; parts = refl; code = refl; immediates = refl; enabled = tt }

Ended : Message → Reader → List FrameKind → ℕ → Type 0
Ended m r frames offset = IsNoOperator m r frames offset ⊎ EndsInside m r frames offset

no_other : (m : Message) (r : Reader) (frames : List FrameKind) (offset : ℕ) → Ended m r frames offset → (text more : List ℕ) (op : Operator) →
    EncodesOperator r.features text op → rest r ≡ text ++ more → (op ≡ operator.End → ⊥) → frames_after frames (role_of op) ≡ None
unfolding Ended
no_other m r frames offset (inl (kind, innermost_is, none, fault)) text more op encodes e other = go (replacement kind (role_of op)) refl
  where
    go : (next : _) → replacement kind (role_of op) ≡ next → frames_after frames (role_of op) ≡ None
    go None is = may_not_step frames kind (role_of op) innermost_is is
    go (Some next) is = absurd (none text more op (takes_all r.features kind text op encodes (IsSome_of (replacement kind (role_of op)) next is) tt) e)
no_other m r frames offset (inr (begins, around, is, at)) text more op encodes e other =
    let both : (0x0b ∷ []) ++ begins.0 ≡ text ++ more = sym begins.1 ∙ e in
    absurd (other (sym (operator_prefix_code r.features operator.End op (0x0b ∷ []) text begins.0 more (end_encodes r.features) encodes both).0))

no_end_there : (first : List Operator) (next : Operator) (more : List Operator) → HasNoEnd (first ++ next ∷ more) → next ≡ operator.End → ⊥
no_end_there [] next more h is = h.0 is
no_end_there (x ∷ xs) next more h is = no_end_there xs next more h.1 is

no_longer_than_ended : (m : Message) (r a b : Reader) (xs ys : List FrameKind) (offset : ℕ) (p : PassesOperators r a xs) (q : PassesOperators r b ys) →
    Ended m a xs offset →
    length q.placed ≤ length p.placed
no_longer_than_ended m r a b xs ys offset p q ended =
    elim (cases_lt (length p.placed) (length q.placed)) [
      | inl lt ↦ absurd (goes (laid_goes_on r.features (offset_of r) p.placed q.placed p.text q.text (rest a) (rest b) p.laid q.laid
          (sym p.takes.parts ∙ q.takes.parts) lt))
      | inr le ↦ le
    ]
  where
    goes : GoesOn r.features p.placed q.placed (rest a) → ⊥
    goes g =
        let encodes = subst (λ f. EncodesOperator f g.text g.next.0) (sym (features_stay r a p.text p.takes)) g.encodes in
        let ops = ap operators g.parts ∙ operators-append p.placed (g.next ∷ g.others) in
        let other = no_end_there (operators p.placed) g.next.0 (operators g.others) (subst HasNoEnd ops q.no_end) in
        next_allowed r.features (frame.Block ∷ []) xs ys p.placed q.placed (rest a) p.along q.along g
        (no_other m a xs offset ended g.text g.more g.next.0 encodes g.bytes other)

ends_allowed : (kind : FrameKind) → Allows kind (role_of operator.End)
ends_allowed kind = refl

not_both : (m n : Message) (r : Reader) (frames : List FrameKind) (x y : ℕ) → IsNoOperator m r frames x → EndsInside n r frames y → ⊥
not_both m n r frames x y (kind, innermost_is, none, fault) (begins, around, is, at) =
    none (0x0b ∷ []) begins.0 operator.End (end_encodes r.features, ends_allowed kind) begins.1

same_end : (m n : Message) (r : Reader) (frames : List FrameKind) (x y : ℕ) → Ended m r frames x → Ended n r frames y → (m ≡ n) × (x ≡ y)
unfolding Ended
same_end m n r frames x y (inl h) (inl k) =
    let kinds : k.0 ≡ h.0 = some_is (sym k.1 ∙ h.1) in
    operator_determines r.features h.0 m n r x y h.3 (subst (λ kind. OperatorFault r.features kind n r y) kinds k.3)
same_end m n r frames x y (inl h) (inr k) = absurd (not_both m n r frames x y h k)
same_end m n r frames x y (inr h) (inl k) = absurd (not_both n m r frames y x k h)
same_end m n r frames x y (inr h) (inr k) = (h.2 ∙ sym k.2, h.3 ∙ sym k.3)

pub constant_determines : DeterminesRefusal ConstantFault
unfolding Ended
constant_determines m n r x y (a, xs, p, h) (b, ys, q, k) =
    let le = no_longer_than_ended m r a b xs ys x p q h in
    let ge = no_longer_than_ended n r b a ys xs y q p k in
    let same = laid_same r.features (offset_of r) p.placed q.placed p.text q.text (rest a) (rest b) p.laid q.laid (sym p.takes.parts ∙ q.takes.parts)
    (omega (arith, le, ge)) in
    let readers : a ≡ b = p.takes.moved ∙ ap (λ z. at_position r (r.position + length z)) same.1 ∙ sym q.takes.moved in
    let frames : xs ≡ ys = some_is (sym p.along ∙ ap (λ ps. frames_along (frame.Block ∷ []) (roles_of (operators ps))) same.0 ∙ q.along) in
    same_end m n b ys x y (subst (λ fs. Ended m b fs x) frames (subst (λ z. Ended m z xs x) readers h)) k
