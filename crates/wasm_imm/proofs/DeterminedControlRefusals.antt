use Rattle.std.proofs.Common.{◌≡◌, ℕ, zero, suc, ◌+◌, inl, inr, List, length, sym, subst, ap, ◌∙◌, ℤ, arith}
use Rattle.wasm_below.specs.declared.message.Message.{Message}
use Rattle.wasm_below.specs.declared.message.Message.TheVariants as message
use Rattle.wasm_below.specs.declared.message.LeadingByteName.{LeadingByteName}
use Rattle.wasm_below.specs.declared.message.SizeName.{SizeName}
use Rattle.wasm_below.specs.declared.message.LeadingByteName.TheVariants as leading_name
use Rattle.wasm_below.specs.declared.message.SizeName.TheVariants as size_name
use Rattle.wasm_below.specs.Fault.{ThenFault, ManyFault, DeterminesRefusal}
use Rattle.wasm_below.specs.Number.{EncodesUnsigned, EncodesSigned, EncodesSize}
use Rattle.wasm_below.specs.Sequence.{PrefixCode}
use Rattle.wasm_below.specs.Source.{Reader, rest, at_position, offset_of, HasRead, IsByte, U32Fault, S33Fault, CountFault, EndFault}
use Rattle.wasm_below.specs.TypeEncoding.{EncodesHeapType, EncodesValType, HeapTypeFault, ValTypeFault}
use Rattle.wasm_below.proofs.PrefixCode.{signed_prefix_code, size_prefix_code, byte_prefix_code}
use Rattle.wasm_below.proofs.DeterminedRefusals.{u32_determines, s33_determines, then_determines, same_first_byte, end_determines, count_determines}
use Rattle.wasm_below.proofs.DeterminedTypeRefusals.{heap_determines, value_determines}
use Rattle.wasm_below.proofs.TypePrefixCodes.{heap_prefix_code, value_prefix_code}
use Rattle.wasm_imm.specs.BlockTypeFaults.{NegativeFault, FunctionTypeFault, BlockTypeFault}
use Rattle.wasm_imm.specs.BlockTypes.{EncodesBlockType}
use Rattle.wasm_imm.specs.BranchTableFaults.{BranchTableFault}
use Rattle.wasm_imm.specs.BranchTables.{max_targets}
use Rattle.wasm_imm.specs.CastFaults.{CastTypesFault, CastFault}
use Rattle.wasm_imm.specs.HandlerFaults.{IsLeading, LeadingFault, IndicesFault, CatchFault, HandleFault}
use Rattle.wasm_imm.specs.Handlers.{EncodesCatch, EncodesHandle}
use Rattle.wasm_imm.specs.HandlerTables.{max_catches, max_handlers, max_select_types}
use Rattle.wasm_imm.specs.ListFaults.{ListFault, TryTableFault, ResumeTableFault, SelectFault}
use Rattle.wasm_imm.proofs.BlockTypes.{block_prefix_code}
use Rattle.wasm_imm.proofs.ListLemmas.{PrefixAlone}
use Rattle.wasm_imm.proofs.HandlerLemmas.{catch_prefix_code, handle_prefix_code}
use Rattle.wasm_below.proofs.Faults.{no_byte}
use Rattle.wasm_below.proofs.Steps.{number_prefix_code}

-- Members need not be equal if their encodings are: what follows does not depend on them.
same_end : {X : Type 0} (Encodes : List ℕ → X → Type 0) → PrefixAlone Encodes → (r s t : Reader) (x y : X) → HasRead Encodes x r s → HasRead Encodes y r t →
    s ≡ t
same_end Encodes prefix_alone r s t x y (text, p, h) (other, q, k) =
    let same = prefix_alone text other (rest s) (rest t) x y p q (sym h.parts ∙ k.parts) in
    h.moved ∙ ap (λ (z : List ℕ). at_position r (r.position + length z)) same ∙ sym k.moved

many_determines_alone : {X : Type 0} (Encodes : List ℕ → X → Type 0) (Fault : Message → Reader → ℕ → Type 0) → PrefixAlone Encodes →
    DeterminesRefusal Fault → (count : ℕ) → DeterminesRefusal (ManyFault Encodes Fault count)
many_determines_alone Encodes Fault prefix_alone determines zero m k r a b h q = absurd h
many_determines_alone Encodes Fault prefix_alone determines (suc n) m k r a b (inl h) (inl q) = determines m k r a b h.1 q.1
many_determines_alone Encodes Fault prefix_alone determines (suc n) m k r a b (inl h) (inr (x, new, (text, p, t), _)) =
    absurd (h.0 text (rest new) x p t.parts)
many_determines_alone Encodes Fault prefix_alone determines (suc n) m k r a b (inr (x, new, (text, p, t), _)) (inl q) =
    absurd (q.0 text (rest new) x p t.parts)
many_determines_alone Encodes Fault prefix_alone determines (suc n) m k r a b (inr (x, s, h, u)) (inr (y, t, q, v)) =
    many_determines_alone Encodes Fault prefix_alone determines n m k s a b u
    (subst (λ z. ManyFault Encodes Fault n k z b) (sym (same_end Encodes prefix_alone r s t x y h q)) v)

pub many_determines : {X : Type 0} (Encodes : List ℕ → X → Type 0) (Fault : Message → Reader → ℕ → Type 0) → PrefixCode Encodes → DeterminesRefusal Fault →
    (count : ℕ) → DeterminesRefusal (ManyFault Encodes Fault count)
many_determines Encodes Fault prefix_code = many_determines_alone Encodes Fault (λ a b x y m n p q e. (prefix_code a b x y m n p q e).0)

pub list_determines_alone : {X : Type 0} (name : SizeName) (limit : ℕ) (Encodes : List ℕ → X → Type 0) (Fault : Message → Reader → ℕ → Type 0) →
    PrefixAlone Encodes → DeterminesRefusal Fault → DeterminesRefusal (ListFault name limit Encodes Fault)
list_determines_alone name limit Encodes Fault prefix_alone determines =
    then_determines (EncodesSize limit) (CountFault name limit) (ManyFault Encodes Fault) (size_prefix_code limit) (count_determines name limit)
    (many_determines_alone Encodes Fault prefix_alone determines)

pub list_determines : {X : Type 0} (name : SizeName) (limit : ℕ) (Encodes : List ℕ → X → Type 0) (Fault : Message → Reader → ℕ → Type 0) →
    PrefixCode Encodes → DeterminesRefusal Fault → DeterminesRefusal (ListFault name limit Encodes Fault)
list_determines name limit Encodes Fault prefix_code = list_determines_alone name limit Encodes Fault (λ a b x y m n p q e. (prefix_code a b x y m n p q e).0)

pub branch_determines : DeterminesRefusal BranchTableFault
branch_determines = then_determines (EncodesSize max_targets) (CountFault size_name.BrTable max_targets)
    (λ count. ManyFault (EncodesUnsigned 32) U32Fault (suc count)) (size_prefix_code max_targets) (count_determines size_name.BrTable max_targets)
    (λ count. many_determines (EncodesUnsigned 32) U32Fault (number_prefix_code 32) u32_determines (suc count))

pub select_determines : DeterminesRefusal SelectFault
select_determines = list_determines size_name.SelectTypes max_select_types EncodesValType ValTypeFault value_prefix_code value_determines

negative_determines : (index : ℤ) → DeterminesRefusal (NegativeFault index)
negative_determines index m k r a b h q = (h.1 ∙ sym q.1, h.2 ∙ sym q.2)

function_determines : DeterminesRefusal FunctionTypeFault
function_determines = then_determines (EncodesSigned 33) S33Fault NegativeFault (λ a b x y m n p q e. signed_prefix_code a b 33 x y m n p q e) s33_determines
    negative_determines

pub block_determines : DeterminesRefusal BlockTypeFault
block_determines m k r a b (inl h) (inl q) = value_determines m k r a b h.3 q.3
block_determines m k r a b (inl h) (inr q) = absurd (q.0 h.0 h.1 h.2)
block_determines m k r a b (inr h) (inl q) = absurd (h.0 q.0 q.1 q.2)
block_determines m k r a b (inr h) (inr q) = function_determines m k r a b h.1 q.1

cast_types_determines : (start flags : ℕ) → DeterminesRefusal (CastTypesFault start flags)
cast_types_determines start flags m k r a b (inl h) (inl q) = (h.1 ∙ sym q.1, h.2 ∙ sym q.2)
cast_types_determines start flags m k r a b (inl h) (inr q) = absurd (omega (arith, h.0, q.0))
cast_types_determines start flags m k r a b (inr h) (inl q) = absurd (omega (arith, h.0, q.0))
cast_types_determines start flags m k r a b (inr h) (inr q) =
    then_determines EncodesHeapType HeapTypeFault (λ first. HeapTypeFault) heap_prefix_code heap_determines (λ first. heap_determines) m k r a b h.1 q.1

pub cast_determines : DeterminesRefusal CastFault
cast_determines m k r a b h q =
    then_determines IsByte EndFault (λ flags. ThenFault (EncodesUnsigned 32) U32Fault (λ label. CastTypesFault (offset_of r) flags)) byte_prefix_code
    end_determines (λ flags. then_determines (EncodesUnsigned 32) U32Fault (λ label. CastTypesFault (offset_of r) flags) (number_prefix_code 32)
    u32_determines (λ label. cast_types_determines (offset_of r) flags)) m k r a b h q

leading_prefix_code : (highest : ℕ) → PrefixCode (IsLeading highest)
leading_prefix_code highest a b x y m n p q e = byte_prefix_code a b x y m n p.0 q.0 e

leading_determines : (name : LeadingByteName) (highest : ℕ) → DeterminesRefusal (LeadingFault name highest)
leading_determines name highest m k r a b (inl h) (inl q) = end_determines m k r a b h q
leading_determines name highest m k r a b (inl h) (inr (c, prefix, _, _, _)) = absurd (no_byte r c h.2 prefix)
leading_determines name highest m k r a b (inr (c, prefix, _, _, _)) (inl q) = absurd (no_byte r c q.2 prefix)
leading_determines name highest m k r a b (inr (c, f, _, em, ea)) (inr (d, g, _, ek, eb)) =
    (em ∙ ap (λ byte. message.InvalidLeadingByte byte name) (same_first_byte (rest r) c d f g) ∙ sym ek, ea ∙ sym eb)

indices_determines : (last byte : ℕ) → DeterminesRefusal (IndicesFault last byte)
indices_determines last byte m k r a b (inl h) (inl q) =
    then_determines (EncodesUnsigned 32) U32Fault (λ tag. U32Fault) (number_prefix_code 32) u32_determines (λ tag. u32_determines) m k r a b h.1 q.1
indices_determines last byte m k r a b (inl h) (inr q) = absurd (omega (arith, h.0, q.0))
indices_determines last byte m k r a b (inr h) (inl q) = absurd (omega (arith, h.0, q.0))
indices_determines last byte m k r a b (inr h) (inr q) = u32_determines m k r a b h.1 q.1

pub catch_determines : DeterminesRefusal CatchFault
catch_determines = then_determines (IsLeading 3) (LeadingFault leading_name.Catch 3) (IndicesFault 1) (leading_prefix_code 3)
    (leading_determines leading_name.Catch 3) (indices_determines 1)

pub handle_determines : DeterminesRefusal HandleFault
handle_determines = then_determines (IsLeading 1) (LeadingFault leading_name.OnClause 1) (IndicesFault 0) (leading_prefix_code 1)
    (leading_determines leading_name.OnClause 1) (indices_determines 0)

pub try_determines : DeterminesRefusal TryTableFault
try_determines = then_determines EncodesBlockType BlockTypeFault (λ ty. ListFault size_name.Catches max_catches EncodesCatch CatchFault) block_prefix_code
    block_determines (λ ty. list_determines size_name.Catches max_catches EncodesCatch CatchFault catch_prefix_code catch_determines)

pub resume_determines : DeterminesRefusal ResumeTableFault
resume_determines = list_determines size_name.ResumeTable max_handlers EncodesHandle HandleFault handle_prefix_code handle_determines
