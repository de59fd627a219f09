use Rattle.std.proofs.Common.{◌≡◌, ℕ, ◌+◌, ◌-◌, ◌≤◌, List, [], ◌∷◌, ◌++◌, length, inl, inr, ℤ, pos, refl, sym, subst, ap, ◌∙◌, append_assoc, length-append, length-drop, arith, negsuc, Fits, w32, false}
use Rattle.std.proofs.lemmas.Int.{ints}
use Rattle.std.proofs.Math.Dec.{T}
use lib.Signed.{non_neg, lt_z}
use lib.IntN.{nat_abs}
use Rattle.wasm_below.specs.Ahead.{Fails}
use Rattle.wasm_below.specs.declared.error.Error.{Error}
use Rattle.wasm_below.specs.declared.types.ValType.{ValType}
use Rattle.wasm_below.specs.declared.types.ValType.TheVariants as value
use Rattle.wasm_below.specs.Number.{EncodesSigned, FitsWidth}
use Rattle.wasm_below.specs.Refusal.{IsReadFault}
use Rattle.wasm_below.specs.Sequence.{PrefixCode}
use Rattle.wasm_below.specs.Source.{Reader, rest, offset_of, NoPrefix, HasRead, S33Fault}
use Rattle.wasm_below.specs.TypeEncoding.{EncodesValType}
use Rattle.wasm_below.proofs.PrefixCode.{signed_prefix_code, signed_some}
use Rattle.wasm_below.proofs.TypeEncodings.{index_leads, ref_leads, value_empty}
use Rattle.wasm_below.proofs.TypePrefixCodes.{value_prefix_code}
use Rattle.wasm_imm.specs.declared.block_type.BlockType.{BlockType}
use Rattle.wasm_imm.specs.declared.block_type.BlockType.TheVariants as block
use Rattle.wasm_below.proofs.Blocks.{refused_now}
use Rattle.wasm_below.proofs.Ahead.{fails_as}
use Rattle.wasm_imm.specs.BlockTypes.{EncodesBlockType, EncodesFunctionType}
use Rattle.wasm_imm.specs.BlockTypeFaults.{NegativeFault, FunctionTypeFault}

pub block_empty : (t : BlockType) → EncodesBlockType [] t → ⊥
block_empty block.Empty p = absurd (cc p)
block_empty (block.Value v) p = value_empty v p
block_empty (block.FuncType i) p = p

value_within : (b : ℕ) (tail : List ℕ) (v : ValType) → EncodesValType (b ∷ tail) v → (65 ≤ b) × (b ≤ 127)
value_within b tail value.I32 p = let e : b ≡ 127 = cc p in (omega arith, omega arith)
value_within b tail value.I64 p = let e : b ≡ 126 = cc p in (omega arith, omega arith)
value_within b tail value.F32 p = let e : b ≡ 125 = cc p in (omega arith, omega arith)
value_within b tail value.F64 p = let e : b ≡ 124 = cc p in (omega arith, omega arith)
value_within b tail value.V128 p = let e : b ≡ 123 = cc p in (omega arith, omega arith)
value_within b tail (value.Ref r) p = let l = ref_leads b tail r p in (omega (arith, l.0), omega (arith, l.1))

pub value_block : (b : ℕ) → 65 ≤ b → b ≤ 127 → (tail : List ℕ) (t : BlockType) → EncodesBlockType (b ∷ tail) t → (v : ValType) × EncodesValType (b ∷ tail) v
value_block b low high tail block.Empty p = let e : b ≡ 64 = cc p in absurd (omega arith)
value_block b low high tail (block.Value v) p = (v, p)
value_block b low high tail (block.FuncType i) p = absurd (index_leads 33 b tail i p (omega arith) (omega arith))

pub function_block : (b : ℕ) → ((64 ≤ b) × (b ≤ 127) → ⊥) → (tail : List ℕ) (t : BlockType) → EncodesBlockType (b ∷ tail) t → EncodesFunctionType (b ∷ tail) t
function_block b far tail block.Empty p = let e : b ≡ 64 = cc p in absurd (far (omega arith, omega arith))
function_block b far tail (block.Value v) p = let w = value_within b tail v p in absurd (far (omega (arith, w.0), w.1))
function_block b far tail (block.FuncType i) p = p

pub block_function : (text : List ℕ) (t : BlockType) → EncodesFunctionType text t → EncodesBlockType text t
block_function text block.Empty p = absurd p
block_function text (block.Value v) p = absurd p
block_function text (block.FuncType i) p = p

no_function : (text after more : List ℕ) (n : ℤ) → EncodesSigned 33 text n → ((i : ℕ) → n ≡ pos i → ⊥) →
    NoPrefix EncodesFunctionType ((text ++ after) ++ more)
no_function text after more n p over t2 more2 block.Empty q e = q
no_function text after more n p over t2 more2 (block.Value v) q e = q
no_function text after more n p over t2 more2 (block.FuncType i) q e =
    over i (signed_prefix_code text t2 33 (after ++ more) more2 n (pos i) p q (sym (append_assoc text after more) ∙ e)).1

pub negative_fails : (old mid : Reader) (n : ℤ) → HasRead (EncodesSigned 33) n old mid → ((i : ℕ) → n ≡ pos i → ⊥) → {e : Error} → e.offset ≡ offset_of mid →
    NegativeFault n e.message mid e.offset → Fails EncodesFunctionType FunctionTypeFault e old
negative_fails old mid n (text, p, t) over {e} offset fault =
    let some = signed_some text 33 n p in
    let left : length old.buffer - old.position ≡ length text + length (rest mid) = sym (length-drop old.position old.buffer) ∙ ap length t.parts ∙
    length-append text (rest mid) in
    let starts : mid.start ≡ old.start = ap (λ (r : Reader). r.start) t.moved in
    let position_is : mid.position ≡ old.position + length text = ap (λ (r : Reader). r.position) t.moved in (
      record {
        refuses = λ more _. subst (λ z. NoPrefix EncodesFunctionType (z ++ more)) (sym t.parts) (no_function text (rest mid) more n p over);
        fault = subst IsReadFault (sym fault.1) tt;
        ahead = (omega (arith, offset), omega (arith, offset));
      },
      inr (n, mid, (text, p, t), fault),
    )

function_number : (text : List ℕ) (t : BlockType) → EncodesFunctionType text t → (n : ℤ) × EncodesSigned 33 text n
function_number text block.Empty p = absurd p
function_number text (block.Value v) p = absurd p
function_number text (block.FuncType i) p = (pos i, p)

pub index_fails : {e : Error} {old : Reader} → Fails (EncodesSigned 33) S33Fault e old → Fails EncodesFunctionType FunctionTypeFault e old
index_fails {e} {old} h =
    fails_as (EncodesSigned 33) EncodesFunctionType S33Fault FunctionTypeFault function_number (λ f. inl (refused_now (EncodesSigned 33) e old h.0, f)) h

pub block_prefix_code : PrefixCode EncodesBlockType
block_prefix_code [] b x y m n p q e = absurd (block_empty m p)
block_prefix_code (c ∷ a) [] x y m n p q e = absurd (block_empty n q)
block_prefix_code (c ∷ a) (d ∷ b) x y block.Empty block.Empty p q e = (p ∙ sym q, refl)
block_prefix_code (c ∷ a) (d ∷ b) x y block.Empty (block.Value w) p q e = let h = value_within d b w q in let same : d ≡ 64 = cc (p, e) in
    absurd (omega (arith, h.0))
block_prefix_code (c ∷ a) (d ∷ b) x y block.Empty (block.FuncType j) p q e = let same : d ≡ 64 = cc (p, e) in
    absurd (index_leads 33 d b j q (omega arith) (omega arith))
block_prefix_code (c ∷ a) (d ∷ b) x y (block.Value v) block.Empty p q e = let h = value_within c a v p in let same : c ≡ 64 = cc (q, e) in
    absurd (omega (arith, h.0))
block_prefix_code (c ∷ a) (d ∷ b) x y (block.Value v) (block.Value w) p q e = let o = value_prefix_code (c ∷ a) (d ∷ b) x y v w p q e in
    (o.0, ap block.Value o.1)
block_prefix_code (c ∷ a) (d ∷ b) x y (block.Value v) (block.FuncType j) p q e = let h = value_within c a v p in let same : d ≡ c = cc e in
    absurd (index_leads 33 d b j q (omega (arith, h.0)) (omega (arith, h.1)))
block_prefix_code (c ∷ a) (d ∷ b) x y (block.FuncType i) block.Empty p q e = let same : c ≡ 64 = cc (q, e) in
    absurd (index_leads 33 c a i p (omega arith) (omega arith))
block_prefix_code (c ∷ a) (d ∷ b) x y (block.FuncType i) (block.Value w) p q e = let h = value_within d b w q in let same : c ≡ d = cc e in
    absurd (index_leads 33 c a i p (omega (arith, h.0)) (omega (arith, h.1)))
block_prefix_code (c ∷ a) (d ∷ b) x y (block.FuncType i) (block.FuncType j) p q e = let o = signed_prefix_code (c ∷ a) (d ∷ b) 33 x y (pos i) (pos j) p q e in
    (o.0, ap block.FuncType (cc (o.1)))

pub cast_fits : (z : ℤ) → lt_z z (pos 0) ≡ false → FitsWidth 33 z → T (non_neg z) × Fits w32 (nat_abs z)
cast_fits (pos n) h f = (tt, omega (arith, ints, f.1))
cast_fits (negsuc n) h f = absurd (cc h)
