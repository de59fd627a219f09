use Rattle.std.proofs.Common.{◌≡◌, ℕ, List, [], ◌∷◌, ◌++◌, map, refl, sym, ap, subst, ◌∙◌, append_assoc}
use Rattle.wasm_below.specs.declared.features.WasmFeatures.{WasmFeatures}
use Rattle.wasm_below.specs.Features.{multi_memory, call_indirect_overlong}
use Rattle.wasm_below.proofs.PrefixCode.{unsigned_prefix_code, signed_prefix_code, fixed_prefix_code_32, fixed_prefix_code_64, byte_prefix_code}
use Rattle.wasm_below.proofs.TakesLemmas.{same_rest}
use Rattle.wasm_below.proofs.TypePrefixCodes.{heap_prefix_code}
use Rattle.wasm_imm.specs.MemoryArgument.{EncodesMemArg}
use Rattle.wasm_imm.proofs.BlockTypes.{block_prefix_code}
use Rattle.wasm_imm.proofs.Casts.{cast_prefix_code}
use Rattle.wasm_imm.proofs.FlagsNumber.{memarg_prefix_code}
use Rattle.wasm_imm.proofs.HandlerTables.{select_prefix_code, try_prefix_code, resume_prefix_code}
use Rattle.wasm_imm.proofs.ShortPrefixCodes.{index_prefix_code, ordering_byte_prefix_code, fence_prefix_code}
use Rattle.wasm_imm.proofs.VectorPrefixCodes.{sixteen_prefix_code, vector_prefix_code}
use Rattle.wasm_imm.proofs.BranchTables.{table_prefix_code}
use Rattle.wasm_imm.specs.Immediate.{Immediate, unsigned_32, signed_32, signed_64, float_32, float_64, vector, one_lane, sixteen_lanes, memory_argument, memory_index, table_index_32, order, fence_order, heap_type, cast, block_type, branch_table, select_types, try_clauses, resume_clauses, kind_of, EncodesImmediate, EncodesImmediates}

pub immediate_prefix_code : (f : WasmFeatures) (i j : Immediate) (a b x y : List ℕ) → kind_of i ≡ kind_of j → EncodesImmediate f a i → EncodesImmediate f b j →
    a ++ x ≡ b ++ y → (i ≡ j) × (a ≡ b)
immediate_prefix_code f (unsigned_32 m) (unsigned_32 n) a b x y k p q e = let u = unsigned_prefix_code a b 32 x y m n p q e in (ap unsigned_32 u.1, u.0)
immediate_prefix_code f (signed_32 m) (signed_32 n) a b x y k p q e = let u = signed_prefix_code a b 32 x y m n p q e in (ap signed_32 u.1, u.0)
immediate_prefix_code f (signed_64 m) (signed_64 n) a b x y k p q e = let u = signed_prefix_code a b 64 x y m n p q e in (ap signed_64 u.1, u.0)
immediate_prefix_code f (float_32 m) (float_32 n) a b x y k p q e = let u = fixed_prefix_code_32 a b x y m n p q e in (ap float_32 u.1, u.0)
immediate_prefix_code f (float_64 m) (float_64 n) a b x y k p q e = let u = fixed_prefix_code_64 a b x y m n p q e in (ap float_64 u.1, u.0)
immediate_prefix_code f (vector m) (vector n) a b x y k p q e = let u = vector_prefix_code a b x y m n p q e in (ap vector u.1, u.0)
immediate_prefix_code f (one_lane m) (one_lane n) a b x y k p q e = let u = byte_prefix_code a b x y m n p q e in (ap one_lane u.1, u.0)
immediate_prefix_code f (sixteen_lanes m) (sixteen_lanes n) a b x y k p q e = let u = sixteen_prefix_code a b x y m n p q e in (ap sixteen_lanes u.1, u.0)
immediate_prefix_code f (memory_argument kind max m) (memory_argument sort least n) a b x y k p q e =
    let same : (kind ≡ sort) × (max ≡ least) = (cc k, cc k) in
    let at : EncodesMemArg f kind max b n = subst (λ z. EncodesMemArg f kind z b n) (sym same.1) (subst (λ z. EncodesMemArg f z least b n) (sym same.0) q) in
    let u = memarg_prefix_code f kind max a b x y m n p at e in
    (cc (same.0, same.1, u.1), u.0)
immediate_prefix_code f (memory_index m) (memory_index n) a b x y k p q e = let u = index_prefix_code multi_memory f a b x y m n p q e in
    (ap memory_index u.1, u.0)
immediate_prefix_code f (table_index_32 m) (table_index_32 n) a b x y k p q e = let u = index_prefix_code call_indirect_overlong f a b x y m n p q e in
    (ap table_index_32 u.1, u.0)
immediate_prefix_code f (order m) (order n) a b x y k p q e = let u = ordering_byte_prefix_code a b x y m n p q e in (ap order u.1, u.0)
immediate_prefix_code f (fence_order m) (fence_order n) a b x y k p q e = let u = fence_prefix_code f a b x y m n p q e in (ap fence_order u.1, u.0)
immediate_prefix_code f (heap_type m) (heap_type n) a b x y k p q e = let u = heap_prefix_code a b x y m n p q e in (ap heap_type u.1, u.0)
immediate_prefix_code f (cast m) (cast n) a b x y k p q e = let u = cast_prefix_code a b x y m n p q e in (ap cast u.1, u.0)
immediate_prefix_code f (block_type m) (block_type n) a b x y k p q e = let u = block_prefix_code a b x y m n p q e in (ap block_type u.1, u.0)
immediate_prefix_code f (branch_table m) (branch_table n) a b x y k p q e = let u = table_prefix_code a b x y m n p q e in (ap branch_table u.1, u.0)
immediate_prefix_code f (select_types m) (select_types n) a b x y k p q e = let u = select_prefix_code a b x y m n p q e in (ap select_types u.1, u.0)
immediate_prefix_code f (try_clauses m) (try_clauses n) a b x y k p q e = let u = try_prefix_code a b x y m n p q e in (ap try_clauses u.1, u.0)
immediate_prefix_code f (resume_clauses m) (resume_clauses n) a b x y k p q e = let u = resume_prefix_code a b x y m n p q e in (ap resume_clauses u.1, u.0)
immediate_prefix_code f _ _ a b x y k p q e = absurd (cc k)

pub immediates_prefix_code : (f : WasmFeatures) (is js : List Immediate) (a b x y : List ℕ) → map kind_of is ≡ map kind_of js → EncodesImmediates f a is →
    EncodesImmediates f b js → a ++ x ≡ b ++ y → (is ≡ js) × (a ≡ b)
immediates_prefix_code f [] [] a b x y k p q e = (refl, p ∙ sym q)
immediates_prefix_code f [] (j ∷ js) a b x y k p q e = absurd (cc k)
immediates_prefix_code f (i ∷ is) [] a b x y k p q e = absurd (cc k)
immediates_prefix_code f (i ∷ is) (j ∷ js) a b x y k (a1, a2, ea, pi, ps) (b1, b2, eb, qj, qs) e =
    let whole : a1 ++ (a2 ++ x) ≡ b1 ++ (b2 ++ y) = sym (append_assoc a1 a2 x) ∙ ap (λ z. z ++ x) (sym ea) ∙ e ∙ ap (λ z. z ++ y) eb ∙ append_assoc b1 b2 y in
    let h = immediate_prefix_code f i j a1 b1 (a2 ++ x) (b2 ++ y) (cc k) pi qj whole in
    let t = immediates_prefix_code f is js a2 b2 x y (cc k) ps qs (same_rest a1 b1 (a2 ++ x) (b2 ++ y) h.1 whole) in
    (cc (h.0, t.0), ea ∙ cc (h.1, t.1) ∙ sym eb)
