use Rattle.std.proofs.Common.{◌≡◌, ◌≤◌, ℕ, pos, inr, refl, sym, subst, arith, rules, w64}
use Rattle.std.proofs.lemmas.Int.{ints, to_z-of_z}
use mir.Val.{SFits}
use Rattle.wasm_below.specs.Refusal.{IsReadFault}
use Rattle.wasm_below.specs.Reference.{max_type_index}
use Rattle.std.proofs.lemmas.Result.{err_from_is_err_and}
use Rattle.wasm_below.specs.TypeEncoding.{EncodesConcrete}
use Rattle.wasm_below.proofs.TypeFaults.{no_index, concrete_missing}
use Rattle.wasm_below.proofs.Prefixes.{refused_at}
use Rattle.wasm_below.proofs.PrefixCode.{signed_some}
use Rattle.wasm_below.proofs.TypeEncodings.{no_concrete}
use Rattle.wasm_below.proofs.types.HeapType.read_concrete.Goals as goal
use Rattle.wasm_below.proofs.types.HeapType.read_concrete.Goals.{then-index-lt0-via-then-index-lt0, then-index-lt0-via-else-index-lt0+then-index-from}

pub returns-then-index-lt0 : goal.returns-then-index-lt0
returns-then-index-lt0 c =
    let r = c.in_ok-index.ensures in
    let h = c.refuse.ensures in
    let fits : SFits w64 c.in_ok-index.index = search rules in
    let same = to_z-of_z w64 c.in_ok-index.index fits in
    let over : (i : ℕ) → c.in_ok-index.index ≡ pos i → i ≤ max_type_index → ⊥ = λ i e le.
    elim c.then-index-lt0.branch [
      | then-index-lt0-via-then-index-lt0 w ↦ omega (arith, ints, w.if-index-lt0.true, same, e, le)
      | then-index-lt0-via-else-index-lt0+then-index-from w ↦ omega (arith, ints, w.if-index-from.true, w.from.ensures, same, e, le)
    ] in
    let refused = refused_at EncodesConcrete c.refuse.result c.args.reader.now c.read_var_s33.new.self c.refuse.new.self r.0 c.current_position-start.result r.2
    (signed_some r.0 33 c.in_ok-index.index r.1) c.current_position-start.ensures h.rewound h.offset (subst IsReadFault (sym h.message) tt)
    (λ more. no_concrete r.0 _ more c.in_ok-index.index r.1 over) in
    let old = c.args.reader.now in (
      refused.0,
      refused.1,
      inr (
        c.in_ok-index.index,
        c.read_var_s33.new.self,
        r,
        no_index c.refuse.result.message c.refuse.result.offset c.current_position-start.result old old c.read_var_s33.new.self r.0 r.2 refl
            c.current_position-start.ensures h.message h.offset,
      ),
    )

pub returns-in_err-index : goal.returns-in_err-index
returns-in_err-index c =
    let p = err_from_is_err_and c.from_residual.result c.from_residual.ensures.1 in
    rw (p.1, p.2) (concrete_missing c.in_err-index.field-0.0 c.args.reader.now c.read_var_s33.new.self c.in_err-index.ensures)
