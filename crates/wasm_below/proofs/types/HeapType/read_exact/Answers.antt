use Rattle.std.proofs.Common.{◌≡◌, ◌+◌, ◌∷◌, [], inr, refl, sym, subst, ap, ◌∙◌, arith}
use Rattle.wasm_below.specs.Refusal.{IsReadFault}
use Rattle.wasm_below.specs.Fault.{ThenFault}
use Rattle.wasm_below.specs.Source.{Reader, rest, at_position, HasRead, U32Fault}
use Rattle.wasm_below.specs.Number.{EncodesUnsigned}
use Rattle.wasm_below.specs.TypeEncoding.{EncodesExact, ExactFault, NoIndex}
use Rattle.wasm_below.proofs.Ahead.{stays}
use Rattle.wasm_below.proofs.Faults.{first_fault}
use Rattle.wasm_below.proofs.TakesLemmas.{takes_then, rewound}
use Rattle.wasm_below.proofs.Prefixes.{advanced, refused_at, after_refused}
use Rattle.wasm_below.proofs.TypeEncodings.{no_exact, exact_after, exact_empty}
use Rattle.wasm_below.proofs.types.HeapType.read_exact.Goals as goal

pub returns-in_err-index : goal.returns-in_err-index
returns-in_err-index c =
    let old = c.args.reader.now in
    let mid = c.advance.new.self in
    let h = c.in_err-index.ensures in
    let e = c.in_err-index.field-0.0 in
    let went = subst (λ (r : Reader). mid ≡ at_position r (r.position + 1)) c.clone-ahead.ensures c.advance.ensures in
    let first = advanced old mid 98 c.requires went in
    stays EncodesExact ExactFault _ refl c.from_residual.ensures.1 (
      after_refused (EncodesUnsigned 32) EncodesExact e old mid 98 first exact_empty exact_after h.1,
      subst (λ r. ThenFault (EncodesUnsigned 32) U32Fault (λ n. NoIndex old) e.message r e.offset) went
          (first_fault (EncodesUnsigned 32) U32Fault (λ n. NoIndex old) e mid h.1 h.2),
    )

pub returns-then-index-gt-MAX_TYPE_INDEX : goal.returns-then-index-gt-MAX_TYPE_INDEX
returns-then-index-gt-MAX_TYPE_INDEX c =
    let old = c.args.reader.now in
    let mid = c.advance.new.self in
    let new = c.read_var_u32.new.self in
    let r = c.in_ok-index.ensures in
    let went = subst (λ (r : Reader). mid ≡ at_position r (r.position + 1)) c.clone-ahead.ensures c.advance.ensures in
    let whole = takes_then old mid new (98 ∷ []) r.0 (advanced old mid 98 c.requires went) r.2 in
    let place = c.new.ensures.offset ∙ c.original_position.ensures in
    let start : new.start ≡ old.start = ap (λ (r : Reader). r.start) whole.moved in
    let at = place ∙ ap (λ n. n + old.position) (sym start) in
    let refused = refused_at EncodesExact c.new.result old new old (98 ∷ r.0) old.position whole (omega arith) refl (sym (rewound old new (98 ∷ r.0) whole)) at
    (subst IsReadFault (sym c.new.ensures.message) tt) (λ more. no_exact r.0 (rest new) more c.in_ok-index.index r.1 c.if-index-gt-MAX_TYPE_INDEX.true) in
    (refl, refused.1, inr (c.in_ok-index.index, new, subst (λ z. HasRead (EncodesUnsigned 32) c.in_ok-index.index z new) went r, (c.new.ensures.message, place)))

pub returns : goal.returns
returns c =
    let old = c.args.reader.now in
    let mid = c.advance.new.self in
    let r = c.in_ok-index.ensures in
    let went = subst (λ (r : Reader). mid ≡ at_position r (r.position + 1)) c.clone-ahead.ensures c.advance.ensures in
    let first = advanced old mid 98 c.requires went in
    (98 ∷ r.0, (r.0, refl, r.1, c.if-index-gt-MAX_TYPE_INDEX.false), takes_then old mid c.read_var_u32.new.self (98 ∷ []) r.0 first r.2)
