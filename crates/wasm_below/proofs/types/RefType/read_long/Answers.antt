use Rattle.std.proofs.Common.{◌≡◌, ◌+◌, ◌∷◌, [], inl, refl, subst, sym, ap}
use Rattle.wasm_below.specs.Source.{Reader, at_position}
use Rattle.wasm_below.specs.TypeEncoding.{ref_byte, HeapTypeFault, RefTypeFault, EncodesHeapType, EncodesLongRef}
use Rattle.wasm_below.proofs.Ahead.{stays}
use Rattle.wasm_below.proofs.TakesLemmas.{takes_then}
use Rattle.wasm_below.proofs.Prefixes.{advanced, after_refused}
use Rattle.wasm_below.proofs.TypeEncodings.{long_after, long_empty}
use Rattle.wasm_below.proofs.types.RefType.read_long.Goals as goal

pub returns : goal.returns
returns c =
    let old = c.args.reader.now in
    let mid = c.advance.new.self in
    let r = c.in_ok-heap_type.ensures in
    let code = ref_byte c.args.nullable in
    let went = subst (λ (r : Reader). mid ≡ at_position r (r.position + 1)) c.clone-ahead.ensures c.advance.ensures in
    let first = advanced old mid code c.requires went in
    let referred = subst (EncodesHeapType r.0) (sym c.of.ensures.referred) r.1 in
    (code ∷ r.0, (r.0, ap (λ z. ref_byte z ∷ r.0) (sym c.of.ensures.nullable), referred), takes_then old mid c.read_other.new.reader (code ∷ []) r.0 first r.2)

pub returns-in_err-heap_type : goal.returns-in_err-heap_type
returns-in_err-heap_type c =
    let old = c.args.reader.now in
    let mid = c.advance.new.self in
    let h = c.in_err-heap_type.ensures in
    let e = c.in_err-heap_type.field-0.0 in
    let code = ref_byte c.args.nullable in
    let went = subst (λ (r : Reader). mid ≡ at_position r (r.position + 1)) c.clone-ahead.ensures c.advance.ensures in
    let first = advanced old mid code c.requires went in
    stays EncodesLongRef RefTypeFault _ refl c.from_residual.ensures.1 (
      after_refused EncodesHeapType EncodesLongRef e old mid code first long_empty (long_after c.args.nullable) h.1,
      inl (c.args.nullable, c.requires, subst (λ r. HeapTypeFault e.message r e.offset) went h.2),
    )
