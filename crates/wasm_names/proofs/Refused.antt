-- A call that returns an error by `?`.
use Rattle.std.proofs.Common.{◌≡◌, ◌<◌, ◌≤◌, ℕ, inr, Result, Ok, Err, refl, sym, subst}
use Rattle.std.specs.Prelude.{IsErrAnd}
use Rattle.wasm_below.specs.declared.error.Error.{Error}
use Rattle.wasm_below.specs.Source.{Reader, offset_of}
use Rattle.wasm_grammars.specs.Parts.{u32}
use Rattle.wasm_grammars.specs.Reading.{Fails}
use Rattle.wasm_names.specs.declared.name.Name.{Name}
use Rattle.wasm_names.specs.Subsections.{max_name_id, ReadsName, FailsSubsection, ReadsSubsection}

pub map_refused : {id : ℕ} {old : Reader} {e : Error} (r : Result Name Error) → IsErrAnd r (λ y. y ≡ e) → 0 < id → id ≤ max_name_id → Fails u32 (offset_of old) e old →
    ReadsName id r old
map_refused (Ok n) is some few f = absurd is
map_refused {old = old} (Err y) is some few f = inr (some, few, subst (λ z. Fails u32 (offset_of old) z old) (sym is) f)

pub subsection_refused : {old : Reader} {e : Error} (r : Result Name Error) → IsErrAnd r (λ y. y ≡ e) → FailsSubsection e old → ReadsSubsection r old old
subsection_refused (Ok n) is f = absurd is
subsection_refused {old} (Err y) is f = (refl, subst (λ z. FailsSubsection z old) (sym is) f)
