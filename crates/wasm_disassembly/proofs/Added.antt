use Rattle.std.proofs.Common.{◌≡◌, ℕ, ◌+◌, List, [], ◌∷◌, ◌++◌, length, Option, refl, sym, subst, ap, ◌∙◌, append_assoc, append-nil, arith}
use Rattle.wasm_operators.specs.below.declared.error.Error.{Error}
use Rattle.wasm_operators.specs.below.declared.features.WasmFeatures.{WasmFeatures}
use Rattle.wasm_operators.specs.below.Source.{Reader}
use Rattle.wasm_module.specs.ModuleFunctions.{ModuleFunctions}
use Rattle.wasm_disassembly.specs.Listing.{Refusals, Reported}
use Rattle.wasm_disassembly.specs.ModuleCensus.{IsAdded, AreAdded, Adds, no_counts}
use Rattle.wasm_disassembly.proofs.Bodies.{reported_both}

added_more : (features : WasmFeatures) (t : ModuleFunctions) (only : Option ℕ) (place : ℕ) (bs : List Reader) (b : Reader) (reported one : Refusals)
    (before mid after : List ℕ) (at : ℕ) → at ≡ place + length bs → AreAdded features t only place bs reported before mid →
    IsAdded features t only at b one mid after → AreAdded features t only place (bs ++ b ∷ []) (reported ++ one) before after
added_more features t only place [] b reported one before mid after at is (all, none) added =
    let here : at ≡ place = is ∙ omega arith in (
      one,
      [],
      after,
      ap (λ z. z ++ one) all ∙ sym (append-nil one),
      subst (λ counts. IsAdded features t only place b one counts after) none (subst (λ n. IsAdded features t only n b one mid after) here added),
      (refl, refl),
    )
added_more features t only place (c ∷ cs) b reported one before mid after at is (first, others, between, all, added, later) last =
    let next : at ≡ place + 1 + length cs = is ∙ omega arith in (
      first,
      others ++ one,
      between,
      ap (λ z. z ++ one) all ∙ append_assoc first others one,
      added,
      added_more features t only (place + 1) cs b others one between mid after at next later last,
    )

pub adds_more : {S : Type 0} (reports : S → ℕ → Error → S → Type 0) (features : WasmFeatures) (t : ModuleFunctions) (only : Option ℕ) (bs : List Reader) (b : Reader)
    (reported one : Refusals) (at : ℕ) (before mid after : S) (counts more : List ℕ) → at ≡ length bs →
    Adds reports features t only bs reported before mid counts → IsAdded features t only at b one counts more → Reported reports one mid after →
    Adds reports features t only (bs ++ b ∷ []) (reported ++ one) before after more
adds_more reports features t only bs b reported one at before mid after counts more is a added reports_one =
    record { added = added_more features t only 0 bs b reported one no_counts counts more at (is ∙ sym (omega arith)) a.added added; reported_all = reported_both reports reported one before mid after a.reported_all reports_one }
