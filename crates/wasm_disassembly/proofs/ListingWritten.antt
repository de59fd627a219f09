use Rattle.std.proofs.Common.{◌≡◌, ℕ, ◌+◌, List, [], ◌∷◌, ◌++◌, length, Option, refl, sym, subst, ap, ◌∙◌, append_assoc, append-nil, arith}
use Rattle.std.specs.Io.KnownBytes.{Appends}
use Rattle.wasm_operators.specs.below.declared.error.Error.{Error}
use Rattle.wasm_operators.specs.below.Source.{Reader}
use Rattle.wasm_index_names.specs.Known.{ModuleNames}
use Rattle.wasm_module.specs.ModuleFunctions.{ModuleFunctions}
use Rattle.wasm_disassembly.specs.Listing.{Refusals, Reported, IsWritten, AreWritten, Writes}
use Rattle.wasm_disassembly.proofs.Bodies.{reported_both, appends_both, appends_none}

written_more : (names : ModuleNames) (t : ModuleFunctions) (only : Option ℕ) (place : ℕ) (bs : List Reader) (b : Reader) (reported one : Refusals) (text own : List ℕ) (at : ℕ) →
    at ≡ place + length bs → AreWritten names t only place bs reported text → IsWritten names t only at b one own →
    AreWritten names t only place (bs ++ b ∷ []) (reported ++ one) (text ++ own)
written_more names t only place [] b reported one text own at is (all, none) written =
    let here : at ≡ place = is ∙ omega arith in (
      one,
      [],
      own,
      [],
      ap (λ z. z ++ one) all ∙ sym (append-nil one),
      ap (λ z. z ++ own) none ∙ sym (append-nil own),
      subst (λ n. IsWritten names t only n b one own) here written,
      (refl, refl),
    )
written_more names t only place (c ∷ cs) b reported one text own at is (first, others, front, more, all, parts, written, after) last =
    let next : at ≡ place + 1 + length cs = is ∙ omega arith in (
      first,
      others ++ one,
      front,
      more ++ own,
      ap (λ z. z ++ one) all ∙ append_assoc first others one,
      ap (λ z. z ++ own) parts ∙ append_assoc front more own,
      written,
      written_more names t only (place + 1) cs b others one more own at next after last,
    )

pub writes_none : {S : Type 0} (reports : S → ℕ → Error → S → Type 0) (names : ModuleNames) (t : ModuleFunctions) (only : Option ℕ) (s : S) (old : Option (List ℕ)) →
    Writes reports names t only [] [] s s old old
writes_none reports names t only s old = record { text = []; written = (refl, refl); appends = appends_none old; reported_all = refl }

pub writes_more : {S : Type 0} (reports : S → ℕ → Error → S → Type 0) (names : ModuleNames) (t : ModuleFunctions) (only : Option ℕ) (bs : List Reader) (b : Reader) (reported one : Refusals)
    (own : List ℕ) (at : ℕ) (before mid after : S) (old between new : Option (List ℕ)) → at ≡ length bs →
    Writes reports names t only bs reported before mid old between → IsWritten names t only at b one own → Reported reports one mid after → Appends between new own →
    Writes reports names t only (bs ++ b ∷ []) (reported ++ one) before after old new
writes_more reports names t only bs b reported one own at before mid after old between new is w written reports_one appends =
    record { text = w.text ++ own; written = written_more names t only 0 bs b reported one w.text own at (is ∙ sym (omega arith)) w.written written; appends = appends_both old between new w.text own w.appends appends; reported_all = reported_both reports reported one before mid after w.reported_all reports_one }
