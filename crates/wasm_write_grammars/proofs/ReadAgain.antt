-- Reading what was written.
use Rattle.std.proofs.Common.{◌≡◌, ◌≢◌, ℕ, ◌⊎◌, inl, inr, List, [], ◌∷◌, ◌++◌, length, Result, Ok, Err, refl, sym, subst, ap, ◌∙◌, append_assoc}
use Rattle.std.proofs.lemmas.List.{append-nil}
use Rattle.wasm_below.specs.declared.error.Error.{Error}
use Rattle.wasm_below.specs.declared.message.Message.TheVariants as message
use Rattle.wasm_below.specs.Source.{Reader, rest, offset_of}
use Rattle.wasm_below.proofs.TakesLemmas.{same_rest}
use Rattle.wasm_grammars.specs.Grammar.{Grammar, Encodes, HasReadBy}
use Rattle.wasm_grammars.specs.Reading.{Reads, Fails}
use Rattle.wasm_grammars.proofs.Laws.{code}
use Rattle.wasm_grammars.proofs.Steps.{is_memory, none_here}
use Rattle.wasm_write_grammars.specs.Writing.{Writes, ReadsAgain}

module _ {X : Type 0} (g : Grammar X) (x : X) {before written : List ℕ} (w : Writes g x before written) {old : Reader} (after : List ℕ) where
  pub read_same : {y : X} {new : Reader} → HasReadBy g y old new → rest old ≡ w.text ++ after → (y ≡ x) × (rest new ≡ after)
  read_same {y} {new} (text, p, t) e =
      let same = code g (offset_of old) text w.text (rest new) after y x p (w.encodes (offset_of old)) (sym t.parts ∙ e) in
      (same.1, same_rest text w.text (rest new) after same.0 (sym t.parts ∙ e))

  pub read_exhausted : {f : Error} → Fails g (offset_of old) f old → rest old ≡ w.text ++ after → f.message ≡ message.OutOfMemory
  read_exhausted {f} h e = by (is_memory f.message)
    where
      by : (f.message ≡ message.OutOfMemory) ⊎ (f.message ≢ message.OutOfMemory) → f.message ≡ message.OutOfMemory
      by (inl is) = is
      by (inr known) = absurd (none_here (Encodes g (offset_of old)) f.message (rest old) known h.refuses w.text after x (w.encodes (offset_of old)) e)

pub read_again : {X : Type 0} (g : Grammar X) (x : X) (before written : List ℕ) (w : Writes g x before written) (r : Result X Error) (old new : Reader) (after : List ℕ) →
    rest old ≡ w.text ++ after → Reads g r old new → ReadsAgain x after r old new
read_again g x before written w (Ok y) old new after e h = read_same g x w after h e
read_again g x before written w (Err f) old new after e (unchanged, h) = (read_exhausted g x w after h e, unchanged)
