-- A value that is the whole rest, and a list of items.
use Rattle.std.proofs.Common.{◌≡◌, suc, ◌+◌, ◌-◌, ◌≤◌, inl, inr, false, List, [], ◌∷◌, ◌++◌, Result, Ok, Err, refl, sym, subst, ap, ◌∙◌, arith}
use Rattle.std.specs.Prelude.{IsErrAnd}
use Rattle.std.proofs.lemmas.Bool.{false≢true}
use Rattle.std.proofs.lemmas.List.{append-nil}
use Rattle.wasm_below.specs.declared.error.Error.{Error}
use Rattle.wasm_below.specs.declared.features.WasmFeatures.{WasmFeatures}
use Rattle.wasm_below.specs.declared.message.Message.{Message}
use Rattle.wasm_below.specs.declared.message.Message.TheVariants as message
use Rattle.wasm_below.specs.Source.{Reader, rest, offset_of, end_of}
use Rattle.wasm_below.proofs.TakesLemmas.{same_rest}
use Rattle.wasm_grammars.specs.Grammar.{Grammar, allocate, Encodes, HasReadBy}
use Rattle.wasm_grammars.specs.Parts.{u32}
use Rattle.wasm_grammars.specs.Reading.{Fails}
use Rattle.wasm_grammars.proofs.Laws.{code}
use Rattle.wasm_grammars.proofs.Steps.{Comes, begins, then, fails_in, allocated, exhausted, ends, kept, none_here}
use Rattle.wasm_sections.specs.Items.{ItemsLeft, IsDone, StopsItems, HasDataAfter, FailsAll, ReadsAll, listed, items}

-- All bytes were read.
pub reads_all : {X : Type 0} (g : Grammar X) (x : X) {r end : Reader} → HasReadBy g x r end → rest end ≡ [] → Encodes g (offset_of r) (rest r) x
reads_all g x {r} (text, p, t) none =
    subst (λ z. Encodes g (offset_of r) z x) (sym (t.parts ∙ ap (λ z. text ++ z) none ∙ append-nil text)) p

-- The value's error.
pub fails_all : {X : Type 0} {g : Grammar X} (m : Message) {e : Error} {r : Reader} → Fails g (offset_of r) e r → FailsAll g m e r
fails_all {g = g} m {e} {r} h =
    record { none = λ known x p. none_here (Encodes g (offset_of r)) e.message (rest r) known h.refuses (rest r) [] x p (sym (append-nil (rest r))); cause = inl h }

-- Bytes are left.
pub leaves_some : {X : Type 0} {g : Grammar X} {m : Message} {e : Error} {r : Reader} → HasDataAfter g m e r → FailsAll g m e r
leaves_some {g = g} {m} {e} {r} (x, end, (text, p, t), some, is, at) =
    record {
      none = λ known y q.
          (let whole = sym t.parts ∙ sym (append-nil (rest r)) in
          some (same_rest text (rest r) (rest end) [] (code g (offset_of r) text (rest r) (rest end) [] x y p q whole).0 whole));
      cause = inr (x, end, (text, p, t), some, is, at);
    }

pub all_failed : {X : Type 0} {g : Grammar X} {m : Message} (result : Result X Error) {e : Error} {r : Reader} → IsErrAnd result (λ y. y ≡ e) → FailsAll g m e r →
    ReadsAll g m result r
all_failed (Ok x) is h = absurd is
all_failed {g = g} {m = m} (Err y) {r = r} is h = subst (λ z. FailsAll g m z r) (sym is) h

-- These items were read of the contents `r`.
pub record HasItems {X : Type 0} (g : WasmFeatures → Grammar X) (r : Reader) (left : ItemsLeft) (found : List X) : Type 0 where
  pub comes : Comes (offset_of r) (items (g r.features)) r (listed left.remaining (g r.features) found) left.reader
  pub within : offset_of r ≤ end_of left.reader
  pub going : left.refused ≡ false

module _ {X : Type 0} (g : WasmFeatures → Grammar X) (r : Reader) where
  pub items_first : (left : ItemsLeft) → left.refused ≡ false → HasReadBy u32 left.remaining r left.reader → offset_of r ≤ end_of r → HasItems g r left []
  items_first left going read le = record { comes = then (begins (items (g r.features)) refl) read; within = kept le read.2; going = going }

  one_of : (old new : ItemsLeft) (found : List X) (x : X) → HasItems g r old found → old.remaining ≡ new.remaining + 1 →
      HasReadBy (g old.reader.features) x old.reader new.reader →
      Comes (offset_of r) (items (g r.features)) r (allocate (listed new.remaining (g r.features) (found ++ x ∷ []))) new.reader
  one_of old new found x h less read =
      let left : old.remaining ≡ suc new.remaining = omega (arith, less) in
      then (subst (λ n. Comes (offset_of r) (items (g r.features)) r (listed n (g r.features) found) old.reader) left h.comes)
      (subst (λ f. HasReadBy (g f) x old.reader new.reader) h.comes.features read)

  pub items_next : (old new : ItemsLeft) (found : List X) (x : X) → HasItems g r old found → new.refused ≡ false → old.remaining ≡ new.remaining + 1 →
      HasReadBy (g old.reader.features) x old.reader new.reader → HasItems g r new (found ++ x ∷ [])
  items_next old new found x h going less read =
      record { comes = allocated (one_of old new found x h less read); within = kept h.within read.2; going = going }

  pub items_memory : (old new : ItemsLeft) (found : List X) (x : X) → HasItems g r old found → old.remaining ≡ new.remaining + 1 →
      HasReadBy (g old.reader.features) x old.reader new.reader → {e : Error} → e.message ≡ message.OutOfMemory → e.offset ≡ offset_of r →
      FailsAll (items (g r.features)) message.DataAfterSection e r
  items_memory old new found x h less read is at =
      fails_all message.DataAfterSection (exhausted (one_of old new found x h less read) (kept h.within read.2) is at)

  ended : (left : ItemsLeft) (found : List X) → HasItems g r left found → left.remaining ≡ 0 → HasReadBy (items (g r.features)) found r left.reader
  ended left found h none = ends (subst (λ n. Comes (offset_of r) (items (g r.features)) r (listed n (g r.features) found) left.reader) none h.comes)

  pub items_end : (left : ItemsLeft) (found : List X) → HasItems g r left found → IsDone left → Encodes (items (g r.features)) (offset_of r) (rest r) found
  items_end left found h (inl refused) = absurd (false≢true (sym h.going ∙ refused))
  items_end left found h (inr done) = reads_all (items (g r.features)) found (ended left found h done.0) done.1

  pub items_fail : (left : ItemsLeft) (found : List X) (e : Error) → HasItems g r left found → StopsItems (g left.reader.features) e left →
      FailsAll (items (g r.features)) message.DataAfterSection e r
  items_fail left found e h (inl (some, fails)) =
      let more : left.remaining ≡ suc (left.remaining - 1) = omega (arith, some) in
      fails_all message.DataAfterSection
      (fails_in (subst (λ n. Comes (offset_of r) (items (g r.features)) r (listed n (g r.features) found) left.reader) more h.comes)
      (subst (λ f. Fails (g f) (offset_of left.reader) e left.reader) h.comes.features fails))
  items_fail left found e h (inr (none, some, is, at)) = leaves_some (found, left.reader, ended left found h none, some, is, at)
