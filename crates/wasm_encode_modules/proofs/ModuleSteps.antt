-- Sections one after the other.
use Rattle.std.proofs.Common.{◌≡◌, ◌≢◌, ℕ, suc, ◌+◌, ◌≤◌, ◌<◌, List, [], ◌∷◌, ◌++◌, length, Result, Ok, Err, refl, sym, subst, ap, ◌∙◌, append_assoc, length-append, arith}
use Rattle.std.proofs.lemmas.List.{append-nil}
use Rattle.wasm_below.specs.declared.features.WasmFeatures.{WasmFeatures}
use Rattle.wasm_grammars.specs.Blocks.{block}
use Rattle.wasm_grammars.specs.Grammar.{Encodes}
use Rattle.wasm_sections.specs.Module.{EncodesSections, EncodesModule}
use Rattle.wasm_sections.specs.Preamble.{preamble}
use Rattle.wasm_sections.specs.Section.{SectionParts}
use Rattle.std.specs.Prelude.{IsErrAnd}
use Rattle.wasm_below.specs.declared.message.Message.{Message}
use Rattle.wasm_below.specs.declared.message.Message.TheVariants as message
use Rattle.wasm_write_grammars.specs.Writing.{Writes, Extends, MemberReason}
use Rattle.wasm_encode_modules.specs.RawSections.{RawSection, raw_section, BeginsAsModule}
use Rattle.wasm_encode_modules.specs.WrittenModules.{HasContents, HaveContents, HoldsModule, AppendsModule, ModuleReason, AppendsSections}
use Rattle.wasm_encode_modules.proofs.RawSteps.{section_of_raw, no_module}

have_more : (features : WasmFeatures) (parts : List SectionParts) (ss : List RawSection) (part : SectionParts) (s : RawSection) → HaveContents features parts ss →
    HasContents features part s → HaveContents features (parts ++ part ∷ []) (ss ++ s ∷ [])
have_more features [] [] part s h one = (one, tt)
have_more features [] (x ∷ ss) part s h one = absurd h
have_more features (p ∷ parts) [] part s h one = absurd h
have_more features (p ∷ parts) (x ∷ ss) part s (h, hs) one = (h, have_more features parts ss part s hs one)

-- The bytes are these sections, and may be followed by others.
pub record AreSections (features : WasmFeatures) (ss : List RawSection) (text : List ℕ) : Type 0 where
  pub parts : ℕ → List SectionParts
  pub have : (at : ℕ) → HaveContents features (parts at) ss
  pub encodes : (at : ℕ) (after : List ℕ) (more : List SectionParts) → EncodesSections features (at + length text) after more →
      EncodesSections features at (text ++ after) (parts at ++ more)

pub no_sections : (features : WasmFeatures) → AreSections features [] []
no_sections features =
    record { parts = λ at. []; have = λ at. tt; encodes = λ at after more h. subst (λ k. EncodesSections features k after more) (let same : at + 0 ≡ at = omega arith in same) h }

pub one_section : (features : WasmFeatures) (ss : List RawSection) (s : RawSection) (text t : List ℕ) → AreSections features ss text →
    ((at : ℕ) → Encodes raw_section at t s) → (BeginsAsModule s → ⊥) → AreSections features (ss ++ s ∷ []) (text ++ t)
one_section features ss s text t are is not =
    record {
      parts = λ at. are.parts at ++ part at ∷ [];
      have = λ at. have_more features (are.parts at) ss (part at) s (are.have at) (section_of_raw features (at + length text) t s (is (at + length text))).1;
      encodes = joined;
    }
  where
    part : ℕ → SectionParts
    part at = (section_of_raw features (at + length text) t s (is (at + length text))).0

    joined : (at : ℕ) (after : List ℕ) (more : List SectionParts) → EncodesSections features (at + length (text ++ t)) after more →
        EncodesSections features at ((text ++ t) ++ after) ((are.parts at ++ part at ∷ []) ++ more)
    joined at after more h =
        let place = at + length text in
        let moved : at + length (text ++ t) ≡ place + length t = let l = length-append text t in omega (arith, l) in
        let first = (section_of_raw features place t s (is place)).2 in
        let next : EncodesSections features place (t ++ after) (part at ∷ more) =
        (t, after, refl, no_module place t after s (is place) not, first, subst (λ k. EncodesSections features k after more) moved h) in
        let all = are.encodes at (t ++ after) (part at ∷ more) next in
        subst (λ z. EncodesSections features at z ((are.parts at ++ part at ∷ []) ++ more)) (sym (append_assoc text t after))
        (subst (λ z. EncodesSections features at (text ++ (t ++ after)) z) (sym (append_assoc (are.parts at) (part at ∷ []) more)) all)

abbrev pub preamble_bytes : List ℕ
preamble_bytes = 0x00 ∷ 0x61 ∷ 0x73 ∷ 0x6d ∷ 0x01 ∷ 0x00 ∷ 0x00 ∷ 0x00 ∷ []

preamble_encodes : (at : ℕ) → Encodes preamble at preamble_bytes 1
preamble_encodes at = (
  0x00 ∷ 0x61 ∷ 0x73 ∷ 0x6d ∷ [],
  0x01 ∷ 0x00 ∷ 0x00 ∷ 0x00 ∷ [],
  0x6d736100,
  refl,
  (refl, omega arith),
  (refl, (0x01 ∷ 0x00 ∷ 0x00 ∷ 0x00 ∷ [], [], 1, refl, (refl, omega arith), (refl, (refl, refl)))),
)

-- A preamble and these sections were appended.
pub record Sections (ss : List RawSection) (old new : List ℕ) : Type 0 where
  pub text : List ℕ
  pub appended : new ≡ old ++ (preamble_bytes ++ text)
  pub are : (features : WasmFeatures) → AreSections features ss text

pub sections_begin : {n : ℕ} {bytes old new : List ℕ} → bytes ≡ preamble_bytes → Writes (block n) bytes old new → Sections [] old new
sections_begin {old = old} same w = record { text = []; appended = w.appended ∙ ap (λ z. old ++ z) ((w.encodes 0).0 ∙ same); are = no_sections }

pub section_added : {ss : List RawSection} {old mid new : List ℕ} (s : RawSection) → Sections ss old mid → (BeginsAsModule s → ⊥) × Writes raw_section s mid new →
    Sections (ss ++ s ∷ []) old new
section_added {ss} {old} {mid} {new} s before (not, w) =
    record {
      text = before.text ++ w.text;
      appended = w.appended ∙ ap (λ z. z ++ w.text) before.appended ∙ append_assoc old (preamble_bytes ++ before.text) w.text;
      are = λ features. one_section features ss s before.text w.text (before.are features) w.encodes not;
    }

pub module_appended : {ss : List RawSection} {old new : List ℕ} → Sections ss old new → AppendsModule ss old new
module_appended {ss} before = (preamble_bytes ++ before.text, before.appended, holds)
  where
    holds : (features : WasmFeatures) (at : ℕ) → HoldsModule features at (preamble_bytes ++ before.text) ss
    holds features at =
        let are = before.are features in
        let all = are.encodes (at + 8) [] [] refl in
        let flat = subst (λ z. EncodesSections features (at + 8) z (are.parts (at + 8))) (append-nil before.text)
        (subst (λ z. EncodesSections features (at + 8) (before.text ++ []) z) (append-nil (are.parts (at + 8))) all) in
        (are.parts (at + 8), are.have (at + 8), (preamble_bytes, before.text, 1, refl, preamble_encodes at, flat))

pub sections_fail : {Y : Type 0} {ss : List RawSection} (r : Result Y Message) {m : Message} → IsErrAnd r (λ k. k ≡ m) → {old new : List ℕ} → Extends old new →
    (m ≢ message.OutOfMemory → MemberReason ModuleReason ss m) → AppendsSections ss r old new
sections_fail (Ok y) is extends why = absurd is
sections_fail {ss = ss} (Err k) is extends why = (extends, subst (λ k. k ≢ message.OutOfMemory → MemberReason ModuleReason ss k) (sym is) why)
