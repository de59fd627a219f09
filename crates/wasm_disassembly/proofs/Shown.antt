use Rattle.std.proofs.Common.{◌≡◌, ℕ, List, [], ◌∷◌, ◌++◌, Option, Result, Ok, Err, IfErr, refl, sym, subst, ap, ◌∙◌, append_assoc, append-nil}
use Rattle.std.specs.Io.KnownBytes.{Appends}
use Rattle.wasm_operators.specs.below.declared.features.WasmFeatures.{WasmFeatures}
use Rattle.wasm_operators.specs.below.Source.{Reader, offset_of, end_of, reader_of, HasRead}
use Rattle.wasm_module.specs.Module.{SectionParts, EncodesSection}
use Rattle.wasm_module.specs.Sections.{BeginsModule, SectionsOccur}
use Rattle.wasm_disassembly.specs.declared.listing_fault.Fault.{Fault}
use Rattle.wasm_disassembly.specs.declared.listing_fault.Fault.TheVariants as fault
use Rattle.wasm_disassembly.specs.declared.headers.Detail.{Detail}
use Rattle.wasm_disassembly.specs.Headers.{HasDetail, section_line, AreShown, ShowsSections, ListsSections, IsSectionFault, IsNameOf, sections_heading, ListsHeaders}
use Rattle.wasm_disassembly.specs.Listing.{IsHalt, heading_of}
use Rattle.wasm_disassembly.proofs.Bodies.{appends_both, appends_none}

-- What the law `next_section` states of sections and the next.
abbrev pub OfNext : Type 0
OfNext = (first : Reader) (sections : List SectionParts) (mid new : Reader) (next : SectionParts) → SectionsOccur first sections mid →
    HasRead (EncodesSection mid.features) next mid new → end_of next.contents ≡ offset_of new → SectionsOccur first (sections ++ next ∷ []) new

shown_more : (ss : List SectionParts) (s : SectionParts) (d : Detail) (text : List ℕ) → AreShown ss text → HasDetail s (Ok d) →
    AreShown (ss ++ s ∷ []) (text ++ section_line s d)
shown_more [] s d text none has = (d, has, [], ap (λ z. z ++ section_line s d) none ∙ sym (append-nil (section_line s d)), refl)
shown_more (t ∷ ts) s d text (e, has_e, more, is, others) has = (
  e,
  has_e,
  more ++ section_line s d,
  ap (λ z. z ++ section_line s d) is ∙ append_assoc (section_line t e) more (section_line s d),
  shown_more ts s d more others has,
)

pub shows_none : (first : Reader) (old : Option (List ℕ)) → ShowsSections first first old old
shows_none first old = record { sections = []; occur = refl; text = []; shown = refl; appends = appends_none old }

pub shows_more : OfNext → (first mid new : Reader) (s : SectionParts) (d : Detail) (old between after : Option (List ℕ)) → ShowsSections first mid old between →
    HasRead (EncodesSection mid.features) s mid new → end_of s.contents ≡ offset_of new → HasDetail s (Ok d) → Appends between after (section_line s d) →
    ShowsSections first new old after
shows_more one_more first mid new s d old between after h reads placed has wrote = record {
  sections = h.sections ++ s ∷ [];
  occur = one_more first h.sections mid new s h.occur reads placed;
  text = h.text ++ section_line s d;
  shown = shown_more h.sections s d h.text h.shown has;
  appends = appends_both old between after h.text (section_line s d) h.appends wrote;
}

-- A fact about `Memory` and `Writing`.
pub at_halt : (P : Fault → Type 0) (f : Fault) → IsHalt f → P fault.Memory → P fault.Writing → P f
at_halt P (fault.Module f) halts memory writing = absurd halts
at_halt P (fault.NoFunction i) halts memory writing = absurd halts
at_halt P (fault.Section e) halts memory writing = absurd halts
at_halt P (fault.Code e) halts memory writing = absurd halts
at_halt P fault.Writing halts memory writing = writing
at_halt P fault.Memory halts memory writing = memory

pub writing_stops : {X : Type 0} (r : Result X Fault) → IfErr r (λ f. f ≡ fault.Writing) → IfErr r (λ f. IsHalt f)
writing_stops (Ok x) is = tt
writing_stops (Err f) is = subst IsHalt (sym is) tt

pub headers_listed : {X : Type 0} (features : WasmFeatures) (file : Option (List ℕ)) (bytes : List ℕ) (r : Result X Fault) (after : Reader) (name : List ℕ)
    (old titled new : Option (List ℕ)) → BeginsModule (reader_of features 0 bytes) after → IsNameOf (reader_of features 0 bytes) name →
    Appends old titled (heading_of file name sections_heading) → ListsSections after r titled new → IfErr r (λ f. IsSectionFault f) →
    ListsHeaders features file bytes r old new
headers_listed features file bytes (Ok x) after name old titled new begins named title lists kinds =
    record { after = after; begins = begins; name = name; is_name = named; titled = titled; title = title; lists = lists }
headers_listed features file bytes (Err (fault.Section e)) after name old titled new begins named title lists kinds =
    record { after = after; begins = begins; name = name; is_name = named; titled = titled; title = title; lists = lists }
headers_listed features file bytes (Err (fault.Module f)) after name old titled new begins named title lists kinds = absurd kinds
headers_listed features file bytes (Err (fault.NoFunction i)) after name old titled new begins named title lists kinds = tt
headers_listed features file bytes (Err (fault.Code e)) after name old titled new begins named title lists kinds = tt
headers_listed features file bytes (Err fault.Writing) after name old titled new begins named title lists kinds = tt
headers_listed features file bytes (Err fault.Memory) after name old titled new begins named title lists kinds = tt
