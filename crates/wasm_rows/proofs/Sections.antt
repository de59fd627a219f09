-- Sections that are read and shown one by one.
use Rattle.std.proofs.Common.{◌≡◌, ℕ, List, [], ◌∷◌, ◌++◌, Bool, false, Option, Some, Result, Ok, Err, inr, refl, sym, subst, ap, ◌∙◌, append_assoc, append-nil}
use Rattle.std.specs.Io.KnownBytes.{Appends}
use Rattle.wasm_below.specs.declared.features.WasmFeatures.{WasmFeatures}
use Rattle.wasm_below.specs.Source.{Reader, rest, offset_of, end_of, reader_of, HasRead}
use Rattle.wasm_module.specs.Module.{SectionParts, EncodesSection}
use Rattle.wasm_module.specs.Sections.{BeginsModule, SectionsOccur}
use Rattle.wasm_rows.specs.declared.fault.Fault.{Fault}
use Rattle.wasm_rows.specs.Contents.{IsChosen, section_heading, section_text, text_if, AreShown, ShowsSections, ListsSections, IsNameOf, ListsContents, NoneChosen}
use Rattle.wasm_rows.specs.Rows.{rows_text}
use Rattle.wasm_rows.specs.Titles.{title_of}
use Rattle.wasm_rows.specs.Writing.{IsHalt, AppendsPart, HaltsIn, WritesPieces}
use Rattle.wasm_rows.proofs.Appended.{appends_none, appends_both, halts_after}

-- What the law `next_section` states of sections and the next.
abbrev pub OfNext : Type 0
OfNext = (first : Reader) (sections : List SectionParts) (mid new : Reader) (next : SectionParts) → SectionsOccur first sections mid →
    HasRead (EncodesSection mid.features) next mid new → end_of next.contents ≡ offset_of new → SectionsOccur first (sections ++ next ∷ []) new

shown_more : (asked : Option (List ℕ)) (ss : List SectionParts) (s : SectionParts) (b : Bool) (text : List ℕ) → AreShown asked ss text → IsChosen asked s b →
    AreShown asked (ss ++ s ∷ []) (text ++ text_if b s)
shown_more asked [] s b text none chosen = (b, chosen, [], ap (λ t. t ++ text_if b s) none ∙ sym (append-nil (text_if b s)), refl)
shown_more asked (t ∷ ts) s b text (c, has, more, is, shown) chosen = (
  c,
  has,
  more ++ text_if b s,
  ap (λ z. z ++ text_if b s) is ∙ append_assoc (text_if c t) more (text_if b s),
  shown_more asked ts s b more shown chosen,
)

pub shows_none : (asked : Option (List ℕ)) (first : Reader) (old : Option (List ℕ)) → ShowsSections asked first first old old
shows_none asked first old = record { sections = []; occur = refl; text = []; shown = refl; appends = appends_none old }

pub shows_more : (asked : Option (List ℕ)) → OfNext → (first mid new : Reader) (s : SectionParts) (b : Bool) (old between after : Option (List ℕ)) →
    ShowsSections asked first mid old between → HasRead (EncodesSection mid.features) s mid new → end_of s.contents ≡ offset_of new → IsChosen asked s b →
    Appends between after (text_if b s) → ShowsSections asked first new old after
shows_more asked one_more first mid new s b old between after h reads placed chosen wrote = record {
  sections = h.sections ++ s ∷ [];
  occur = one_more first h.sections mid new s h.occur reads placed;
  text = h.text ++ text_if b s;
  shown = shown_more asked h.sections s b h.text h.shown chosen;
  appends = appends_both old between after h.text (text_if b s) h.appends wrote;
}

pub none_more : (name : List ℕ) (ss : List SectionParts) (s : SectionParts) → NoneChosen name ss → IsChosen (Some name) s false → NoneChosen name (ss ++ s ∷ [])
none_more name [] s none chosen = (chosen, tt)
none_more name (t ∷ ts) s (first, more) chosen = (first, none_more name ts s more chosen)

-- A part of a text is appended after another text.
part_after : (a b c : Option (List ℕ)) (x y : List ℕ) → Appends a b x → AppendsPart b c y → AppendsPart a c (x ++ y)
part_after a b c x y before (written, left, parts, wrote) =
    (x ++ written, left, ap (λ z. x ++ z) parts ∙ sym (append_assoc x written left), appends_both a b c x written before wrote)

pieces_after : {X : Type 0} (r : Result X Fault) (a b c : Option (List ℕ)) (x y : List ℕ) → Appends a b x → WritesPieces y r b c → WritesPieces (x ++ y) r a c
pieces_after (Ok z) a b c x y before wrote = appends_both a b c x y before wrote
pieces_after (Err f) a b c x y before (halts, part) = (halts, part_after a b c x y before part)

-- The rows of a section after its heading.
pub section_written : {X : Type 0} (s : SectionParts) (id offset : ℕ) (contents : Reader) (bytes : List ℕ) (r : Result X Fault) (old mid new : Option (List ℕ)) →
    id ≡ s.id → contents ≡ s.contents → offset ≡ offset_of contents → bytes ≡ rest contents → Appends old mid (section_heading id) →
    WritesPieces (rows_text [] offset bytes) r mid new → WritesPieces (section_text s) r old new
section_written s id offset contents bytes r old mid new is_id is_contents is_offset are_bytes heading rows =
    pieces_after r old mid new (section_heading s.id) (rows_text [] (offset_of s.contents) (rest s.contents))
    (subst (λ i. Appends old mid (section_heading i)) is_id heading)
    (subst (λ b. WritesPieces (rows_text [] (offset_of s.contents) b) r mid new) (are_bytes ∙ ap rest is_contents)
    (subst (λ o. WritesPieces (rows_text [] o bytes) r mid new) (is_offset ∙ ap offset_of is_contents) rows))

-- Writing stops in the heading of a section.
pub heading_stopped : (s : SectionParts) (id : ℕ) (f : Fault) (old new : Option (List ℕ)) → id ≡ s.id → HaltsIn (section_heading id) f old new →
    IsHalt f × AppendsPart old new (section_text s)
heading_stopped s id f old new is_id halts =
    halts_after f old old new [] (section_heading s.id) (rows_text [] (offset_of s.contents) (rest s.contents)) (section_text s) refl (appends_none old)
    (subst (λ i. HaltsIn (section_heading i) f old new) is_id halts)

-- The listing after the title.
pub contents_listed : {X : Type 0} (asked : Option (List ℕ)) (features : WasmFeatures) (file : Option (List ℕ)) (bytes : List ℕ) (r : Result X Fault) (after : Reader)
    (name : List ℕ) (old titled new : Option (List ℕ)) → BeginsModule (reader_of features 0 bytes) after → IsNameOf (reader_of features 0 bytes) name →
    Appends old titled (title_of file name) → ListsSections asked after r titled new → ListsContents asked features file bytes r old new
contents_listed asked features file bytes (Ok x) after name old titled new begins named title lists =
    record { after = after; begins = begins; name = name; is_name = named; lists = (titled, title, lists) }
contents_listed asked features file bytes (Err f) after name old titled new begins named title lists =
    record { after = after; begins = begins; name = name; is_name = named; lists = inr (titled, title, lists) }
