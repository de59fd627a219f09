-- Why a code section, a section or a module is refused.
use Rattle.std.proofs.Common.{ℕ, ◌<◌, inl, inr, List, refl}
use Rattle.wasm_below.specs.Features.{all_features}
use Rattle.wasm_below.specs.Source.{Reader, HasRead, reader_of}
use Rattle.wasm_module.specs.Module.{SectionParts, EncodesSection}
use Rattle.wasm_module.specs.Refusals.{HasSectionsTo}
use Rattle.wasm_compaction.specs.declared.custom.Choices.{Choices}
use Rattle.wasm_compaction.specs.declared.fault.CompactionFault.{CompactionFault}
use Rattle.wasm_compaction.specs.declared.fault.CompactionFault.TheVariants as fault
use Rattle.wasm_compaction.specs.Faults.{RefusesNext, IsAfterBodies, RefusesCode, RefusesSection, RefusesModule}

pub next_refused : (f : CompactionFault) (count n : ℕ) (contents next : Reader) → IsAfterBodies count n contents next → n < count → RefusesNext n f next → RefusesCode f contents
next_refused (fault.Refused e) count n contents next a lt r = inr (inr (count, n, next, a, lt, r))
next_refused (fault.Body i e) count n contents next a lt r = inl (count, n, next, a, lt, r)
next_refused (fault.NotModule k) count n contents next a lt r = absurd r
next_refused (fault.Custom k o) count n contents next a lt r = absurd r
next_refused fault.Memory count n contents next a lt r = inr refl

pub section_refused : (c : Choices) (f : CompactionFault) (bytes : List ℕ) (next after : Reader) (s : SectionParts) → HasSectionsTo (reader_of all_features 0 bytes) next →
    HasRead (EncodesSection next.features) s next after → RefusesSection c f s → RefusesModule c f bytes
section_refused c (fault.Refused e) bytes next after s to read r = inr (next, after, s, to, read, r)
section_refused c (fault.Body i e) bytes next after s to read r = (next, after, s, to, read, r)
section_refused c (fault.NotModule k) bytes next after s to read (inl (id, inl (count, n, r, a, lt, bad))) = absurd bad
section_refused c (fault.NotModule k) bytes next after s to read (inl (id, inr same)) = absurd (cc same)
section_refused c (fault.NotModule k) bytes next after s to read (inr (inl (id, bad))) = absurd bad
section_refused c (fault.NotModule k) bytes next after s to read (inr (inr same)) = absurd (cc same)
section_refused c (fault.Custom k o) bytes next after s to read r = (next, after, s, to, read, r)
section_refused c fault.Memory bytes next after s to read r = tt
