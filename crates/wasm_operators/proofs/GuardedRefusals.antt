-- A missing feature and a wrong frame are reported if and only if they occur.
use Rattle.std.proofs.Common.{◌≡◌, ℕ, ◌+◌, ◌<◌, List, [], ◌∷◌, None, inl, inr, refl, sym, subst, ap, ◌∙◌, arith}
use Rattle.wasm_below.specs.declared.features.WasmFeatures.{WasmFeatures}
use Rattle.wasm_below.specs.declared.message.FrameName.{FrameName}
use Rattle.wasm_below.specs.declared.message.InstructionName.{InstructionName}
use Rattle.wasm_below.specs.declared.message.Message.TheVariants as message
use Rattle.wasm_below.specs.Source.{Reader, rest, offset_of, at_position, IsByte, HasRead, BeginsWith}
use Rattle.wasm_below.proofs.Prefixes.{advanced}
use Rattle.wasm_below.proofs.TakesLemmas.{first_byte_read}
use Rattle.wasm_grammar.specs.declared.frame_kind.FrameKind.{FrameKind}
use Rattle.wasm_grammar.specs.Frames.{Allows}
use Rattle.wasm_imm.specs.Immediate.{Kind}
use Rattle.wasm_decode_opcodes.specs.declared.guard.Guard.{Guard}
use Rattle.wasm_decode_opcodes.specs.Entry.{Entry, unknown, prefixes, free, guarded, guarded_role, guarded_instruction, needed_frame}
use Rattle.wasm_decode_opcodes.specs.Entries.{entry_at}
use Rattle.wasm_decode_opcodes.specs.OperatorFaults.{LacksFeature, EntryFault, OperatorFault}
use Rattle.wasm_operators.specs.Guarded.{BeginsGuarded}
use Rattle.wasm_operators.proofs.Messages.{end_unguarded, subopcode_unguarded, free_unguarded, kinds_unguarded}

abbrev pub Lacking : WasmFeatures → InstructionName → Reader → ℕ → Type 0
Lacking f name r offset = (g : Guard) × BeginsGuarded g r × LacksFeature f g × (name ≡ guarded_instruction g) × (offset ≡ offset_of r)

abbrev pub Misplaced : WasmFeatures → FrameKind → InstructionName → FrameName → Reader → ℕ → Type 0
Misplaced f k name needed r offset =
    (g : Guard) × BeginsGuarded g r × (¬ LacksFeature f g) × (¬ Allows k (guarded_role g)) × (name ≡ guarded_instruction g) × (needed ≡ needed_frame g) ×
    (offset ≡ offset_of r + 1)

after_code : (r new : Reader) (code : ℕ) → HasRead IsByte code r new → offset_of new ≡ offset_of r + 1
after_code r new code reads =
    let t = (first_byte_read r new code reads).2 in
    ap offset_of t.moved ∙ omega arith

begins : (r new : Reader) (code : ℕ) (g : Guard) (ks : List Kind) → HasRead IsByte code r new → entry_at None code ≡ guarded g ks → BeginsGuarded g r
begins r new code g ks reads is =
    let first = first_byte_read r new code reads in
    (code, ks, first.1, (rest new, first.0), is)

lacking_entry : (f : WasmFeatures) (k : FrameKind) (name : InstructionName) (r new : Reader) (offset code : ℕ) (e : Entry) → entry_at None code ≡ e →
    HasRead IsByte code r new → EntryFault f k (offset_of r) code e (message.FeatureRequired name) new offset → Lacking f name r offset
lacking_entry f k name r new offset code prefixes is reads h = absurd (subopcode_unguarded f (offset_of r) code (message.FeatureRequired name) new offset h)
lacking_entry f k name r new offset code unknown is reads h = absurd (free_unguarded f (offset_of r) None code unknown (message.FeatureRequired name) new offset h)
lacking_entry f k name r new offset code (free ks) is reads h =
    absurd (free_unguarded f (offset_of r) None code (free ks) (message.FeatureRequired name) new offset h)
lacking_entry f k name r new offset code (guarded g ks) is reads (inl (lacks, e, at)) = (g, begins r new code g ks reads is, lacks, cc e, at)
lacking_entry f k name r new offset code (guarded g ks) is reads (inr (_, inl (_, e, _))) = absurd (cc e)
lacking_entry f k name r new offset code (guarded g ks) is reads (inr (_, inr (_, h))) =
    absurd (kinds_unguarded f (offset_of r) ks (message.FeatureRequired name) new offset h)

pub lacking_only : (f : WasmFeatures) (k : FrameKind) (name : InstructionName) (r : Reader) (offset : ℕ) →
    OperatorFault f k (message.FeatureRequired name) r offset → Lacking f name r offset
lacking_only f k name r offset (inl h) = absurd (end_unguarded (message.FeatureRequired name) r offset h.1)
lacking_only f k name r offset (inr (code, new, reads, h)) = lacking_entry f k name r new offset code (entry_at None code) refl reads h

misplaced_entry : (f : WasmFeatures) (k : FrameKind) (name : InstructionName) (needed : FrameName) (r new : Reader) (offset code : ℕ) (e : Entry) →
    entry_at None code ≡ e → HasRead IsByte code r new → EntryFault f k (offset_of r) code e (message.WrongFrame name needed) new offset →
    Misplaced f k name needed r offset
misplaced_entry f k name needed r new offset code prefixes is reads h =
    absurd (subopcode_unguarded f (offset_of r) code (message.WrongFrame name needed) new offset h)
misplaced_entry f k name needed r new offset code unknown is reads h =
    absurd (free_unguarded f (offset_of r) None code unknown (message.WrongFrame name needed) new offset h)
misplaced_entry f k name needed r new offset code (free ks) is reads h =
    absurd (free_unguarded f (offset_of r) None code (free ks) (message.WrongFrame name needed) new offset h)
misplaced_entry f k name needed r new offset code (guarded g ks) is reads (inl (_, e, _)) = absurd (cc e)
misplaced_entry f k name needed r new offset code (guarded g ks) is reads (inr (has, inl (bars, e, at))) =
    (g, begins r new code g ks reads is, has, bars, cc e, cc e, at ∙ after_code r new code reads)
misplaced_entry f k name needed r new offset code (guarded g ks) is reads (inr (_, inr (_, h))) =
    absurd (kinds_unguarded f (offset_of r) ks (message.WrongFrame name needed) new offset h)

pub misplaced_only : (f : WasmFeatures) (k : FrameKind) (name : InstructionName) (needed : FrameName) (r : Reader) (offset : ℕ) →
    OperatorFault f k (message.WrongFrame name needed) r offset → Misplaced f k name needed r offset
misplaced_only f k name needed r offset (inl h) = absurd (end_unguarded (message.WrongFrame name needed) r offset h.1)
misplaced_only f k name needed r offset (inr (code, new, reads, h)) = misplaced_entry f k name needed r new offset code (entry_at None code) refl reads h

code_read : (r : Reader) (code : ℕ) → code < 256 → BeginsWith code (rest r) → HasRead IsByte code r (at_position r (r.position + 1))
code_read r code small first = (code ∷ [], (refl, small), advanced r (at_position r (r.position + 1)) code first refl)

pub lacking_comes : (f : WasmFeatures) (k : FrameKind) (g : Guard) (r : Reader) → BeginsGuarded g r → LacksFeature f g →
    OperatorFault f k (message.FeatureRequired (guarded_instruction g)) r (offset_of r)
lacking_comes f k g r (code, ks, small, first, is) lacks =
    let new = at_position r (r.position + 1) in
    let m = message.FeatureRequired (guarded_instruction g) in
    inr (
      code,
      new,
      code_read r code small first,
      subst (λ e. EntryFault f k (offset_of r) code e m new (offset_of r)) (sym is) (inl (lacks, refl, refl)),
    )

pub misplaced_comes : (f : WasmFeatures) (k : FrameKind) (g : Guard) (r : Reader) → BeginsGuarded g r → (¬ LacksFeature f g) → (¬ Allows k (guarded_role g)) →
    OperatorFault f k (message.WrongFrame (guarded_instruction g) (needed_frame g)) r (offset_of r + 1)
misplaced_comes f k g r (code, ks, small, first, is) has bars =
    let new = at_position r (r.position + 1) in
    let m = message.WrongFrame (guarded_instruction g) (needed_frame g) in
    let reads = code_read r code small first in
    let at : offset_of r + 1 ≡ offset_of new = sym (after_code r new code reads) in
    inr (
      code,
      new,
      reads,
      subst (λ e. EntryFault f k (offset_of r) code e m new (offset_of r + 1)) (sym is) (inr (has, inl (bars, refl, at))),
    )
