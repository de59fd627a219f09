-- Operators whose feature and frame are checked first.
use Rattle.std.proofs.Common.{◌≡◌, ℕ, ◌+◌, ◌≤◌, ◌<◌, inl, inr, List, [], ◌∷◌, ◌++◌, Option, Some, None, Ok, Err, refl, sym, subst, ap, ◌∙◌, append_assoc, arith}
use Rattle.wasm_below.specs.declared.error.Error.{Error}
use Rattle.wasm_below.specs.declared.features.WasmFeatures.{WasmFeatures}
use Rattle.wasm_below.specs.declared.message.Message.{Message}
use Rattle.wasm_below.specs.declared.message.Message.TheVariants as message
use Rattle.wasm_below.specs.Fault.{HasFault}
use Rattle.wasm_below.specs.Features.{HasFeature, legacy_exceptions}
use Rattle.wasm_below.specs.Refusal.{IsReadFault}
use Rattle.wasm_below.specs.Source.{Reader, rest, offset_of, end_of, at_position, NoPrefix, HasRead}
use Rattle.wasm_grammar.specs.declared.frame_kind.FrameKind.{FrameKind}
use Rattle.wasm_grammar.specs.declared.frame_kind.FrameKind.TheVariants as frame
use Rattle.wasm_grammar.specs.Frames.{Allows}
use Rattle.wasm_grammar.specs.Role.{Role, opens_try, turns_else, turns_catch, turns_catch_all, delegates}
use Rattle.wasm_instr.specs.declared.operator.Operator.{Operator}
use Rattle.wasm_instr.specs.declared.operator.Operator.TheVariants as operator
use Rattle.wasm_instr.specs.Encoding.{EncodesOpcode, IsEnabled, EncodesOperator}
use Rattle.wasm_imm.specs.Immediate.{Immediate, Kind}
use Rattle.wasm_instr.specs.Roles.{role_of}
use Rattle.wasm_instr.specs.Row.{prefix_of, opcode_of}
use Rattle.wasm_decode_opcodes.specs.declared.guard.Guard.{Guard}
use Rattle.wasm_decode_opcodes.specs.declared.guard.Guard.TheVariants as guard
use Rattle.wasm_decode_opcodes.specs.Allowed.{EncodesAllowed}
use Rattle.wasm_decode_opcodes.specs.Decoding.{Decodes, DecodesOperator, IsAfterCode, VisitsRow}
use Rattle.wasm_decode_opcodes.specs.Entry.{prefixes, unknown, free, guarded, kinds_of, guard_of, guarded_entry, entry_of, guarded_role, guarded_instruction, needed_frame, NeedsLegacy, entry_kinds}
use Rattle.wasm_decode_opcodes.specs.Entries.{entry_at}
use Rattle.wasm_decode_opcodes.specs.Kinds.{EncodesKinds}
use Rattle.wasm_decode_opcodes.specs.OperatorFaults.{KindsFault, LacksFeature, GuardFault, EntryFault, OperatorFault}
use Rattle.wasm_decode_opcodes.proofs.KindLemmas.{RefusesKinds}
use Rattle.wasm_decode_opcodes.proofs.OperatorLemmas.{IsCode, Own, own, same_entry, refused_operator, opcode_fault, reads_visited, none_unknown, subopcode_fault, within_after_code}

-- ---- the roles of guarded operators, for any immediates

else_same : (A B : Type 0) (k : FrameKind) → Allows {A = A} k turns_else → Allows {A = B} k turns_else
else_same A B frame.If h = refl
else_same A B k h = absurd (cc h)

catch_same : (A B : Type 0) (k : FrameKind) (m n : ℕ) → Allows {A = A} k (turns_catch m) → Allows {A = B} k (turns_catch n)
catch_same A B frame.LegacyTry m n h = refl
catch_same A B frame.LegacyCatch m n h = refl
catch_same A B k m n h = absurd (cc h)

catch_all_same : (A B : Type 0) (k : FrameKind) → Allows {A = A} k turns_catch_all → Allows {A = B} k turns_catch_all
catch_all_same A B frame.LegacyTry h = refl
catch_all_same A B frame.LegacyCatch h = refl
catch_all_same A B k h = absurd (cc h)

delegate_same : (A B : Type 0) (k : FrameKind) (m n : ℕ) → Allows {A = A} k (delegates m) → Allows {A = B} k (delegates n)
delegate_same A B frame.LegacyTry m n h = refl
delegate_same A B k m n h = absurd (cc h)

some_guard : (a g : Guard) → Some a ≡ Some g → a ≡ g
some_guard a g e = cc e

-- if a frame allows the operator, it allows the role of its guard
pub allows_guard : (k : FrameKind) (op : Operator) (g : Guard) → guard_of (role_of op) ≡ Some g → Allows k (role_of op) → Allows k (guarded_role g)
allows_guard k operator.Else g e h = subst (λ z. Allows k (guarded_role z)) (some_guard guard.Else g e) (else_same Operator ℕ k h)
allows_guard k (operator.Try ty) g e h = subst (λ z. Allows k (guarded_role z)) (some_guard guard.Try g e) refl
allows_guard k (operator.Catch tag) g e h = subst (λ z. Allows k (guarded_role z)) (some_guard guard.Catch g e) (catch_same Operator ℕ k tag 0 h)
allows_guard k operator.CatchAll g e h = subst (λ z. Allows k (guarded_role z)) (some_guard guard.CatchAll g e) (catch_all_same Operator ℕ k h)
allows_guard k (operator.Delegate depth) g e h = subst (λ z. Allows k (guarded_role z)) (some_guard guard.Delegate g e) (delegate_same Operator ℕ k depth 0 h)
allows_guard k op g e h = absurd (cc e)

pub guard_allows : (k : FrameKind) (op : Operator) (g : Guard) → guard_of (role_of op) ≡ Some g → Allows k (guarded_role g) → Allows k (role_of op)
guard_allows k operator.Else g e h = else_same ℕ Operator k (subst (λ z. Allows k (guarded_role z)) (sym (some_guard guard.Else g e)) h)
guard_allows k (operator.Try ty) g e h = refl
guard_allows k (operator.Catch tag) g e h = catch_same ℕ Operator k 0 tag (subst (λ z. Allows k (guarded_role z)) (sym (some_guard guard.Catch g e)) h)
guard_allows k operator.CatchAll g e h = catch_all_same ℕ Operator k (subst (λ z. Allows k (guarded_role z)) (sym (some_guard guard.CatchAll g e)) h)
guard_allows k (operator.Delegate depth) g e h = delegate_same ℕ Operator k 0 depth (subst (λ z. Allows k (guarded_role z)) (sym (some_guard guard.Delegate g e)) h)
guard_allows k op g e h = absurd (cc e)

-- an operator with an encoding has its feature enabled
pub enabled_needs : (f : WasmFeatures) (op : Operator) (g : Guard) → guard_of (role_of op) ≡ Some g → NeedsLegacy g → IsEnabled f op → HasFeature legacy_exceptions f
enabled_needs f operator.Else g e n h = absurd (subst NeedsLegacy (sym (some_guard guard.Else g e)) n)
enabled_needs f (operator.Try ty) g e n h = h
enabled_needs f (operator.Catch tag) g e n h = h
enabled_needs f operator.CatchAll g e n h = h
enabled_needs f (operator.Delegate depth) g e n h = absurd (subst NeedsLegacy (sym (some_guard guard.Delegate g e)) n)
enabled_needs f op g e n h = absurd (cc e)

pub guard_enables : (f : WasmFeatures) (op : Operator) (g : Guard) → guard_of (role_of op) ≡ Some g → (NeedsLegacy g → HasFeature legacy_exceptions f) → IsEnabled f op
guard_enables f operator.Else g e h = tt
guard_enables f (operator.Try ty) g e h = h (subst NeedsLegacy (some_guard guard.Try g e) tt)
guard_enables f (operator.Catch tag) g e h = h (subst NeedsLegacy (some_guard guard.Catch g e) tt)
guard_enables f operator.CatchAll g e h = h (subst NeedsLegacy (some_guard guard.CatchAll g e) tt)
guard_enables f (operator.Delegate depth) g e h = tt
guard_enables f op g e h = absurd (cc e)

guard_in : (own : Option Guard) (g : Guard) (own_kinds ks : List Kind) → guarded_entry own own_kinds ≡ guarded g ks → own ≡ Some g
guard_in None g own_kinds ks e = absurd (cc e)
guard_in (Some h) g own_kinds ks e = let same : h ≡ g = cc e in ap Some same

-- an operator with a guarded opcode has that guard
pub guard_of_code : (op : Operator) (code : ℕ) (g : Guard) (ks : List Kind) → prefix_of op ≡ None → opcode_of op ≡ code → entry_at None code ≡ guarded g ks →
    guard_of (role_of op) ≡ Some g
guard_of_code op code g ks prefix opcode e = guard_in (guard_of (role_of op)) g (kinds_of op) ks (sym (same_entry op None code prefix opcode) ∙ e)

-- ---- errors before the immediates

-- an error after the operator's start, if no bytes after this opcode make it an operator
pub refuses_opcode : (k : FrameKind) (p : Option ℕ) (code start : ℕ) (e : Error) (mid new : Reader) → IsCode p code → IsAfterCode start p code mid →
    ((head after : List ℕ) → EncodesOpcode p head code → NoPrefix (EncodesAllowed mid.features k) (head ++ after)) → new ≡ at_position mid start →
    IsReadFault e.message → mid.start + start ≤ e.offset → e.offset ≤ offset_of mid → (HasFault (OperatorFault mid.features k) e (at_position mid start)) →
    DecodesOperator (EncodesAllowed mid.features k) (OperatorFault mid.features k) (Err e) (at_position mid start) new
refuses_opcode k p code start e mid new c b none went readable from to fault = go b.opcode
  where
    go : HasRead (EncodesOpcode p) code (at_position mid start) mid →
        DecodesOperator (EncodesAllowed mid.features k) (OperatorFault mid.features k) (Err e) (at_position mid start) new
    go (head, opcode, t) = (
      went,
      record {
        refuses = λ more follow. subst (NoPrefix (EncodesAllowed mid.features k)) (sym (ap (λ z. z ++ more) t.parts ∙ append_assoc head (rest mid) more))
            (none head (rest mid ++ more) opcode);
        ahead = (from, omega (arith, to, within_after_code start p code mid b));
        fault = fault;
        memory = λ m. absurd (subst IsReadFault m readable);
      },
    )

not_prefix : (code : ℕ) (g : Guard) (ks : List Kind) → entry_at None code ≡ guarded g ks → entry_at None code ≡ prefixes → ⊥
not_prefix code g ks e h = cc (sym e ∙ h)

-- without its feature, no operator with this opcode has an encoding
pub none_enabled : (f : WasmFeatures) (k : FrameKind) (code : ℕ) (g : Guard) (ks : List Kind) (head after : List ℕ) → IsCode None code → entry_at None code ≡ guarded g ks →
    LacksFeature f g → EncodesOpcode None head code → NoPrefix (EncodesAllowed f k) (head ++ after)
none_enabled f k code g ks head after c is (needs, without) h text left op s eq =
    let o = own f None code head after text left op c h s.0 eq in
    without (enabled_needs f op g (guard_of_code op code g ks o.same_prefix o.same_code is) needs s.0.enabled)

-- no operator with this opcode is allowed in another frame
pub none_allowed : (f : WasmFeatures) (k : FrameKind) (code : ℕ) (g : Guard) (ks : List Kind) (head after : List ℕ) → IsCode None code → entry_at None code ≡ guarded g ks →
    (Allows k (guarded_role g) → ⊥) → EncodesOpcode None head code → NoPrefix (EncodesAllowed f k) (head ++ after)
none_allowed f k code g ks head after c is without h text left op s eq =
    let o = own f None code head after text left op c h s.0 eq in
    without (allows_guard k op g (guard_of_code op code g ks o.same_prefix o.same_code is) s.1)

-- the fault of a guarded opcode
guarded_fault : (k : FrameKind) (code start : ℕ) (g : Guard) (ks : List Kind) (m : Message) (mid : Reader) (offset : ℕ) → code < 256 → entry_at None code ≡ guarded g ks →
    IsAfterCode start None code mid → GuardFault mid.features k (mid.start + start) g (KindsFault mid.features (mid.start + start) ks) m mid offset →
    OperatorFault mid.features k m (at_position mid start) offset
guarded_fault k code start g ks m mid offset small is b fault =
    opcode_fault k code start m mid offset small b (subst (λ z. EntryFault mid.features k (mid.start + start) code z m mid offset) (sym is) fault)

-- the feature is off
pub lacks_feature : (k : FrameKind) (code start : ℕ) (g : Guard) (ks : List Kind) (e : Error) (mid new : Reader) → code < 256 → entry_at None code ≡ guarded g ks →
    IsAfterCode start None code mid → LacksFeature mid.features g → new ≡ at_position mid start → e.message ≡ message.FeatureRequired (guarded_instruction g) →
    e.offset ≡ mid.start + start →
    DecodesOperator (EncodesAllowed mid.features k) (OperatorFault mid.features k) (Err e) (at_position mid start) new
lacks_feature k code start g ks e mid new small is b lacks went m at =
    refuses_opcode k None code start e mid new (not_prefix code g ks is, small) b
    (λ head after. none_enabled mid.features k code g ks head after (not_prefix code g ks is, small) is lacks) went (subst IsReadFault (sym m) tt) (omega (arith, at))
    (omega (arith, at, b.begun)) (λ some. guarded_fault k code start g ks e.message mid e.offset small is b (inl (lacks, m, at)))

-- the frame does not allow the operator
pub wrong_frame : (k : FrameKind) (code start : ℕ) (g : Guard) (ks : List Kind) (e : Error) (mid new : Reader) → code < 256 → entry_at None code ≡ guarded g ks →
    IsAfterCode start None code mid → ¬ LacksFeature mid.features g → (Allows k (guarded_role g) → ⊥) → new ≡ at_position mid start →
    e.message ≡ message.WrongFrame (guarded_instruction g) (needed_frame g) → e.offset ≡ offset_of mid →
    DecodesOperator (EncodesAllowed mid.features k) (OperatorFault mid.features k) (Err e) (at_position mid start) new
wrong_frame k code start g ks e mid new small is b has without went m at =
    refuses_opcode k None code start e mid new (not_prefix code g ks is, small) b
    (λ head after. none_allowed mid.features k code g ks head after (not_prefix code g ks is, small) is without) went (subst IsReadFault (sym m) tt)
    (omega (arith, at, b.begun)) (omega (arith, at)) (λ some. guarded_fault k code start g ks e.message mid e.offset small is b (inr (has, inl (without, m, at))))

-- ---- after the guard

-- reading the immediates fails
pub refuses_guarded : {V A : Type 0} (visits : V → Operator → A → V → Type 0) (k : FrameKind) (code : ℕ) (g : Guard) (ks : List Kind) (start : ℕ) (e : Error) (mid new : Reader)
    (v : V) → code < 256 → entry_at None code ≡ guarded g ks → IsAfterCode start None code mid → ¬ LacksFeature mid.features g → Allows k (guarded_role g) →
    RefusesKinds ks (λ r. ⊥) start e mid new →
    Decodes visits (EncodesAllowed mid.features k) (OperatorFault mid.features k) (Err e) (at_position mid start) new v v
refuses_guarded visits k code g ks start e mid new v small is b has allows (went, h) = (
  refl,
  (
    went,
    refused_operator k None code ks (λ r. ⊥) start e mid (not_prefix code g ks is, small) (ap entry_kinds is) b h (λ none. absurd none)
        (λ some. guarded_fault k code start g ks e.message mid e.offset small is b (inr (has, inr (λ without. without allows, h.fault some)))),
  ),
)

-- the visit was made
pub visited_guarded : {V A : Type 0} (visits : V → Operator → A → V → Type 0) (Fault : Message → Reader → ℕ → Type 0) (k : FrameKind) (code : ℕ) (g : Guard) (ks : List Kind)
    (is : List Immediate) (start : ℕ) (mid new : Reader) (v w : V) (a : A) → entry_at None code ≡ guarded g ks → IsAfterCode start None code mid →
    (NeedsLegacy g → HasFeature legacy_exceptions mid.features) → Allows k (guarded_role g) → VisitsRow visits None code is v a w →
    HasRead (EncodesKinds mid.features ks) is mid new →
    Decodes visits (EncodesAllowed mid.features k) Fault (Ok a) (at_position mid start) new v w
visited_guarded visits Fault k code g ks is start mid new v w a e b has allows vis i =
    reads_visited visits Fault k None code ks is start mid new v w a b vis i
    (λ op prefix opcode. let h = guard_of_code op code g ks prefix opcode e in (guard_enables mid.features op g h has, guard_allows k op g h allows))

-- ---- unknown opcodes

pub refuses_unknown : (k : FrameKind) (p : Option ℕ) (code start : ℕ) (e : Error) (mid new : Reader) → IsCode p code → entry_at p code ≡ unknown → IsAfterCode start p code mid →
    new ≡ at_position mid start → IsReadFault e.message → e.offset ≡ mid.start + start → HasFault (OperatorFault mid.features k) e (at_position mid start) →
    DecodesOperator (EncodesAllowed mid.features k) (OperatorFault mid.features k) (Err e) (at_position mid start) new
refuses_unknown k p code start e mid new c is b went readable at fault =
    refuses_opcode k p code start e mid new c b (λ head after. none_unknown mid.features k p code head after c is) went readable (omega (arith, at))
    (omega (arith, at, b.begun)) fault

-- ---- the same, after a check that read nothing

lacks_not : (f : WasmFeatures) (g : Guard) → (NeedsLegacy g → HasFeature legacy_exceptions f) → ¬ LacksFeature f g
lacks_not f g has (needs, without) = without (has needs)

pub checked_refused : {V A : Type 0} (visits : V → Operator → A → V → Type 0) (k : FrameKind) (code : ℕ) (g : Guard) (ks : List Kind) (start : ℕ) (e : Error) (mid now new : Reader)
    (v : V) → code < 256 → entry_at None code ≡ guarded g ks → IsAfterCode start None code mid → now ≡ mid →
    (NeedsLegacy g → HasFeature legacy_exceptions mid.features) → Allows k (guarded_role g) → RefusesKinds ks (λ r. ⊥) start e now new →
    Decodes visits (EncodesAllowed mid.features k) (OperatorFault mid.features k) (Err e) (at_position mid start) new v v
checked_refused visits k code g ks start e mid now new v small is b stays has allows h =
    refuses_guarded visits k code g ks start e mid new v small is b (lacks_not mid.features g has) allows (subst (λ z. RefusesKinds ks (λ r. ⊥) start e z new) stays h)

pub checked_visited : {V A : Type 0} (visits : V → Operator → A → V → Type 0) (Fault : Message → Reader → ℕ → Type 0) (k : FrameKind) (code : ℕ) (g : Guard) (ks : List Kind)
    (is : List Immediate) (start : ℕ) (mid now new : Reader) (v w : V) (a : A) → entry_at None code ≡ guarded g ks → IsAfterCode start None code mid → now ≡ mid →
    (NeedsLegacy g → HasFeature legacy_exceptions mid.features) → Allows k (guarded_role g) → VisitsRow visits None code is v a w →
    HasRead (EncodesKinds now.features ks) is now new →
    Decodes visits (EncodesAllowed mid.features k) Fault (Ok a) (at_position mid start) new v w
checked_visited visits Fault k code g ks is start mid now new v w a e b stays has allows vis i =
    visited_guarded visits Fault k code g ks is start mid new v w a e b has allows vis
    (subst (λ (z : Reader). HasRead (EncodesKinds z.features ks) is z new) stays i)
