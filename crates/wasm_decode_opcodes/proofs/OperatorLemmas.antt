-- From the immediates after an opcode to the operator.
use Rattle.std.proofs.Common.{◌≡◌, ℕ, suc, ◌+◌, ◌-◌, ◌≤◌, ◌<◌, inl, inr, List, [], ◌∷◌, ◌++◌, length, length-append, length-drop, drop, Option, Some, None, Ok, Err, map, refl, sym, subst, ap, ◌∙◌, append_assoc, arith}
use Rattle.std.proofs.lemmas.List.{drop-drop}
use Rattle.wasm_below.specs.declared.error.Error.{Error}
use Rattle.wasm_below.specs.declared.features.WasmFeatures.{WasmFeatures}
use Rattle.wasm_below.specs.declared.message.Message.{Message}
use Rattle.wasm_below.specs.declared.message.Message.TheVariants as message
use Rattle.wasm_below.specs.Fault.{HasFault}
use Rattle.wasm_below.specs.FromReader.{IsRefused}
use Rattle.wasm_below.specs.Number.{EncodesUnsigned}
use Rattle.wasm_below.specs.Source.{Reader, rest, offset_of, end_of, at_position, Takes, NoPrefix, HasRead, IsByte}
use Rattle.wasm_below.proofs.PrefixCode.{unsigned_prefix_code}
use Rattle.wasm_below.proofs.TakesLemmas.{takes_then, takes_none, same_rest}
use Rattle.wasm_grammar.specs.declared.frame_kind.FrameKind.{FrameKind}
use Rattle.wasm_grammar.specs.Frames.{Allows}
use Rattle.wasm_instr.specs.declared.operator.Operator.{Operator}
use Rattle.wasm_instr.specs.declared.operator.Operator.TheVariants as operator
use Rattle.wasm_instr.specs.Encoding.{EncodesOpcode, IsEnabled, EncodesOperator}
use Rattle.wasm_imm.specs.Immediate.{Immediate, Kind, kind_of, EncodesImmediates}
use Rattle.wasm_instr.specs.Roles.{role_of}
use Rattle.wasm_instr.specs.Row.{prefix_of, opcode_of, immediates_of}
use Rattle.wasm_decode_opcodes.specs.Allowed.{EncodesAllowed}
use Rattle.wasm_decode_opcodes.specs.Decoding.{Decodes, IsAfterCode, VisitsRow, IsRefusedKinds}
use Rattle.wasm_decode_opcodes.specs.declared.guard.Guard.{Guard}
use Rattle.wasm_decode_opcodes.specs.Entry.{Entry, prefixes, unknown, free, guarded, kinds_of, guard_of, guarded_entry, entry_of, entry_kinds}
use Rattle.wasm_decode_opcodes.specs.Entries.{entry_at}
use Rattle.wasm_decode_opcodes.specs.Kinds.{EncodesKinds}
use Rattle.wasm_decode_opcodes.specs.OperatorFaults.{KindsFault, FreeFault, SubopcodeFault, EntryFault, OpcodeFault, OperatorFault}
use Rattle.wasm_decode_opcodes.specs.Refused.{MayAllocate}
use Rattle.wasm_decode_opcodes.proofs.KindLemmas.{RefusesKinds}
use Rattle.wasm_decode_opcodes.proofs.EntriesAgree.{entry_agrees, prefix_agrees}

-- The code is an opcode that is not a prefix byte, or a subopcode after a prefix byte.
abbrev pub IsCode : Option ℕ → ℕ → Type 0
IsCode None code = (entry_at None code ≡ prefixes → ⊥) × (code < 256)
IsCode (Some p) code = (entry_at None p ≡ prefixes) × (p < 256)

no_prefixes : (g : Option Guard) (ks : List Kind) → guarded_entry g ks ≡ prefixes → ⊥
no_prefixes None ks e = cc e
no_prefixes (Some g) ks e = cc e

-- an operator whose encoding begins with this opcode, or this prefix byte and subopcode, has it
agrees : (p q : Option ℕ) (op : Operator) (code : ℕ) (head other x y : List ℕ) → prefix_of op ≡ q → IsCode p code → EncodesOpcode p head code →
    EncodesOpcode q other (opcode_of op) → head ++ x ≡ other ++ y → (q ≡ p) × (opcode_of op ≡ code) × (head ≡ other)
agrees None None op code head other x y e c h k eq =
    let whole : code ∷ x ≡ opcode_of op ∷ y = ap (λ z. z ++ x) (sym h) ∙ eq ∙ ap (λ z. z ++ y) k in
    let same : code ≡ opcode_of op = cc whole in
    (refl, sym same, h ∙ ap (λ z. z ∷ []) same ∙ sym k)
agrees None (Some q) op code head other x y e c h (number, k, u) eq =
    let whole : code ∷ x ≡ q ∷ (number ++ y) = ap (λ z. z ++ x) (sym h) ∙ eq ∙ ap (λ z. z ++ y) k in
    let same : code ≡ q = cc whole in
    absurd (c.0 (ap (entry_at None) same ∙ prefix_agrees op q e))
agrees (Some p) None op code head other x y e c (number, h, u) k eq =
    let whole : p ∷ (number ++ x) ≡ opcode_of op ∷ y = ap (λ z. z ++ x) (sym h) ∙ eq ∙ ap (λ z. z ++ y) k in
    let same : p ≡ opcode_of op = cc whole in
    let row : entry_at None (opcode_of op) ≡ entry_of op = ap (λ z. entry_at z (opcode_of op)) (sym e) ∙ entry_agrees op in
    absurd (no_prefixes (guard_of (role_of op)) (kinds_of op) (sym row ∙ ap (entry_at None) (sym same) ∙ c.0))
agrees (Some p) (Some q) op code head other x y e c (number, h, u) (more, k, v) eq =
    let whole : p ∷ (number ++ x) ≡ q ∷ (more ++ y) = ap (λ z. z ++ x) (sym h) ∙ eq ∙ ap (λ z. z ++ y) k in
    let same : p ≡ q = cc whole in
    let n = unsigned_prefix_code number more 32 x y code (opcode_of op) u v (cc whole) in
    (ap Some (sym same), sym n.1, h ∙ cc (same, n.0) ∙ sym k)

-- The parts of an operator whose encoding begins with the bytes that were read.
pub record Own (f : WasmFeatures) (p : Option ℕ) (code : ℕ) (head later text left : List ℕ) (op : Operator) : Type 0 where
  pub same_prefix : prefix_of op ≡ p
  pub same_code : opcode_of op ≡ code
  pub after : List ℕ
  pub parts : text ≡ head ++ after
  pub goes_on : later ≡ after ++ left
  pub immediates : EncodesImmediates f after (immediates_of op)

pub own : (f : WasmFeatures) (p : Option ℕ) (code : ℕ) (head after text left : List ℕ) (op : Operator) → IsCode p code → EncodesOpcode p head code →
    EncodesOperator f text op → head ++ after ≡ text ++ left → Own f p code head after text left op
own f p code head after text left op c h s eq =
    let whole : head ++ after ≡ s.head ++ (s.after ++ left) = eq ∙ ap (λ z. z ++ left) s.parts ∙ append_assoc s.head s.after left in
    let a = agrees p (prefix_of op) op code head s.head after (s.after ++ left) refl c h s.code whole in
    record {
      same_prefix = a.0;
      same_code = a.1;
      after = s.after;
      parts = s.parts ∙ ap (λ z. z ++ s.after) (sym a.2);
      goes_on = same_rest head s.head after (s.after ++ left) a.2 whole;
      immediates = s.immediates;
    }

pub same_entry : (op : Operator) (p : Option ℕ) (code : ℕ) → prefix_of op ≡ p → opcode_of op ≡ code → entry_at p code ≡ entry_of op
same_entry op p code prefix opcode = ap (λ z. entry_at z code) (sym prefix) ∙ ap (entry_at (prefix_of op)) (sym opcode) ∙ entry_agrees op

kinds_in : (g : Option Guard) (own_kinds ks : List Kind) → entry_kinds (guarded_entry g own_kinds) ≡ Some ks → own_kinds ≡ ks
kinds_in None own_kinds ks h = cc h
kinds_in (Some g) own_kinds ks h = cc h

-- the kinds in the entry of an opcode are those of its operators
pub kinds_of_code : (op : Operator) (p : Option ℕ) (code : ℕ) (ks : List Kind) → prefix_of op ≡ p → opcode_of op ≡ code → entry_kinds (entry_at p code) ≡ Some ks →
    kinds_of op ≡ ks
kinds_of_code op p code ks prefix opcode h =
    kinds_in (guard_of (role_of op)) (kinds_of op) ks (ap entry_kinds (sym (same_entry op p code prefix opcode)) ∙ h)

-- the guard in the entry of an opcode is that of its operators
guard_in : (g : Option Guard) (own_kinds ks : List Kind) → guarded_entry g own_kinds ≡ free ks → g ≡ None
guard_in None own_kinds ks e = refl
guard_in (Some g) own_kinds ks e = absurd (cc e)

pub unguarded : (op : Operator) (p : Option ℕ) (code : ℕ) (ks : List Kind) → prefix_of op ≡ p → opcode_of op ≡ code → entry_at p code ≡ free ks → guard_of (role_of op) ≡ None
unguarded op p code ks prefix opcode e = guard_in (guard_of (role_of op)) (kinds_of op) ks (sym (same_entry op p code prefix opcode) ∙ e)

-- an operator without a guard is allowed in every frame, under all features
pub allowed_free : (k : FrameKind) (op : Operator) → guard_of (role_of op) ≡ None → Allows k (role_of op)
allowed_free k operator.Else e = absurd (cc e)
allowed_free k (operator.Try _) e = absurd (cc e)
allowed_free k (operator.Catch _) e = absurd (cc e)
allowed_free k operator.CatchAll e = absurd (cc e)
allowed_free k (operator.Delegate _) e = absurd (cc e)
allowed_free k op e = refl

pub enabled_free : (f : WasmFeatures) (op : Operator) → guard_of (role_of op) ≡ None → IsEnabled f op
enabled_free f (operator.Try _) e = absurd (cc e)
enabled_free f (operator.Catch _) e = absurd (cc e)
enabled_free f operator.CatchAll e = absurd (cc e)
enabled_free f op e = tt

-- ---- errors

some_head : (p : Option ℕ) (code : ℕ) (head : List ℕ) → EncodesOpcode p head code → 0 < length head
some_head None code head h = let n : length head ≡ 1 = ap length h in omega arith
some_head (Some p) code head (number, h, u) = let n : length head ≡ suc (length number) = ap length h in omega arith

-- the position is at most the length of the bytes
pub within_after_code : (start : ℕ) (p : Option ℕ) (code : ℕ) (mid : Reader) → IsAfterCode start p code mid → offset_of mid ≤ end_of mid
within_after_code start p code mid b = go b.opcode
  where
    go : HasRead (EncodesOpcode p) code (at_position mid start) mid → offset_of mid ≤ end_of mid
    go (head, h, t) =
        let some = some_head p code head h in
        let at : mid.position ≡ start + length head = ap (λ (r : Reader). r.position) t.moved in
        let left : length mid.buffer - start ≡ length head + length (rest mid) = sym (length-drop start mid.buffer) ∙ ap length t.parts ∙ length-append head (rest mid) in
        omega arith

-- if no immediates of the kinds follow the opcode, no operator begins at its start
pub none_after : (f : WasmFeatures) (k : FrameKind) (p : Option ℕ) (code : ℕ) (ks : List Kind) (head after : List ℕ) → IsCode p code →
    entry_kinds (entry_at p code) ≡ Some ks → EncodesOpcode p head code → NoPrefix (EncodesKinds f ks) after → NoPrefix (EncodesAllowed f k) (head ++ after)
none_after f k p code ks head after c has h none text left op s eq =
    let o = own f p code head after text left op c h s.0 eq in
    none o.after left (immediates_of op) (kinds_of_code op p code ks o.same_prefix o.same_code has, o.immediates) o.goes_on

pub refused_operator : (k : FrameKind) (p : Option ℕ) (code : ℕ) (ks : List Kind) (Memory : Reader → Type 0) (start : ℕ) (e : Error) (mid : Reader) → IsCode p code →
    entry_kinds (entry_at p code) ≡ Some ks → IsAfterCode start p code mid → IsRefusedKinds ks Memory start e mid →
    (Memory mid → MayAllocate (EncodesAllowed mid.features k) (at_position mid start)) → HasFault (OperatorFault mid.features k) e (at_position mid start) →
    IsRefused (EncodesAllowed mid.features k) (OperatorFault mid.features k) (MayAllocate (EncodesAllowed mid.features k)) e (at_position mid start)
refused_operator k p code ks Memory start e mid c has b h may fault = go b.opcode
  where
    go : HasRead (EncodesOpcode p) code (at_position mid start) mid →
        IsRefused (EncodesAllowed mid.features k) (OperatorFault mid.features k) (MayAllocate (EncodesAllowed mid.features k)) e (at_position mid start)
    go (head, opcode, t) =
        record {
          refuses = λ more follow. subst (NoPrefix (EncodesAllowed mid.features k)) (sym (ap (λ z. z ++ more) t.parts ∙ append_assoc head (rest mid) more))
              (none_after mid.features k p code ks head (rest mid ++ more) c has opcode (h.refuses more follow));
          ahead = h.ahead;
          fault = fault;
          memory = λ m. (let g = h.memory m in (may g.0, g.1));
        }

-- ---- faults

-- a byte, and the text that was taken after it
byte_before : (old mid : Reader) (p : ℕ) (number : List ℕ) → Takes old mid (p ∷ number) → (now : Reader) × Takes old now (p ∷ []) × Takes now mid number
byte_before old mid p number t =
    let now = at_position old (old.position + 1) in
    let left : rest now ≡ number ++ rest mid = sym (drop-drop 1 old.position old.buffer) ∙ ap (drop 1) t.parts in
    let goes : mid ≡ at_position now (now.position + length number) = t.moved ∙ ap (at_position old) (omega arith) in
    (now, record { moved = refl; parts = t.parts ∙ ap (λ z. p ∷ z) (sym left) }, record { moved = goes; parts = left })

pub opcode_fault : (k : FrameKind) (code start : ℕ) (m : Message) (mid : Reader) (offset : ℕ) → code < 256 → IsAfterCode start None code mid →
    OpcodeFault mid.features k (mid.start + start) code m mid offset → OperatorFault mid.features k m (at_position mid start) offset
opcode_fault k code start m mid offset small b fault = go b.opcode
  where
    go : HasRead (EncodesOpcode None) code (at_position mid start) mid → OperatorFault mid.features k m (at_position mid start) offset
    go (head, opcode, t) = inr (code, mid, (head, (opcode, small), t), fault)

pub subopcode_fault : (k : FrameKind) (p code start : ℕ) (m : Message) (mid : Reader) (offset : ℕ) → p < 256 → entry_at None p ≡ prefixes →
    IsAfterCode start (Some p) code mid → SubopcodeFault mid.features (mid.start + start) p code m mid offset → OperatorFault mid.features k m (at_position mid start) offset
subopcode_fault k p code start m mid offset small is b fault = go b.opcode
  where
    go : HasRead (EncodesOpcode (Some p)) code (at_position mid start) mid → OperatorFault mid.features k m (at_position mid start) offset
    go (head, (number, parts, u), t) =
        let s = byte_before (at_position mid start) mid p number (subst (Takes (at_position mid start) mid) parts t) in
        inr (
          p,
          s.0,
          (p ∷ [], (refl, small), s.1),
          subst (λ z. EntryFault mid.features k (mid.start + start) p z m s.0 offset) (sym is) (inr (code, mid, (number, u, s.2), fault)),
        )

-- the fault of immediates after an opcode without a guard
pub free_fault : (k : FrameKind) (p : Option ℕ) (code : ℕ) (ks : List Kind) (start : ℕ) (e : Error) (mid : Reader) → IsCode p code → entry_at p code ≡ free ks →
    IsAfterCode start p code mid → HasFault (KindsFault mid.features (mid.start + start) ks) e mid → HasFault (OperatorFault mid.features k) e (at_position mid start)
free_fault k None code ks start e mid c is b fault some =
    opcode_fault k code start e.message mid e.offset c.1 b
    (subst (λ z. EntryFault mid.features k (mid.start + start) code z e.message mid e.offset) (sym is) (fault some))
free_fault k (Some p) code ks start e mid c is b fault some =
    subopcode_fault k p code start e.message mid e.offset c.1 c.0 b
    (subst (λ z. FreeFault mid.features (mid.start + start) (Some p) code z e.message mid e.offset) (sym is) (fault some))

-- ---- calls

-- reading the immediates fails, after an opcode without a guard
pub refuses_free : {V A : Type 0} (visits : V → Operator → A → V → Type 0) (k : FrameKind) (p : Option ℕ) (code : ℕ) (ks : List Kind) (start : ℕ) (e : Error) (mid new : Reader)
    (v : V) → IsCode p code → entry_at p code ≡ free ks → IsAfterCode start p code mid → RefusesKinds ks (λ r. ⊥) start e mid new →
    Decodes visits (EncodesAllowed mid.features k) (OperatorFault mid.features k) (Err e) (at_position mid start) new v v
refuses_free visits k p code ks start e mid new v c is b (went, h) =
    (refl, (went, refused_operator k p code ks (λ r. ⊥) start e mid c (ap entry_kinds is) b h (λ none. absurd none) (free_fault k p code ks start e mid c is b h.fault)))

-- the operator whose parts were read
pub encodes_read : (f : WasmFeatures) (op : Operator) (p : Option ℕ) (code : ℕ) (is : List Immediate) (head text : List ℕ) → EncodesOpcode p head code →
    EncodesImmediates f text is → prefix_of op ≡ p → opcode_of op ≡ code → immediates_of op ≡ is → IsEnabled f op → EncodesOperator f (head ++ text) op
encodes_read f op p code is head text h i prefix opcode immediates enabled =
    record {
      head = head;
      after = text;
      parts = refl;
      code = subst (λ z. EncodesOpcode z head (opcode_of op)) (sym prefix) (subst (λ z. EncodesOpcode p head z) (sym opcode) h);
      immediates = subst (λ z. EncodesImmediates f text z) (sym immediates) i;
      enabled = enabled;
    }

-- the immediates after an opcode were read, and the visit was made
pub reads_visited : {V A : Type 0} (visits : V → Operator → A → V → Type 0) (Fault : Message → Reader → ℕ → Type 0) (k : FrameKind) (p : Option ℕ) (code : ℕ) (ks : List Kind)
    (is : List Immediate) (start : ℕ) (mid new : Reader) (v w : V) (a : A) → IsAfterCode start p code mid → VisitsRow visits p code is v a w →
    HasRead (EncodesKinds mid.features ks) is mid new →
    ((op : Operator) → prefix_of op ≡ p → opcode_of op ≡ code → IsEnabled mid.features op × Allows k (role_of op)) →
    Decodes visits (EncodesAllowed mid.features k) Fault (Ok a) (at_position mid start) new v w
reads_visited visits Fault k p code ks is start mid new v w a b (op, prefix, opcode, immediates, vis) (text, i, taken) allowed = go b.opcode
  where
    go : HasRead (EncodesOpcode p) code (at_position mid start) mid →
        Decodes visits (EncodesAllowed mid.features k) Fault (Ok a) (at_position mid start) new v w
    go (head, h, t) =
        let g = allowed op prefix opcode in (
          op,
          (
            head ++ text,
            (encodes_read mid.features op p code is head text h i.1 prefix opcode immediates g.0, g.1),
            takes_then (at_position mid start) mid new head text t taken,
          ),
          vis,
        )

pub visited_free : {V A : Type 0} (visits : V → Operator → A → V → Type 0) (Fault : Message → Reader → ℕ → Type 0) (k : FrameKind) (p : Option ℕ) (code : ℕ) (ks : List Kind)
    (is : List Immediate) (start : ℕ) (mid new : Reader) (v w : V) (a : A) → entry_at p code ≡ free ks → IsAfterCode start p code mid → VisitsRow visits p code is v a w →
    HasRead (EncodesKinds mid.features ks) is mid new →
    Decodes visits (EncodesAllowed mid.features k) Fault (Ok a) (at_position mid start) new v w
visited_free visits Fault k p code ks is start mid new v w a e b vis i =
    reads_visited visits Fault k p code ks is start mid new v w a b vis i
    (λ op prefix opcode. let g = unguarded op p code ks prefix opcode e in (enabled_free mid.features op g, allowed_free k op g))

-- an operator without immediates
pub visited_without_immediates : {V A : Type 0} (visits : V → Operator → A → V → Type 0) (Fault : Message → Reader → ℕ → Type 0) (k : FrameKind) (p : Option ℕ) (code : ℕ) (start : ℕ)
    (mid : Reader) (v w : V) (a : A) → entry_at p code ≡ free [] → IsAfterCode start p code mid → VisitsRow visits p code [] v a w →
    Decodes visits (EncodesAllowed mid.features k) Fault (Ok a) (at_position mid start) mid v w
visited_without_immediates visits Fault k p code start mid v w a e b vis = visited_free visits Fault k p code [] [] start mid mid v w a e b vis ([], (refl, refl), takes_none mid)

-- ---- unknown opcodes

-- no operator has an unknown code
no_entry : (g : Option Guard) (ks : List Kind) → guarded_entry g ks ≡ unknown → ⊥
no_entry None ks e = cc e
no_entry (Some g) ks e = cc e

pub none_unknown : (f : WasmFeatures) (k : FrameKind) (p : Option ℕ) (code : ℕ) (head after : List ℕ) → IsCode p code → entry_at p code ≡ unknown →
    EncodesOpcode p head code → NoPrefix (EncodesAllowed f k) (head ++ after)
none_unknown f k p code head after c is h text left op s eq =
    let o = own f p code head after text left op c h s.0 eq in
    no_entry (guard_of (role_of op)) (kinds_of op) (sym (same_entry op p code o.same_prefix o.same_code) ∙ is)
