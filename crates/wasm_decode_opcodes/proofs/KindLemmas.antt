-- Sequences of immediates of given kinds.
use Rattle.std.proofs.Common.{◌≡◌, ◌≢◌, ℕ, ◌+◌, ◌≤◌, ◌⊎◌, inl, inr, List, [], ◌∷◌, ◌++◌, Err, refl, sym, subst, ap, ◌∙◌, append_assoc, arith}
use Rattle.std.proofs.lemmas.List.{append-nil}
use Rattle.std.specs.Int.{w32, w64}
use Rattle.wasm_below.specs.declared.error.Error.{Error}
use Rattle.wasm_below.specs.declared.features.WasmFeatures.{WasmFeatures}
use Rattle.wasm_below.specs.declared.message.Message.TheVariants as message
use Rattle.wasm_below.specs.FromReader.{ReadsValue}
use Rattle.wasm_below.specs.Number.{EncodesUnsigned, EncodesSigned, EncodesFixed}
use Rattle.wasm_below.specs.Refusal.{IsReadFault}
use Rattle.wasm_below.specs.Sequence.{PrefixCode}
use Rattle.wasm_below.specs.Source.{Reader, rest, offset_of, end_of, at_position, Takes, NoPrefix, MayFollow, IsAhead, HasRead, Reads, ReadsFrom, IsByte}
use Rattle.wasm_below.specs.TypeEncoding.{EncodesHeapType}
use Rattle.wasm_below.proofs.Blocks.{refused_now}
use Rattle.wasm_below.proofs.TakesLemmas.{takes_then, same_rest}
use Rattle.wasm_imm.specs.declared.memory_argument.MemArgKind.{MemArgKind}
use Rattle.wasm_imm.specs.BlockTypes.{EncodesBlockType}
use Rattle.wasm_imm.specs.BranchTables.{EncodesBranchTable}
use Rattle.wasm_imm.specs.Casts.{EncodesCast}
use Rattle.wasm_imm.specs.HandlerTables.{EncodesSelect, EncodesTryTable, EncodesResumeTable}
use Rattle.wasm_imm.specs.Indices.{EncodesMemoryIndex, EncodesTableIndex}
use Rattle.wasm_imm.specs.MemoryArgument.{EncodesMemArg}
use Rattle.wasm_imm.specs.Orderings.{EncodesOrderingByte, EncodesFence, FenceFault}
use Rattle.wasm_imm.specs.OutOfMemory.{IsOutOfMemoryAt, IsRefusedFrom}
use Rattle.wasm_imm.specs.Vectors.{EncodesSixteen, EncodesVector}
use Rattle.wasm_imm.proofs.Faults.{none_here}
use Rattle.wasm_imm.specs.Immediate.{Immediate, unsigned_32, signed_32, signed_64, float_32, float_64, vector, one_lane, sixteen_lanes, memory_argument, memory_index, table_index_32, order, fence_order, heap_type, cast, block_type, branch_table, select_types, try_clauses, resume_clauses, Kind, is_unsigned_32, is_signed_32, is_signed_64, is_float_32, is_float_64, is_vector, is_one_lane, is_sixteen_lanes, is_memory_argument, is_memory_index, is_table_index, is_order, is_fence_order, is_heap_type, is_cast, is_block_type, is_branch_table, is_select_types, is_try_clauses, is_resume_clauses, kind_of, EncodesImmediate}
use Rattle.wasm_imm.proofs.ImmediatePrefixCodes.{immediate_prefix_code}
use Rattle.wasm_decode_opcodes.specs.Decoding.{IsRefusedKinds}
use Rattle.wasm_decode_opcodes.specs.Kinds.{EncodesKind, EncodesKinds}
use Rattle.wasm_decode_opcodes.specs.OperatorFaults.{KindFault, KindsFault}

-- A reader reads the texts of the immediates of a kind.
pub record OfKind {X : Type 0} (P : List ℕ → X → Type 0) (f : WasmFeatures) (k : Kind) (immediate : X → Immediate) : Type 0 where
  pub kind : (x : X) → kind_of (immediate x) ≡ k
  pub encodes : (text : List ℕ) (x : X) → P text x → EncodesImmediate f text (immediate x)
  pub through : (text : List ℕ) (i : Immediate) → EncodesKind f k text i → (x : X) × P text x

pub of_unsigned : (f : WasmFeatures) → OfKind (EncodesUnsigned 32) f is_unsigned_32 unsigned_32
of_unsigned f = record { kind = λ x. refl; encodes = λ text x p. p; through = go }
  where
    go : (text : List ℕ) (i : Immediate) → EncodesKind f is_unsigned_32 text i → (n : ℕ) × EncodesUnsigned 32 text n
    go text (unsigned_32 n) (k, p) = (n, p)
    go text i (k, p) = absurd (cc k)

pub of_signed_32 : (f : WasmFeatures) → OfKind (EncodesSigned 32) f is_signed_32 signed_32
of_signed_32 f = record { kind = λ x. refl; encodes = λ text x p. p; through = go }
  where
    go : (text : List ℕ) (i : Immediate) → EncodesKind f is_signed_32 text i → (n : _) × EncodesSigned 32 text n
    go text (signed_32 n) (k, p) = (n, p)
    go text i (k, p) = absurd (cc k)

pub of_signed_64 : (f : WasmFeatures) → OfKind (EncodesSigned 64) f is_signed_64 signed_64
of_signed_64 f = record { kind = λ x. refl; encodes = λ text x p. p; through = go }
  where
    go : (text : List ℕ) (i : Immediate) → EncodesKind f is_signed_64 text i → (n : _) × EncodesSigned 64 text n
    go text (signed_64 n) (k, p) = (n, p)
    go text i (k, p) = absurd (cc k)

pub of_float_32 : (f : WasmFeatures) → OfKind (EncodesFixed w32) f is_float_32 float_32
of_float_32 f = record { kind = λ x. refl; encodes = λ text x p. p; through = go }
  where
    go : (text : List ℕ) (i : Immediate) → EncodesKind f is_float_32 text i → (n : _) × EncodesFixed w32 text n
    go text (float_32 n) (k, p) = (n, p)
    go text i (k, p) = absurd (cc k)

pub of_float_64 : (f : WasmFeatures) → OfKind (EncodesFixed w64) f is_float_64 float_64
of_float_64 f = record { kind = λ x. refl; encodes = λ text x p. p; through = go }
  where
    go : (text : List ℕ) (i : Immediate) → EncodesKind f is_float_64 text i → (n : _) × EncodesFixed w64 text n
    go text (float_64 n) (k, p) = (n, p)
    go text i (k, p) = absurd (cc k)

pub of_vector : (f : WasmFeatures) → OfKind EncodesVector f is_vector vector
of_vector f = record { kind = λ x. refl; encodes = λ text x p. p; through = go }
  where
    go : (text : List ℕ) (i : Immediate) → EncodesKind f is_vector text i → (n : _) × EncodesVector text n
    go text (vector n) (k, p) = (n, p)
    go text i (k, p) = absurd (cc k)

pub of_lane : (f : WasmFeatures) → OfKind IsByte f is_one_lane one_lane
of_lane f = record { kind = λ x. refl; encodes = λ text x p. p; through = go }
  where
    go : (text : List ℕ) (i : Immediate) → EncodesKind f is_one_lane text i → (n : _) × IsByte text n
    go text (one_lane n) (k, p) = (n, p)
    go text i (k, p) = absurd (cc k)

pub of_lanes : (f : WasmFeatures) → OfKind EncodesSixteen f is_sixteen_lanes sixteen_lanes
of_lanes f = record { kind = λ x. refl; encodes = λ text x p. p; through = go }
  where
    go : (text : List ℕ) (i : Immediate) → EncodesKind f is_sixteen_lanes text i → (n : _) × EncodesSixteen text n
    go text (sixteen_lanes n) (k, p) = (n, p)
    go text i (k, p) = absurd (cc k)

pub of_memory : (f : WasmFeatures) (kind : MemArgKind) (max : ℕ) → OfKind (EncodesMemArg f kind max) f (is_memory_argument kind max) (memory_argument kind max)
of_memory f kind max = record { kind = λ x. refl; encodes = λ text x p. p; through = go }
  where
    go : (text : List ℕ) (i : Immediate) → EncodesKind f (is_memory_argument kind max) text i → (n : _) × EncodesMemArg f kind max text n
    go text (memory_argument sort least n) (k, p) =
        let same : (sort ≡ kind) × (least ≡ max) = (cc k, cc k) in
        (n, subst (λ z. EncodesMemArg f kind z text n) same.1 (subst (λ z. EncodesMemArg f z least text n) same.0 p))
    go text i (k, p) = absurd (cc k)

pub of_memory_index : (f : WasmFeatures) → OfKind (EncodesMemoryIndex f) f is_memory_index memory_index
of_memory_index f = record { kind = λ x. refl; encodes = λ text x p. p; through = go }
  where
    go : (text : List ℕ) (i : Immediate) → EncodesKind f is_memory_index text i → (n : _) × EncodesMemoryIndex f text n
    go text (memory_index n) (k, p) = (n, p)
    go text i (k, p) = absurd (cc k)

pub of_table_index : (f : WasmFeatures) → OfKind (EncodesTableIndex f) f is_table_index table_index_32
of_table_index f = record { kind = λ x. refl; encodes = λ text x p. p; through = go }
  where
    go : (text : List ℕ) (i : Immediate) → EncodesKind f is_table_index text i → (n : _) × EncodesTableIndex f text n
    go text (table_index_32 n) (k, p) = (n, p)
    go text i (k, p) = absurd (cc k)

pub of_order : (f : WasmFeatures) → OfKind EncodesOrderingByte f is_order order
of_order f = record { kind = λ x. refl; encodes = λ text x p. p; through = go }
  where
    go : (text : List ℕ) (i : Immediate) → EncodesKind f is_order text i → (n : _) × EncodesOrderingByte text n
    go text (order n) (k, p) = (n, p)
    go text i (k, p) = absurd (cc k)

pub of_fence : (f : WasmFeatures) → OfKind (EncodesFence f) f is_fence_order fence_order
of_fence f = record { kind = λ x. refl; encodes = λ text x p. p; through = go }
  where
    go : (text : List ℕ) (i : Immediate) → EncodesKind f is_fence_order text i → (n : _) × EncodesFence f text n
    go text (fence_order n) (k, p) = (n, p)
    go text i (k, p) = absurd (cc k)

pub of_heap_type : (f : WasmFeatures) → OfKind EncodesHeapType f is_heap_type heap_type
of_heap_type f = record { kind = λ x. refl; encodes = λ text x p. p; through = go }
  where
    go : (text : List ℕ) (i : Immediate) → EncodesKind f is_heap_type text i → (n : _) × EncodesHeapType text n
    go text (heap_type n) (k, p) = (n, p)
    go text i (k, p) = absurd (cc k)

pub of_cast : (f : WasmFeatures) → OfKind EncodesCast f is_cast cast
of_cast f = record { kind = λ x. refl; encodes = λ text x p. p; through = go }
  where
    go : (text : List ℕ) (i : Immediate) → EncodesKind f is_cast text i → (n : _) × EncodesCast text n
    go text (cast n) (k, p) = (n, p)
    go text i (k, p) = absurd (cc k)

pub of_block_type : (f : WasmFeatures) → OfKind EncodesBlockType f is_block_type block_type
of_block_type f = record { kind = λ x. refl; encodes = λ text x p. p; through = go }
  where
    go : (text : List ℕ) (i : Immediate) → EncodesKind f is_block_type text i → (n : _) × EncodesBlockType text n
    go text (block_type n) (k, p) = (n, p)
    go text i (k, p) = absurd (cc k)

pub of_branch_table : (f : WasmFeatures) → OfKind EncodesBranchTable f is_branch_table branch_table
of_branch_table f = record { kind = λ x. refl; encodes = λ text x p. p; through = go }
  where
    go : (text : List ℕ) (i : Immediate) → EncodesKind f is_branch_table text i → (n : _) × EncodesBranchTable text n
    go text (branch_table n) (k, p) = (n, p)
    go text i (k, p) = absurd (cc k)

pub of_select : (f : WasmFeatures) → OfKind EncodesSelect f is_select_types select_types
of_select f = record { kind = λ x. refl; encodes = λ text x p. p; through = go }
  where
    go : (text : List ℕ) (i : Immediate) → EncodesKind f is_select_types text i → (n : _) × EncodesSelect text n
    go text (select_types n) (k, p) = (n, p)
    go text i (k, p) = absurd (cc k)

pub of_try_table : (f : WasmFeatures) → OfKind EncodesTryTable f is_try_clauses try_clauses
of_try_table f = record { kind = λ x. refl; encodes = λ text x p. p; through = go }
  where
    go : (text : List ℕ) (i : Immediate) → EncodesKind f is_try_clauses text i → (n : _) × EncodesTryTable text n
    go text (try_clauses n) (k, p) = (n, p)
    go text i (k, p) = absurd (cc k)

pub of_resume_table : (f : WasmFeatures) → OfKind EncodesResumeTable f is_resume_clauses resume_clauses
of_resume_table f = record { kind = λ x. refl; encodes = λ text x p. p; through = go }
  where
    go : (text : List ℕ) (i : Immediate) → EncodesKind f is_resume_clauses text i → (n : _) × EncodesResumeTable text n
    go text (resume_clauses n) (k, p) = (n, p)
    go text i (k, p) = absurd (cc k)

pub kind_prefix_code : (f : WasmFeatures) (k : Kind) → PrefixCode (EncodesKind f k)
kind_prefix_code f k a b x y i j (ki, p) (kj, q) e = let h = immediate_prefix_code f i j a b x y (ki ∙ sym kj) p q e in (h.1, h.0)

-- ---- sequences

pub kinds_cons : (f : WasmFeatures) (k : Kind) (ks : List Kind) (first more : List ℕ) (i : Immediate) (is : List Immediate) → EncodesKind f k first i →
    EncodesKinds f ks more is → EncodesKinds f (k ∷ ks) (first ++ more) (i ∷ is)
kinds_cons f k ks first more i is (p, q) (ps, qs) = (cc (p, ps), (first, more, refl, q, qs))

-- The first of several immediates, and the ones after it.
pub record Parted (f : WasmFeatures) (k : Kind) (ks : List Kind) (text : List ℕ) : Type 0 where
  pub first : List ℕ
  pub more : List ℕ
  pub i : Immediate
  pub is : List Immediate
  pub parts : text ≡ first ++ more
  pub head : EncodesKind f k first i
  pub tail : EncodesKinds f ks more is

pub parted : (f : WasmFeatures) (k : Kind) (ks : List Kind) (text : List ℕ) (is : List Immediate) → EncodesKinds f (k ∷ ks) text is → Parted f k ks text
parted f k ks text [] (e, p) = absurd (cc e)
parted f k ks text (i ∷ is) (e, (first, more, parts, p, q)) =
    record { first = first; more = more; i = i; is = is; parts = parts; head = (cc e, p); tail = (cc e, q) }

-- if the first immediate does not follow, the sequence does not
pub none_first : {X : Type 0} (P : List ℕ → X → Type 0) (f : WasmFeatures) (k : Kind) (ks : List Kind) (immediate : X → Immediate) → OfKind P f k immediate →
    (bytes : List ℕ) → NoPrefix P bytes → NoPrefix (EncodesKinds f (k ∷ ks)) bytes
none_first P f k ks immediate o bytes none text left is h eq =
    let d = parted f k ks text is h in
    let x = o.through d.first d.i d.head in
    none d.first (d.more ++ left) x.0 x.1 (eq ∙ ap (λ z. z ++ left) d.parts ∙ append_assoc d.first d.more left)

none_kind : {X : Type 0} (P : List ℕ → X → Type 0) (f : WasmFeatures) (k : Kind) (immediate : X → Immediate) → OfKind P f k immediate → (bytes : List ℕ) →
    NoPrefix P bytes → NoPrefix (EncodesKind f k) bytes
none_kind P f k immediate o bytes none text left i h eq = let x = o.through text i h in none text left x.0 x.1 eq

-- `ReadsKinds` of a failed call that goes back.
abbrev pub RefusesKinds : List Kind → (Reader → Type 0) → ℕ → Error → Reader → Reader → Type 0
RefusesKinds ks Memory start e old new = (new ≡ at_position old start) × IsRefusedKinds ks Memory start e old

-- reading the first immediate fails, and the call went back
pub first_refused : {X : Type 0} (P : List ℕ → X → Type 0) (k : Kind) (ks : List Kind) (immediate : X → Immediate) (Memory : Reader → Type 0) (start : ℕ) (e : Error)
    (old mid new : Reader) → OfKind P old.features k immediate → start ≤ old.position →
    Reads P (KindFault old.features (old.start + start) k) (Err e) old mid → new ≡ at_position mid start → RefusesKinds (k ∷ ks) Memory start e old new
first_refused P k ks immediate Memory start e old mid new o begun (same, h, fault) went = (
  went ∙ ap (λ z. at_position z start) same,
  record {
    refuses = λ more follow. none_first P old.features k ks immediate o (rest old ++ more) (h.refuses more follow);
    ahead = (let a = h.ahead in (omega (arith, a.0, begun), a.1));
    fault = λ some. inl (none_kind P old.features k immediate o (rest old) (refused_now P e old h), fault);
    memory = λ m. absurd (subst IsReadFault m h.fault);
  },
)

pub moved_features : (old mid : Reader) (text : List ℕ) → Takes old mid text → mid.features ≡ old.features
moved_features old mid text t = ap (λ (r : Reader). r.features) t.moved

pub moved_start : (old mid : Reader) (text : List ℕ) → Takes old mid text → mid.start ≡ old.start
moved_start old mid text t = ap (λ (r : Reader). r.start) t.moved

-- reading an immediate after the first one fails
pub later_refused : {X : Type 0} (P : List ℕ → X → Type 0) (k : Kind) (ks : List Kind) (immediate : X → Immediate) (Memory Later : Reader → Type 0) (start : ℕ) (e : Error)
    (old mid new : Reader) (x : X) → OfKind P old.features k immediate → HasRead P x old mid → (Later mid → Memory old) → RefusesKinds ks Later start e mid new →
    RefusesKinds (k ∷ ks) Memory start e old new
later_refused P k ks immediate Memory Later start e old mid new x o (text, p, t) may (went, h) =
    let features = moved_features old mid text t in
    let starts = moved_start old mid text t in
    let back : at_position mid start ≡ at_position old start = ap (λ (r : Reader). at_position r start) t.moved in (
      went ∙ back,
      record {
        refuses = λ more follow. none features more (h.refuses more follow);
        ahead = subst (λ (r : Reader). IsAhead r e.offset) back h.ahead;
        fault = λ some. inr (
          immediate x,
          mid,
          (text, (o.kind x, o.encodes text x p), t),
          subst (λ z. KindsFault z (old.start + start) ks e.message mid e.offset) features
              (subst (λ z. KindsFault mid.features (z + start) ks e.message mid e.offset) starts (h.fault some)),
        );
        memory = λ m. (let g = h.memory m in (may g.0, g.1 ∙ ap (λ z. z + start) starts));
      },
    )
  where
    none : mid.features ≡ old.features → (more : List ℕ) → NoPrefix (EncodesKinds mid.features ks) (rest mid ++ more) →
        NoPrefix (EncodesKinds old.features (k ∷ ks)) (rest old ++ more)
    none features more no_later whole left is enc eq =
        let d = parted old.features k ks whole is enc in
        let same : text ++ (rest mid ++ more) ≡ d.first ++ (d.more ++ left) = sym (append_assoc text (rest mid) more) ∙ ap (λ z. z ++ more) (sym t.parts) ∙ eq ∙
        ap (λ z. z ++ left) d.parts ∙ append_assoc d.first d.more left in
        let c = kind_prefix_code old.features k text d.first (rest mid ++ more) (d.more ++ left) (immediate x) d.i (o.kind x, o.encodes text x p) d.head same in
        no_later d.more left d.is (subst (λ z. EncodesKinds z ks d.more d.is) (sym features) d.tail)
        (same_rest text d.first (rest mid ++ more) (d.more ++ left) c.0 same)

-- all were read
pub last_read : {X : Type 0} (P : List ℕ → X → Type 0) (k : Kind) (immediate : X → Immediate) (old new : Reader) (x : X) → OfKind P old.features k immediate →
    HasRead P x old new → HasRead (EncodesKinds old.features (k ∷ [])) (immediate x ∷ []) old new
last_read P k immediate old new x o (text, p, t) = (
  text,
  (ap (λ z. z ∷ []) (o.kind x), (text, [], sym (append-nil text), o.encodes text x p, refl)),
  t,
)

pub later_read : {X : Type 0} (P : List ℕ → X → Type 0) (k : Kind) (ks : List Kind) (immediate : X → Immediate) (old mid new : Reader) (x : X) (is : List Immediate) →
    OfKind P old.features k immediate → HasRead P x old mid → HasRead (EncodesKinds mid.features ks) is mid new →
    HasRead (EncodesKinds old.features (k ∷ ks)) (immediate x ∷ is) old new
later_read P k ks immediate old mid new x is o (first, p, t) (more, q, u) = (
  first ++ more,
  kinds_cons old.features k ks first more (immediate x) is (o.kind x, o.encodes first x p)
      (subst (λ z. EncodesKinds z ks more is) (moved_features old mid first t) q),
  takes_then old mid new first more t u,
)

-- ---- immediates that may allocate

-- reading such an immediate fails, and allocation failure is reported at the operator's start
pub memory_refused : {X : Type 0} (P : List ℕ → X → Type 0) (k : Kind) (immediate : X → Immediate) (Memory Inner : Reader → Type 0) (start : ℕ) (e reported : Error)
    (old mid new : Reader) → OfKind P old.features k immediate → start ≤ old.position → offset_of old ≤ end_of old → (Inner old → Memory old) →
    ReadsValue P (KindFault old.features (old.start + start) k) Inner (Err e) old mid → new ≡ at_position mid start → IsRefusedFrom (mid.start + start) e reported →
    RefusesKinds (k ∷ []) Memory start reported old new
memory_refused P k immediate Memory Inner start e reported old mid new o begun within may (same, h) went (kept, place) =
    let starts : mid.start + start ≡ old.start + start = ap (λ (r : Reader). r.start + start) same in
    let here = subst (λ z. Place z) starts place in (
      went ∙ ap (λ z. at_position z start) same,
      record {
        refuses = λ more follow. none_first P old.features k [] immediate o (rest old ++ more) (h.refuses more (subst (λ m. MayFollow m more) kept follow));
        ahead = placed here;
        fault = faulty here;
        memory = λ m. (may (h.memory (sym kept ∙ m)).0, said here m);
      },
    )
  where
    Place : ℕ → Type 0
    Place offset = IsOutOfMemoryAt offset reported ⊎ ((e.message ≢ message.OutOfMemory) × (reported.offset ≡ e.offset))

    placed : Place (old.start + start) → IsAhead (at_position old start) reported.offset
    placed (inl s) = (omega (arith, s.1), omega (arith, s.1, within, begun))
    placed (inr s) = (omega (arith, s.1, h.ahead.0, begun), omega (arith, s.1, h.ahead.1))

    said : Place (old.start + start) → reported.message ≡ message.OutOfMemory → reported.offset ≡ old.start + start
    said (inl s) m = s.1
    said (inr s) m = absurd (s.0 (sym kept ∙ m))

    faulty : Place (old.start + start) → reported.message ≢ message.OutOfMemory → KindsFault old.features (old.start + start) (k ∷ []) reported.message old reported.offset
    faulty (inl s) some = absurd (some s.0)
    faulty (inr s) some =
        inl (
          none_kind P old.features k immediate o (rest old) (none_here P e.message old s.0 h.refuses),
          subst (λ m. KindFault old.features (old.start + start) k m old reported.offset) (sym kept)
              (subst (λ z. KindFault old.features (old.start + start) k e.message old z) (sym s.1) (h.fault s.0)),
        )

-- ---- the byte of a fence, whose error may be at the operator's start

pub fence_refused : (start begun : ℕ) (e : Error) (old mid : Reader) → begun ≡ old.start + start → start ≤ old.position →
    ReadsFrom begun (EncodesFence old.features) (FenceFault old.features begun) (Err e) old mid → IsRefusedKinds (is_fence_order ∷ []) (λ r. ⊥) start e old
fence_refused start begun e old mid at before (same, refuses, readable, from, to, fault) =
    record {
      refuses = λ more follow. none_first (EncodesFence old.features) old.features is_fence_order [] fence_order (of_fence old.features) (rest old ++ more) (refuses more follow);
      ahead = (omega (arith, from, at), to);
      fault = λ some. inl (
        none_kind (EncodesFence old.features) old.features is_fence_order fence_order (of_fence old.features) (rest old) (none_here (EncodesFence old.features) e.message old some refuses),
        subst (λ z. FenceFault old.features z e.message old e.offset) at fault,
      );
      memory = λ m. absurd (subst IsReadFault m readable);
    }
