-- Lists of members.
use Rattle.std.proofs.Common.{◌≡◌, ◌≢◌, ℕ, ◌+◌, ◌<◌, ◌≤◌, inl, inr, List, [], ◌∷◌, ◌++◌, length, get_or, take, Result, Ok, Err, refl, sym, ap, subst, ◌∙◌, append_assoc, append-nil, arith, length-append}
use Rattle.std.proofs.lemmas.List.{take_more}
use Rattle.wasm_below.specs.declared.features.WasmFeatures.{WasmFeatures}
use Rattle.wasm_below.specs.declared.types.ValType.{ValType}
use Rattle.wasm_below.specs.Number.{EncodesUnsigned}
use Rattle.wasm_below.specs.TypeEncoding.{EncodesValType}
use Rattle.wasm_imm.specs.declared.handler_tables.ResumeTable.{ResumeTable}
use Rattle.wasm_imm.specs.declared.handler_tables.TryTable.{TryTable}
use Rattle.wasm_imm.specs.declared.select.Select.TheVariants as select
use Rattle.wasm_imm.specs.BlockTypes.{EncodesBlockType}
use Rattle.wasm_imm.specs.BranchTables.{BranchTable, AreTargets, EncodesBranchTable, max_targets}
use Rattle.wasm_imm.specs.HandlerTables.{max_catches, max_handlers, max_select_types, EncodesSelect, EncodesTryTable}
use Rattle.wasm_imm.specs.Handlers.{EncodesPair, EncodesCatch, EncodesHandle}
use Rattle.wasm_imm.specs.Lists.{EncodesEach, EncodesList}
use Rattle.wasm_imm.specs.Immediate.{Immediate, unsigned_32, branch_table, select_types, try_clauses, resume_clauses, EncodesImmediates}
use Rattle.wasm_encode_numbers.specs.Appended.{Appends}
use Rattle.wasm_encode_immediates.specs.declared.unwritable.Unwritable.{Unwritable}
use Rattle.wasm_encode_immediates.specs.declared.unwritable.Unwritable.TheVariants as why
use Rattle.wasm_encode_immediates.specs.Lists.{After, HasListReason}
use Rattle.wasm_encode_immediates.specs.Reasons.{HaveReason, HasSelectReason}
use Rattle.wasm_encode_immediates.specs.Written.{FailsToWrite, WritesText}
use Rattle.wasm_encode_immediates.proofs.Sequences.{one_appended, one_written, then_written}

-- the same text as the encoding of another value
pub moved : {X Y : Type 0} (P : List ℕ → X → Type 0) (Q : List ℕ → Y → Type 0) (x : X) (y : Y) (old new : List ℕ) → ((t : List ℕ) → P t x → Q t y) → ((t : List ℕ) → Q t y → P t x) →
    Appends P x old new → Appends Q y old new
moved P Q x y old new to from a =
    record { text = a.text; appended = a.appended; encodes = to a.text a.encodes; shortest = λ other p. a.shortest other (from other p) }

pub after_byte : {X : Type 0} (P : List ℕ → X → Type 0) (byte : ℕ) (x : X) (old mid new : List ℕ) → mid ≡ old ++ byte ∷ [] → Appends P x mid new → Appends (After byte P) x old new
after_byte P byte x old mid new m a =
    record {
      text = byte ∷ a.text;
      appended = a.appended ∙ ap (λ z. z ++ a.text) m ∙ append_assoc old (byte ∷ []) a.text;
      encodes = (a.text, refl, a.encodes);
      shortest = λ other (rest, e, p).
          let s = a.shortest rest p in
          let l = ap length e in
          omega (arith, s, l);
    }

pub pair_appended : (m n : ℕ) (old mid new : List ℕ) → Appends (EncodesUnsigned 32) m old mid → Appends (EncodesUnsigned 32) n mid new → Appends EncodesPair (m, n) old new
pair_appended m n old mid new a b =
    record {
      text = a.text ++ b.text;
      appended = b.appended ∙ ap (λ z. z ++ b.text) a.appended ∙ append_assoc old a.text b.text;
      encodes = (a.text, b.text, refl, a.encodes, b.encodes);
      shortest = λ other (first, second, e, p, q).
          let x = a.shortest first p in
          let y = b.shortest second q in
          let l = length-append a.text b.text in
          let k = ap length e ∙ length-append first second in
          omega (arith, x, y, l, k);
    }

-- ---- members one by one

each_snoc : {X : Type 0} (P : List ℕ → X → Type 0) (xs : List X) (x : X) (a t : List ℕ) → EncodesEach P a xs → P t x → EncodesEach P (a ++ t) (xs ++ x ∷ [])
each_snoc P [] x a t l e = (t, [], ap (λ z. z ++ t) l ∙ sym (append-nil t), e, refl)
each_snoc P (y ∷ xs) x a t (first, more, parts, p, l) e = (first, more ++ t, ap (λ z. z ++ t) parts ∙ append_assoc first more t, p, each_snoc P xs x more t l e)

snoc_parts : {X : Type 0} (P : List ℕ → X → Type 0) (xs : List X) (x : X) (bytes : List ℕ) → EncodesEach P bytes (xs ++ x ∷ []) → (a t : List ℕ) × (bytes ≡ a ++ t) × EncodesEach P a xs × P t x
snoc_parts P [] x bytes (first, more, parts, p, l) = ([], first, parts ∙ ap (λ z. first ++ z) l ∙ append-nil first, refl, p)
snoc_parts P (y ∷ xs) x bytes (first, more, parts, p, l) =
    let (a, t, e, la, et) = snoc_parts P xs x more l in
    (first ++ a, t, parts ∙ ap (λ z. first ++ z) e ∙ sym (append_assoc first a t), (first, a, refl, p, la), et)

pub none_appended : {X : Type 0} (P : List ℕ → X → Type 0) (old : List ℕ) → Appends (EncodesEach P) [] old old
none_appended P old = record { text = []; appended = sym (append-nil old); encodes = refl; shortest = λ other p. omega arith }

pub each_appended : {X : Type 0} (P : List ℕ → X → Type 0) (xs : List X) (x : X) (old mid new : List ℕ) → Appends (EncodesEach P) xs old mid → Appends P x mid new → Appends (EncodesEach P) (xs ++ x ∷ []) old new
each_appended P xs x old mid new w o =
    record {
      text = w.text ++ o.text;
      appended = o.appended ∙ ap (λ z. z ++ o.text) w.appended ∙ append_assoc old w.text o.text;
      encodes = each_snoc P xs x w.text o.text w.encodes o.encodes;
      shortest = λ other p.
          let (a, t, parts, la, et) = snoc_parts P xs x other p in
          let m = w.shortest a la in
          let n = o.shortest t et in
          let l1 = length-append w.text o.text in
          let l2 = ap length parts ∙ length-append a t in
          omega (arith, m, n, l1, l2);
    }

pub one_more : {X : Type 0} (P : List ℕ → X → Type 0) (xs : List X) (i : ℕ) (x : X) (old mid new : List ℕ) → i < length xs → x ≡ get_or xs i x → Appends (EncodesEach P) (take i xs) old mid → Appends P x mid new →
    Appends (EncodesEach P) (take (i + 1) xs) old new
one_more P xs i x old mid new lt is w o =
    subst (λ all. Appends (EncodesEach P) all old new) (sym (take_more xs i x lt ∙ ap (λ z. take i xs ++ z ∷ []) (sym is))) (each_appended P (take i xs) x old mid new w o)

pub list_appended : {X : Type 0} (P : List ℕ → X → Type 0) (limit n : ℕ) (xs : List X) (old mid new : List ℕ) → length xs ≡ n → n ≤ limit → Appends (EncodesUnsigned 32) n old mid →
    Appends (EncodesEach P) xs mid new → Appends (EncodesList limit P) xs old new
list_appended P limit n xs old mid new same le a b =
    record {
      text = a.text ++ b.text;
      appended = b.appended ∙ ap (λ z. z ++ b.text) a.appended ∙ append_assoc old a.text b.text;
      encodes = (a.text, b.text, n, refl, (a.encodes, le), (same, b.encodes));
      shortest = λ other (first, rest, k, e, size, many).
          let kn : k ≡ n = sym many.0 ∙ same in
          let x = a.shortest first (subst (EncodesUnsigned 32 first) kn size.0) in
          let y = b.shortest rest many.1 in
          let l = length-append a.text b.text in
          let m = ap length e ∙ length-append first rest in
          omega (arith, x, y, l, m);
    }

too_long : {X : Type 0} (P : List ℕ → X → Type 0) (limit : ℕ) (xs : List X) (text : List ℕ) → limit < length xs → EncodesList limit P text xs → ⊥
too_long P limit xs text lt (first, rest, k, e, size, many) = let a = many.0 in let b = size.1 in omega (arith, lt, a, b)

pub list_fails : {X : Type 0} (P : List ℕ → X → Type 0) (limit : ℕ) (xs : List X) (old : List ℕ) → limit < length xs → FailsToWrite (EncodesList limit P) (HasListReason limit) xs why.TooMany old old
list_fails P limit xs old lt =
    record { part = []; appended = sym (append-nil old); none = λ enough text p. too_long P limit xs text lt p; reason = inr (refl, lt) }

pub not_grown : {X : Type 0} (P : List ℕ → X → Type 0) (limit : ℕ) (xs : List X) (old new : List ℕ) → new ≡ old → FailsToWrite (EncodesList limit P) (HasListReason limit) xs why.OutOfMemory old new
not_grown P limit xs old new e =
    record { part = []; appended = e ∙ sym (append-nil old); none = λ enough. absurd (enough refl); reason = inl refl }

-- ---- the immediates

pub one_type_appended : (f : WasmFeatures) (ty : ValType) (old mid new : List ℕ) → Appends (EncodesUnsigned 32) 1 old mid → Appends EncodesValType ty mid new →
    Appends (EncodesImmediates f) (select_types (select.One ty) ∷ []) old new
one_type_appended f ty old mid new a b =
    let each = each_appended EncodesValType [] ty mid mid new (none_appended EncodesValType mid) b in
    let list = list_appended EncodesValType max_select_types 1 (ty ∷ []) old mid new refl (omega arith) a each in
    one_appended (EncodesList max_select_types EncodesValType) f (ty ∷ []) (select_types (select.One ty)) old new (λ t p. p) (λ t p. p) list

single : (tys : List ValType) (text : List ℕ) → length tys ≡ 1 → EncodesSelect text (select.Multi tys) → ⊥
single tys text one p = p.1 one

pub single_fails : (f : WasmFeatures) (tys : List ValType) (old : List ℕ) → length tys ≡ 1 → FailsToWrite (EncodesImmediates f) (HaveReason f) (select_types (select.Multi tys) ∷ []) why.SingleType old old
single_fails f tys old one =
    record { part = []; appended = sym (append-nil old); none = λ enough text (first, more, e, p, rest). single tys first one p; reason = inl (inr (inr (refl, one))) }

select_reason : (tys : List ValType) (e : Unwritable) → HasListReason max_select_types tys e → HasSelectReason (select.Multi tys) e
select_reason tys e (inl r) = inl r
select_reason tys e (inr r) = inr (inl r)

pub types_written : {Y : Type 0} (f : WasmFeatures) (tys : List ValType) (r : Result Y Unwritable) (old new : List ℕ) → length tys ≢ 1 →
    WritesText (EncodesList max_select_types EncodesValType) (HasListReason max_select_types) tys r old new →
    WritesText (EncodesImmediates f) (HaveReason f) (select_types (select.Multi tys) ∷ []) r old new
types_written f tys r old new several w =
    one_written (EncodesList max_select_types EncodesValType) (HasListReason max_select_types) f tys (select_types (select.Multi tys)) r old new (λ t p. (p, several)) (λ t p. p.0) (select_reason tys) w

pub clauses_written : {Y : Type 0} (f : WasmFeatures) (t : ResumeTable) (r : Result Y Unwritable) (old new : List ℕ) →
    WritesText (EncodesList max_handlers EncodesHandle) (HasListReason max_handlers) t.handlers r old new → WritesText (EncodesImmediates f) (HaveReason f) (resume_clauses t ∷ []) r old new
clauses_written f t r old new w =
    one_written (EncodesList max_handlers EncodesHandle) (HasListReason max_handlers) f t.handlers (resume_clauses t) r old new (λ t p. p) (λ t p. p) (λ e w. w) w

try_text : {Y : Type 0} (t : TryTable) (r : Result Y Unwritable) (old mid new : List ℕ) → Appends EncodesBlockType t.ty old mid →
    WritesText (EncodesList max_catches EncodesCatch) (HasListReason max_catches) t.catches r mid new → WritesText EncodesTryTable (λ t e. HasListReason max_catches t.catches e) t r old new
try_text t (Ok y) old mid new a b =
    record {
      text = a.text ++ b.text;
      appended = b.appended ∙ ap (λ z. z ++ b.text) a.appended ∙ append_assoc old a.text b.text;
      encodes = (a.text, b.text, refl, a.encodes, b.encodes);
      shortest = λ other (first, second, e, p, q).
          let x = a.shortest first p in
          let y = b.shortest second q in
          let l = length-append a.text b.text in
          let k = ap length e ∙ length-append first second in
          omega (arith, x, y, l, k);
    }
try_text t (Err e) old mid new a b =
    record {
      part = a.text ++ b.part;
      appended = b.appended ∙ ap (λ z. z ++ b.part) a.appended ∙ append_assoc old a.text b.part;
      none = λ enough text (first, second, parts, p, q). b.none enough second q;
      reason = b.reason;
    }

pub try_written : {Y : Type 0} (f : WasmFeatures) (t : TryTable) (r : Result Y Unwritable) (old mid new : List ℕ) → Appends EncodesBlockType t.ty old mid →
    WritesText (EncodesList max_catches EncodesCatch) (HasListReason max_catches) t.catches r mid new → WritesText (EncodesImmediates f) (HaveReason f) (try_clauses t ∷ []) r old new
try_written f t r old mid new a b =
    one_written EncodesTryTable (λ t e. HasListReason max_catches t.catches e) f t (try_clauses t) r old new (λ t p. p) (λ t p. p) (λ e w. w) (try_text t r old mid new a b)

pub index_before : {Y : Type 0} (f : WasmFeatures) (n : ℕ) (is : List Immediate) (r : Result Y Unwritable) (old mid new : List ℕ) → Appends (EncodesUnsigned 32) n old mid →
    WritesText (EncodesImmediates f) (HaveReason f) is r mid new → WritesText (EncodesImmediates f) (HaveReason f) (unsigned_32 n ∷ is) r old new
index_before f n is r old mid new a b =
    then_written f (unsigned_32 n ∷ []) is r old mid new (one_appended (EncodesUnsigned 32) f n (unsigned_32 n) old mid (λ t p. p) (λ t p. p) a) b

pub table_not_grown : (f : WasmFeatures) (t : BranchTable) (old new : List ℕ) → new ≡ old → FailsToWrite (EncodesImmediates f) (HaveReason f) (branch_table t ∷ []) why.OutOfMemory old new
table_not_grown f t old new e =
    record { part = []; appended = e ∙ sym (append-nil old); none = λ enough. absurd (enough refl); reason = inl refl }

table_text : (t : BranchTable) (old a b new : List ℕ) → t.count ≤ max_targets → AreTargets t.count t.targets → Appends (EncodesUnsigned 32) t.count old a → b ≡ a ++ t.targets →
    Appends (EncodesUnsigned 32) t.default b new → Appends EncodesBranchTable t old new
table_text t old a b new le are x e y =
    record {
      text = x.text ++ (t.targets ++ y.text);
      appended = y.appended ∙ ap (λ z. z ++ y.text) (e ∙ ap (λ z. z ++ t.targets) x.appended) ∙ append_assoc (old ++ x.text) t.targets y.text ∙ append_assoc old x.text (t.targets ++ y.text);
      encodes = (x.text, y.text, refl, (x.encodes, le), are, y.encodes);
      shortest = λ other (count, default, parts, size, targets, p).
          let m = x.shortest count size.0 in
          let n = y.shortest default p in
          let l1 = length-append x.text (t.targets ++ y.text) in
          let l2 = length-append t.targets y.text in
          let k1 = ap length parts ∙ length-append count (t.targets ++ default) in
          let k2 = length-append t.targets default in
          omega (arith, m, n, l1, l2, k1, k2);
    }

pub table_appended : (f : WasmFeatures) (t : BranchTable) (old a b new : List ℕ) → t.count ≤ max_targets → AreTargets t.count t.targets → Appends (EncodesUnsigned 32) t.count old a → b ≡ a ++ t.targets →
    Appends (EncodesUnsigned 32) t.default b new → Appends (EncodesImmediates f) (branch_table t ∷ []) old new
table_appended f t old a b new le are x e y =
    one_appended EncodesBranchTable f t (branch_table t) old new (λ t p. p) (λ t p. p) (table_text t old a b new le are x e y)
