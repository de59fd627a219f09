use Rattle.std.proofs.Common.{◌≡◌, ◌≢◌, ℕ, ◌+◌, ◌<◌, inl, List, [], ◌∷◌, ◌++◌, length, Err, refl, sym, subst, ap, ◌∙◌, append_assoc, arith}
use Rattle.std.specs.Prelude.{⊤}
use Rattle.wasm_below.specs.declared.error.Error.{Error}
use Rattle.wasm_below.specs.declared.types.ValType.{ValType}
use Rattle.wasm_below.specs.Ahead.{Fails}
use Rattle.wasm_below.specs.FromReader.{IsRefused, ReadsValue}
use Rattle.wasm_below.specs.declared.message.SizeName.TheVariants as size_name
use Rattle.wasm_below.specs.Fault.{ManyFault}
use Rattle.wasm_below.specs.Number.{EncodesSize}
use Rattle.wasm_below.proofs.Ahead.{first_fails, second_fails}
use Rattle.wasm_below.proofs.Blocks.{refused_now}
use Rattle.wasm_imm.specs.BlockTypeFaults.{BlockTypeFault}
use Rattle.wasm_imm.specs.HandlerFaults.{CatchFault}
use Rattle.wasm_imm.specs.ListFaults.{ListFault, TryTableFault, SelectFault}
use Rattle.wasm_below.specs.Sequence.{Then, PrefixCode}
use Rattle.wasm_below.specs.Source.{Reader, rest, at_position, NoPrefix, SomePrefix, IsRefusal, HasRead, Reads, CountFault}
use Rattle.wasm_below.specs.TypeEncoding.{EncodesValType, ValTypeFault}
use Rattle.wasm_below.proofs.PrefixCode.{unsigned_prefix_code, size_prefix_code}
use Rattle.wasm_below.proofs.TakesLemmas.{same_rest, takes_then}
use Rattle.wasm_below.proofs.TypePrefixCodes.{value_prefix_code}
use Rattle.wasm_imm.specs.declared.block_type.BlockType.{BlockType}
use Rattle.wasm_imm.specs.declared.handler_tables.TryTable.{TryTable}
use Rattle.wasm_imm.specs.declared.handler_tables.ResumeTable.{ResumeTable}
use Rattle.wasm_imm.specs.declared.handlers.Catch.{Catch}
use Rattle.wasm_imm.specs.declared.handlers.Handle.{Handle}
use Rattle.wasm_imm.specs.declared.select.Select.{Select}
use Rattle.wasm_imm.specs.declared.select.Select.TheVariants as select
use Rattle.wasm_imm.specs.BlockTypes.{EncodesBlockType}
use Rattle.wasm_imm.specs.Handlers.{EncodesCatch, EncodesHandle}
use Rattle.wasm_imm.specs.HandlerTables.{max_catches, max_handlers, max_select_types, EncodesTryTable, EncodesTryTableCount, EncodesResumeTable, EncodesSelect, EncodesOne, SelectAllocates}
use Rattle.wasm_imm.specs.Lists.{EncodesEach, EncodesMany, EncodesList, HasCount}
use Rattle.wasm_imm.specs.OutOfMemory.{IsRefusedFrom}
use Rattle.wasm_imm.proofs.BlockTypes.{block_prefix_code, block_empty}
use Rattle.wasm_imm.proofs.HandlerLemmas.{catch_prefix_code, handle_prefix_code}
use Rattle.wasm_imm.proofs.ListLemmas.{list_prefix_code}
use Rattle.wasm_imm.proofs.ListRefusals.{begun_refused, refused_by, as_refused, some_read, some_then}
use Rattle.wasm_below.proofs.Steps.{unsigned_some, first_missing}

resume_of : List Handle → ResumeTable
resume_of handlers = record { handlers = handlers }

pub resume_prefix_code : PrefixCode EncodesResumeTable
unfolding resume_of
resume_prefix_code a b x y m n p q e = let o = list_prefix_code max_handlers EncodesHandle handle_prefix_code a b x y m.handlers n.handlers p q e in
    (o.0, ap resume_of o.1)

try_of : BlockType → List Catch → TryTable
try_of ty catches = record { ty = ty; catches = catches }

pub try_prefix_code : PrefixCode EncodesTryTable
unfolding try_of
try_prefix_code a b x y m n (a1, a2, ea, pa, qa) (b1, b2, eb, pb, qb) e =
    let whole : a1 ++ (a2 ++ x) ≡ b1 ++ (b2 ++ y) = sym (append_assoc a1 a2 x) ∙ ap (λ z. z ++ x) (sym ea) ∙ e ∙ ap (λ z. z ++ y) eb ∙ append_assoc b1 b2 y in
    let o = block_prefix_code a1 b1 (a2 ++ x) (b2 ++ y) m.ty n.ty pa pb whole in
    let t = list_prefix_code max_catches EncodesCatch catch_prefix_code a2 b2 x y m.catches n.catches qa qb (same_rest a1 b1 (a2 ++ x) (b2 ++ y) o.0 whole) in
    (ea ∙ cc (o.0, t.0) ∙ sym eb, ap (λ z. try_of z m.catches) o.1 ∙ ap (try_of n.ty) t.1)

block_some : (text : List ℕ) (t : BlockType) → EncodesBlockType text t → 0 < length text
block_some [] t p = absurd (block_empty t p)
block_some (c ∷ text) t p = omega arith

abbrev after_type : BlockType → List ℕ → TryTable → Type 0
after_type ty text t = EncodesList max_catches EncodesCatch text t.catches

pub type_missing : (e : Error) (old new : Reader) → Reads EncodesBlockType BlockTypeFault (Err e) old new →
    ReadsValue EncodesTryTable TryTableFault (λ r. SomePrefix EncodesTryTableCount (rest r)) (Err e) old new
type_missing e old new h =
    let Memory = λ (r : Reader). SomePrefix EncodesTryTableCount (rest r) in
    let s = first_missing EncodesBlockType after_type BlockTypeFault (λ ty. ListFault size_name.Catches max_catches EncodesCatch CatchFault) e old new h in (
      s.0,
      refused_by (Then EncodesBlockType after_type) EncodesTryTable TryTableFault TryTableFault Memory Memory e old
          (λ text t (a, b, ab, pa, pb). (t, (a, b, t.ty, ab, pa, pb))) (λ m offset x. x) (λ x. x)
          (as_refused (Then EncodesBlockType after_type) TryTableFault Memory e old s.1 s.2),
    )

pub catches_refused : (e f : Error) (old mid mid2 new : Reader) (ty : BlockType) (position : ℕ) → HasRead EncodesBlockType ty old mid →
    ReadsValue (EncodesList max_catches EncodesCatch) (ListFault size_name.Catches max_catches EncodesCatch CatchFault) (HasCount max_catches) (Err e) mid mid2 →
    position ≡ old.position → new ≡ at_position mid2 position → IsRefusedFrom (mid2.start + position) e f →
    ReadsValue EncodesTryTable TryTableFault (λ r. SomePrefix EncodesTryTableCount (rest r)) (Err f) old new
catches_refused e f old mid mid2 new ty position r h at went begun =
    let Catches = ListFault size_name.Catches max_catches EncodesCatch CatchFault in
    let Memory = λ (r : Reader). SomePrefix EncodesTryTableCount (rest r) in
    let memory = λ (k : HasCount max_catches mid). some_then EncodesBlockType (λ ty. EncodesSize max_catches) old mid ty r k in
    let s = begun_refused EncodesBlockType after_type BlockTypeFault (λ ty. Catches) (HasCount max_catches) Memory e f old mid mid2 new ty position
    block_prefix_code (λ text p. block_some text ty p) r (
      h.0,
      refused_by (EncodesList max_catches EncodesCatch) (after_type ty) Catches Catches (HasCount max_catches) (HasCount max_catches) e mid
          (λ text t q. (t.catches, q)) (λ m offset x. x) (λ x. x) h.1,
    ) memory at went begun in (
      s.0,
      refused_by (Then EncodesBlockType after_type) EncodesTryTable TryTableFault TryTableFault Memory Memory f old
          (λ text t (a, b, ab, pa, pb). (t, (a, b, t.ty, ab, pa, pb))) (λ m offset x. x) (λ x. x) s.1,
    )

types_of : Select → List ValType
types_of (select.One ty) = ty ∷ []
types_of (select.Multi tys) = tys

select_types : (text : List ℕ) (s : Select) → EncodesSelect text s → EncodesList max_select_types EncodesValType text (types_of s)
unfolding types_of
select_types text (select.One ty) p = p
select_types text (select.Multi tys) p = p.0

pub select_prefix_code : PrefixCode EncodesSelect
unfolding types_of
select_prefix_code a b x y (select.One t) (select.One u) p q e = let o =
    list_prefix_code max_select_types EncodesValType value_prefix_code a b x y (t ∷ []) (u ∷ []) p q e in (o.0, ap select.One (cc (o.1)))
select_prefix_code a b x y (select.One t) (select.Multi us) p q e = let o =
    list_prefix_code max_select_types EncodesValType value_prefix_code a b x y (t ∷ []) us p q.0 e in absurd (q.1 (sym (ap length o.1)))
select_prefix_code a b x y (select.Multi ts) (select.One u) p q e = let o =
    list_prefix_code max_select_types EncodesValType value_prefix_code a b x y ts (u ∷ []) p.0 q e in absurd (p.1 (ap length o.1))
select_prefix_code a b x y (select.Multi ts) (select.Multi us) p q e = let o =
    list_prefix_code max_select_types EncodesValType value_prefix_code a b x y ts us p.0 q.0 e in (o.0, ap select.Multi o.1)

select_fails : {e : Error} {old : Reader} → Fails (EncodesList max_select_types EncodesValType) SelectFault e old →
    IsRefused EncodesSelect SelectFault SelectAllocates e old
select_fails {e} {old} (h, f) =
    refused_by (EncodesList max_select_types EncodesValType) EncodesSelect SelectFault SelectFault SelectAllocates SelectAllocates e old
    (λ text t p. (types_of t, select_types text t p)) (λ m offset x. x) (λ x. x)
    (as_refused (EncodesList max_select_types EncodesValType) SelectFault SelectAllocates e old h f)

pub count_fails : {e : Error} {old : Reader} → Fails (EncodesSize max_select_types) (CountFault size_name.SelectTypes max_select_types) e old →
    IsRefused EncodesSelect SelectFault SelectAllocates e old
count_fails h =
    select_fails (first_fails (EncodesSize max_select_types) (EncodesMany EncodesValType) (CountFault size_name.SelectTypes max_select_types)
    (ManyFault EncodesValType ValTypeFault) h)

pub not_one : (old mid : Reader) (count : ℕ) → HasRead (EncodesSize max_select_types) count old mid → count ≢ 1 → NoPrefix EncodesOne (rest old)
not_one old mid count (text, p, t) other first after n q eq =
    other ((unsigned_prefix_code text first 32 (rest mid) after count n p.0 q.0 (sym t.parts ∙ eq)).1 ∙ q.1)

pub types_refused : (e f : Error) (old mid mid2 new : Reader) (count position : ℕ) → HasRead (EncodesSize max_select_types) count old mid → count ≢ 1 →
    ReadsValue (EncodesMany EncodesValType count) (ManyFault EncodesValType ValTypeFault count) (λ r. ⊤) (Err e) mid mid2 → position ≡ old.position →
    new ≡ at_position mid2 position → IsRefusedFrom (mid2.start + position) e f → ReadsValue EncodesSelect SelectFault SelectAllocates (Err f) old new
types_refused e f old mid mid2 new count position r other h at went begun =
    let memory : ⊤ → SelectAllocates old = λ k. (not_one old mid count r other, some_read (EncodesSize max_select_types) old mid count r) in
    let s = begun_refused (EncodesSize max_select_types) (EncodesMany EncodesValType) (CountFault size_name.SelectTypes max_select_types)
    (ManyFault EncodesValType ValTypeFault) (λ r. ⊤) SelectAllocates e f old mid mid2 new count position (size_prefix_code max_select_types)
    (λ text p. unsigned_some 32 text count p.0) r h memory at went begun in (
      s.0,
      refused_by (EncodesList max_select_types EncodesValType) EncodesSelect SelectFault SelectFault SelectAllocates SelectAllocates f old
          (λ text t p. (types_of t, select_types text t p)) (λ m offset x. x) (λ x. x) s.1,
    )

pub type_fails : (old mid : Reader) (count : ℕ) → count ≡ 1 → HasRead (EncodesSize max_select_types) count old mid → {e : Error} →
    Fails EncodesValType ValTypeFault e mid → IsRefused EncodesSelect SelectFault SelectAllocates e old
type_fails old mid count one r {e} (h, f) =
    let later : IsRefusal (EncodesMany EncodesValType count) e mid = record {
      refuses = λ more follow text after tys p eq. lone (rest mid ++ more) text after tys p.0 p.1 (h.refuses more follow) eq;
      fault = h.fault;
      ahead = h.ahead;
    } in
    let fault = subst (λ n. ManyFault EncodesValType ValTypeFault n e.message mid e.offset) (sym one) (inl (refused_now EncodesValType e mid h, f)) in
    select_fails (second_fails (EncodesSize max_select_types) (EncodesMany EncodesValType) (CountFault size_name.SelectTypes max_select_types)
    (ManyFault EncodesValType ValTypeFault) (size_prefix_code max_select_types) r (later, fault))
  where
    lone : (bytes text after : List ℕ) (tys : List ValType) → length tys ≡ count → EncodesEach EncodesValType text tys → NoPrefix EncodesValType bytes →
        bytes ≡ text ++ after → ⊥
    lone bytes text after [] l p none eq = absurd (omega (arith, l))
    lone bytes text after (ty ∷ tys) l (first, later, e, p, ps) none eq =
        none first (later ++ after) ty p (eq ∙ ap (λ z. z ++ after) e ∙ append_assoc first later after)

pub one_read : (old mid new : Reader) (count : ℕ) (ty : ValType) → count ≡ 1 → HasRead (EncodesSize max_select_types) count old mid →
    HasRead EncodesValType ty mid new → HasRead EncodesSelect (select.One ty) old new
one_read old mid new count ty one (a, p, s) (b, q, t) =
    (a ++ b, (a, b, count, refl, p, (sym one, (b, [], nil_right b, q, refl))), takes_then old mid new a b s t)
  where
    nil_right : (zs : List ℕ) → zs ≡ zs ++ []
    nil_right [] = refl
    nil_right (z ∷ zs) = ap (λ w. z ∷ w) (nil_right zs)
