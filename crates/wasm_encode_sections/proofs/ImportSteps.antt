-- Writing imports.
use Rattle.std.proofs.Common.{◌≡◌, ◌≢◌, ℕ, ◌+◌, List, [], ◌∷◌, ◌++◌, length, Result, refl, sym, subst, ap, ◌∙◌}
use Rattle.std.specs.Prelude.{IsErrAnd}
use Rattle.wasm_below.specs.declared.features.WasmFeatures.{WasmFeatures}
use Rattle.wasm_below.specs.declared.message.Message.{Message}
use Rattle.wasm_below.specs.declared.message.Message.TheVariants as message
use Rattle.wasm_grammars.specs.Grammar.{Grammar, done, bind, thing, Encodes}
use Rattle.wasm_grammars.specs.Parts.{u32}
use Rattle.wasm_externals.specs.declared.external.ExternalKind.{ExternalKind}
use Rattle.wasm_externals.specs.declared.external.ExternalKind.TheVariants as kind
use Rattle.wasm_externals.specs.declared.external.TypeRef.{TypeRef}
use Rattle.wasm_externals.specs.declared.external.TypeRef.TheVariants as ty
use Rattle.wasm_externals.specs.declared.global_type.GlobalType.{GlobalType}
use Rattle.wasm_externals.specs.declared.import.Import.{Import}
use Rattle.wasm_externals.specs.declared.memory_type.MemoryType.{MemoryType}
use Rattle.wasm_externals.specs.declared.table_type.TableType.{TableType}
use Rattle.wasm_externals.specs.declared.tag_type.TagType.{TagType}
use Rattle.wasm_externals.specs.Externals.{external_kind, type_of, type_ref, import}
use Rattle.wasm_externals.specs.Globals.{global_type, tag_type}
use Rattle.wasm_externals.specs.Limits.{table_type, memory_type}
use Rattle.wasm_externals.specs.Texts.{text}
use Rattle.wasm_write_grammars.specs.Writing.{Writes, IsUnwritable, Extends, AppendsBy}
use Rattle.wasm_write_grammars.proofs.Owing.{Owes, Only, owes, wrote, of_thing, paid, part_fails}
use Rattle.wasm_encode_sections.specs.ExternalReasons.{RefReason}

abbrev pub kind_of : TypeRef → ExternalKind
kind_of (ty.Func i) = kind.Func
kind_of (ty.Table t) = kind.Table
kind_of (ty.Memory t) = kind.Memory
kind_of (ty.Global t) = kind.Global
kind_of (ty.Tag t) = kind.Tag

only_kind_of : (k : ExternalKind) (f : WasmFeatures) (at : ℕ) (t : List ℕ) (x : TypeRef) → Encodes (type_of k f) at t x → k ≡ kind_of x
only_kind_of kind.Func f at t x (a, c, i, e, p, (none, same)) = ap kind_of (sym same)
only_kind_of kind.Table f at t x (a, c, i, e, p, (none, same)) = ap kind_of (sym same)
only_kind_of kind.Memory f at t x (a, c, i, e, p, (none, same)) = ap kind_of (sym same)
only_kind_of kind.Global f at t x (a, c, i, e, p, (none, same)) = ap kind_of (sym same)
only_kind_of kind.Tag f at t x (a, c, i, e, p, (none, same)) = ap kind_of (sym same)

-- The rest is a thing.
in_thing : {X : Type 0} {g h : Grammar X} {x : X} {old now : List ℕ} → Owes g x old (thing h) now → Owes g x old h now
in_thing o = record { appended = o.appended; pays = λ new w. o.pays new (of_thing w); lacks = λ none. o.lacks (λ place text p. none place text p) }

pub ref_starts : (f : WasmFeatures) (x : TypeRef) (old : List ℕ) {mid : List ℕ} → Writes external_kind (kind_of x) old mid → Owes (type_ref f) x old (type_of (kind_of x) f) mid
ref_starts f x old w = in_thing (wrote (owes (type_ref f) x old) (kind_of x) (λ z place at first after p e. only_kind_of z f at after x e) (of_thing w))

-- The type after its kind; `v` is the variant.
module _ (f : WasmFeatures) {Y : Type 0} {p : Grammar Y} (v : Y → TypeRef) (one : (y z : Y) → v y ≡ v z → y ≡ z) (y : Y) {x : TypeRef} (is : x ≡ v y) {old mid : List ℕ}
    (o : Owes (type_ref f) (v y) old (bind p (λ z. done (v z))) mid) where
  pub ref_written : {new : List ℕ} → Writes p y mid new → Writes (type_ref f) x old new
  ref_written {new} w = subst (λ k. Writes (type_ref f) k old new) (sym is) (paid (wrote o y (λ z place at first after q (n, same). one z y (sym same)) w) refl)

  pub ref_fails : {Z : Type 0} (r : Result Z Message) {m : Message} → IsErrAnd r (λ k. k ≡ m) → {new : List ℕ} (WhyPart : Y → Message → Type 0) →
      Extends mid new × (m ≢ message.OutOfMemory → IsUnwritable p WhyPart y m) → (WhyPart y m → RefReason f (v y) m) → AppendsBy (type_ref f) (RefReason f) x r old new
  ref_fails r err {new} WhyPart h because =
      subst (λ k. AppendsBy (type_ref f) (RefReason f) k r old new) (sym is)
      (part_fails (RefReason f) r err o y (λ z place at first after q (n, same). one z y (sym same)) h because)

pub thing_unwritable : {Y A : Type 0} {p : Grammar Y} {Why : Y → Message → Type 0} {y : Y} {m : Message} → A × (m ≢ message.OutOfMemory → IsUnwritable p Why y m) →
    A × (m ≢ message.OutOfMemory → IsUnwritable (thing p) Why y m)
thing_unwritable (a, h) = (a, λ known. record { none = λ place text p. (h known).none place text p; reason = (h known).reason })

-- ---- imports

pub only_module : (f : WasmFeatures) (x : Import) → Only (thing text) (λ a. bind (thing text) (λ b. bind (thing (type_ref f)) (λ c. done (record { «module» = a; name = b; ty = c })))) x x.«module»
only_module f x z place at first after p (a, c, b, e, q, (d, g, i, h, r, (none, same))) = sym (ap (λ (t : Import). t.«module») same)

pub only_field : (f : WasmFeatures) (x : Import) (a : List ℕ) → Only (thing text) (λ b. bind (thing (type_ref f)) (λ c. done (record { «module» = a; name = b; ty = c }))) x x.name
only_field f x a z place at first after p (d, g, i, h, r, (none, same)) = sym (ap (λ (t : Import). t.name) same)

pub only_type : (f : WasmFeatures) (x : Import) (a b : List ℕ) → Only (thing (type_ref f)) (λ c. done (record { «module» = a; name = b; ty = c })) x x.ty
only_type f x a b z place at first after p (none, same) = sym (ap (λ (t : Import). t.ty) same)
