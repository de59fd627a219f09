-- Writing groups of types.
use Rattle.std.proofs.Common.{◌≡◌, ◌≢◌, ℕ, List, Result, refl, sym, subst}
use Rattle.std.proofs.lemmas.Bool.{eqb-true}
use Rattle.std.specs.Prelude.{◌==◌, IsErrAnd}
use Rattle.wasm_below.specs.declared.message.Message.{Message}
use Rattle.wasm_below.specs.declared.message.Message.TheVariants as message
use Rattle.wasm_below.specs.declared.message.SizeName.TheVariants as size_name
use Rattle.wasm_grammars.specs.Grammar.{Grammar, done, bind, thing, Encodes}
use Rattle.wasm_grammars.specs.Parts.{byte, counted}
use Rattle.wasm_types.specs.declared.recursive.RecGroup.{RecGroup}
use Rattle.wasm_types.specs.declared.recursive.RecGroup.TheVariants as group
use Rattle.wasm_types.specs.declared.recursive.SubType.{SubType}
use Rattle.wasm_types.specs.Types.{max_types, sub_type, implicit_group, explicit_group, rec_group}
use Rattle.wasm_write_grammars.specs.Writing.{Writes, IsUnwritable, Extends, AppendsBy, ListReason}
use Rattle.wasm_write_grammars.proofs.Owing.{Owes, Only, owes, wrote, led, unled, of_thing, paid, part_fails, thing_fails}
use Rattle.wasm_encode_sections.specs.TypeReasons.{SubReason, GroupReason}
use Rattle.wasm_encode_sections.proofs.SameValue.{writes_as}
use Rattle.wasm_encode_sections.proofs.SubtypeBytes.{implicit_leads}

no_explicit : (ty : SubType) (place : ℕ) (text : List ℕ) → Encodes explicit_group place text (group.Implicit ty) → ⊥
no_explicit ty place text (first, after, b, e, p, (a, c, types, f, q, (n, same))) = cc same

no_implicit : (types : List SubType) (place : ℕ) (text : List ℕ) → Encodes implicit_group place text (group.Explicit types) → ⊥
no_implicit types place text (first, after, ty, e, p, (n, same)) = cc same

pub implicit_starts : (ty : SubType) (old : List ℕ) → Owes rec_group (group.Implicit ty) old implicit_group old
implicit_starts ty old =
    unled (owes rec_group (group.Implicit ty) old) (λ place text e. implicit_leads place text (group.Implicit ty) e) (λ place text lead e. absurd (no_explicit ty place text e))

pub only_implicit : (ty : SubType) → Only sub_type (λ t. done (group.Implicit t)) (group.Implicit ty) ty
only_implicit ty z place at first after p (n, same) = sym (cc same)

pub implicit_written : (ty : SubType) {x : RecGroup} → x ≡ group.Implicit ty → {old new : List ℕ} → Writes sub_type ty old new → Writes rec_group x old new
implicit_written ty is {old} w = writes_as (sym is) (paid (wrote (implicit_starts ty old) ty (only_implicit ty) w) refl)

pub implicit_fails : (ty : SubType) {x : RecGroup} → x ≡ group.Implicit ty → {Z : Type 0} (r : Result Z Message) {m : Message} → IsErrAnd r (λ k. k ≡ m) → {old new : List ℕ} →
    Extends old new × (m ≢ message.OutOfMemory → IsUnwritable sub_type SubReason ty m) → AppendsBy rec_group GroupReason x r old new
implicit_fails ty {x} is r err {old} {new} h =
    subst (λ k. AppendsBy rec_group GroupReason k r old new) (sym is) (part_fails GroupReason r err (implicit_starts ty old) ty (only_implicit ty) h (λ why. why))

abbrev pub group_list : Grammar (List SubType)
group_list = counted max_types size_name.RecGroupTypes (thing sub_type)

pub explicit_starts : (types : List SubType) (old : List ℕ) {mid : List ℕ} → Writes byte 0x4e old mid →
    Owes rec_group (group.Explicit types) old (bind (thing group_list) (λ t. done (group.Explicit t))) mid
explicit_starts types old w =
    led (owes rec_group (group.Explicit types) old) 0x4e refl (λ c place text lead e. eqb-true c 0x4e lead) (λ place text lead e. no_implicit types place text e) w

pub only_explicit : (types : List SubType) → Only (thing group_list) (λ t. done (group.Explicit t)) (group.Explicit types) types
only_explicit types z place at first after p (n, same) = sym (cc same)

pub explicit_written : (types : List SubType) {x : RecGroup} → x ≡ group.Explicit types → {old mid new : List ℕ} → Writes byte 0x4e old mid → Writes group_list types mid new →
    Writes rec_group x old new
explicit_written types is {old} one two = writes_as (sym is) (paid (wrote (explicit_starts types old one) types (only_explicit types) (of_thing two)) refl)

pub explicit_fails : (types : List SubType) {x : RecGroup} → x ≡ group.Explicit types → {Z : Type 0} (r : Result Z Message) {m : Message} → IsErrAnd r (λ k. k ≡ m) →
    {old mid new : List ℕ} → Writes byte 0x4e old mid →
    Extends mid new × (m ≢ message.OutOfMemory → IsUnwritable group_list (ListReason max_types size_name.RecGroupTypes SubReason) types m) → AppendsBy rec_group GroupReason x r old new
explicit_fails types {x} is r err {old} {mid} {new} one h =
    subst (λ k. AppendsBy rec_group GroupReason k r old new) (sym is) (thing_fails GroupReason r err (explicit_starts types old one) types (only_explicit types) h (λ why. why))
