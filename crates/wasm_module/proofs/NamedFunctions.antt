use Rattle.std.proofs.Common.{◌≡◌, ℕ, ◌+◌, Bool, true, false, List, [], ◌∷◌, ◌++◌, set, Option, Some, None, refl, sym, subst, ap, ◌∙◌, append_assoc, append-nil, cond}
use Rattle.std.specs.Prelude.{◌==◌, nat_eq, codes, flat_map, replicate}
use borrow.Author.Tests.{eq-eqb}
use Rattle.std.specs.Borrow.{Bor}
use Rattle.std.proofs.lemmas.Bool.{eqb-true}
use Rattle.std.proofs.lemmas.Grind.{flat_map-append}
use Rattle.std.proofs.lemmas.List.{map-append, map-set, replicate-append-replicate}
use Rattle.wasm_below.specs.declared.error.Error.{Error}
use Rattle.wasm_below.specs.Sequence.{PrefixCode}
use Rattle.wasm_below.specs.Source.{Reader, rest, IsRefusal, HasRead}
use Rattle.wasm_module.specs.Exports.{ExportParts}
use Rattle.wasm_module.specs.Imports.{ImportParts}
use Rattle.wasm_module.specs.Module.{SectionParts}
use Rattle.wasm_module.specs.Names.{NameParts}
use Rattle.wasm_module.specs.Sections.{first_with}
use Rattle.wasm_module.specs.FunctionNames.{name_bytes, bytes_of, function_name, with_exports, with_names, IsNames, NoneIsNames, LastNames}
use Rattle.wasm_module.specs.declared.function_names.FunctionName.{FunctionName}
use Rattle.wasm_module.specs.declared.function_names.FunctionName.TheVariants as name
use Rattle.wasm_below.proofs.Blocks.{refused_now}

pub exports_more : (names : List (List ℕ)) (es : List ExportParts) (e : ExportParts) →
    with_exports names (es ++ e ∷ []) ≡ with_exports (with_exports names es) (e ∷ [])
exports_more names [] e = refl
exports_more names (d ∷ ds) e = exports_more (cond (d.kind == 0) (set names d.index d.name) names) ds e

pub names_more : (names : List (List ℕ)) (ns : List NameParts) (n : NameParts) →
    with_names names (ns ++ n ∷ []) ≡ set (with_names names ns) n.index n.name
names_more names [] n = refl
names_more names (m ∷ ms) n = names_more (set names m.index m.name) ms n

pub imports_more : (is : List ImportParts) (i : ImportParts) → flat_map function_name (is ++ i ∷ []) ≡ flat_map function_name is ++ function_name i
imports_more is i =
    flat_map-append function_name is (i ∷ []) ∙ ap (λ z. flat_map function_name is ++ z) (append-nil (function_name i))

pub import_pushed : (names : List FunctionName) (i : ImportParts) (from item : Bor (List ℕ)) → i.kind ≡ 0 → from.now ≡ i.module_name → item.now ≡ i.name →
    bytes_of (names ++ name.Imported from item ∷ []) ≡ bytes_of names ++ function_name i
import_pushed names i from item is same_from same_item =
    let whole : List ℕ = i.module_name ++ (codes "." ++ i.name) in
    map-append name_bytes names (name.Imported from item ∷ []) ∙
    ap (λ (z : List (List ℕ)). bytes_of names ++ z)
    (ap (λ m. (m ++ (codes "." ++ item.now)) ∷ []) same_from ∙ ap (λ n. (i.module_name ++ (codes "." ++ n)) ∷ []) same_item ∙
    sym (ap (λ b. cond b (whole ∷ []) []) (eq-eqb i.kind 0 is)))

pub unnamed_more : (before now : List FunctionName) (f : FunctionName) (n : ℕ) → name_bytes f ≡ [] → bytes_of now ≡ bytes_of before ++ replicate n [] →
    bytes_of (now ++ f ∷ []) ≡ bytes_of before ++ replicate (n + 1) []
unnamed_more before now f n none is =
    map-append name_bytes now (f ∷ []) ∙ ap (λ x. bytes_of now ++ x ∷ []) none ∙ ap (λ z. z ++ [] ∷ []) is ∙
    append_assoc (bytes_of before) (replicate n []) ([] ∷ []) ∙ ap (λ z. bytes_of before ++ z) (replicate-append-replicate n 1 [])

none_more : (ss : List SectionParts) (s : SectionParts) → NoneIsNames ss → ((contents : Reader) → IsNames s contents → ⊥) → NoneIsNames (ss ++ s ∷ [])
none_more [] s none other = (other, tt)
none_more (t ∷ ts) s (first, others) other = (first, none_more ts s others other)

-- One more section, which is not a custom section `name`.
pub last_stays : (found : Option Reader) (ss : List SectionParts) (s : SectionParts) → LastNames ss found → ((contents : Reader) → IsNames s contents → ⊥) →
    LastNames (ss ++ s ∷ []) found
last_stays None ss s none other = none_more ss s none other
last_stays (Some contents) ss s (before, after, t, parts, is, none) other =
    (before, after ++ s ∷ [], t, ap (λ z. z ++ s ∷ []) parts ∙ append_assoc before (t ∷ after) (s ∷ []), is, none_more after s none other)

-- The same bytes are not read as two values.
pub one_value : {X : Type 0} (P : List ℕ → X → Type 0) → PrefixCode P → (r a b : Reader) (x y : X) → HasRead P x r a → HasRead P y r b → x ≡ y
one_value P code r a b x y (text, is, takes) (other, is_other, takes_other) =
    (code text other (rest a) (rest b) x y is is_other (sym takes.parts ∙ takes_other.parts)).1

pub not_both : {X : Type 0} (P : List ℕ → X → Type 0) (e : Error) (r b : Reader) (x : X) → IsRefusal P e r → HasRead P x r b → ⊥
not_both P e r b x refused (text, is, takes) = refused_now P e r refused text (rest b) x is takes.parts

pub one_named : (index : ℕ) (names : List FunctionName) (given : Bor (List ℕ)) →
    bytes_of (set names index (name.Given given)) ≡ set (bytes_of names) index given.now
one_named index names given = map-set name_bytes names index (name.Given given)

abbrev IsNot : Bool → Type 0
IsNot true = ⊥
IsNot false = Unit {0}

pub is_not : false ≡ true → ⊥
is_not same = subst IsNot same tt

-- A section with another number.
other_by : (b : Bool) (found : Option Reader) → (b ≡ true → ⊥) → cond b found None ≡ None
other_by true found not = absurd (not refl)
other_by false found not = refl

pub not_first : (s : SectionParts) (id : ℕ) → (s.id ≡ id → ⊥) → first_with id (s ∷ []) ≡ None
not_first s id not = other_by (nat_eq s.id id) (Some s.contents) (λ is. not (eqb-true s.id id is))
