-- Writing names.
use Rattle.std.proofs.Common.{◌≡◌, ◌≢◌, ℕ, List, Result, refl, sym, subst, ap}
use Rattle.std.specs.Prelude.{IsErrAnd}
use Rattle.wasm_below.specs.declared.message.Message.{Message}
use Rattle.wasm_below.specs.declared.message.Message.TheVariants as message
use Rattle.wasm_externals.specs.Texts.{text}
use Rattle.wasm_grammars.specs.Grammar.{done, bind, thing}
use Rattle.wasm_grammars.specs.Parts.{u32}
use Rattle.wasm_names.specs.declared.naming.Naming.{Naming}
use Rattle.wasm_names.specs.Names.{naming}
use Rattle.wasm_sections.specs.Items.{items}
use Rattle.wasm_write_grammars.specs.Writing.{Writes, IsUnwritable, Extends, AppendsBy}
use Rattle.wasm_write_grammars.proofs.Owing.{Owes, Only, owes, wrote, of_thing, paid, part_fails}
use Rattle.wasm_encode_sections.specs.declared.names.ListedNaming.{ListedNaming}
use Rattle.wasm_encode_sections.specs.ItemReasons.{ItemsReason}
use Rattle.wasm_encode_sections.specs.NameReasons.{listed_naming, NamingReason, ListedNamingReason}

pub only_naming_index : (x : Naming) → Only u32 (λ i. bind (thing text) (λ n. done (record { index = i; name = n }))) x x.index
only_naming_index x z place at first after p (a, b, n, e, q, (none, same)) = sym (ap (λ (k : Naming). k.index) same)

pub only_naming_name : (x : Naming) (i : ℕ) → Only (thing text) (λ n. done (record { index = i; name = n })) x x.name
only_naming_name x i z place at first after p (none, same) = sym (ap (λ (k : Naming). k.name) same)

module _ (x : ListedNaming) where
  pub only_listed_index : Only u32 (λ i. bind (items naming) (λ n. done (record { index = i; names = n }))) x x.index
  only_listed_index z place at first after p (a, b, n, e, q, (none, same)) = sym (ap (λ (k : ListedNaming). k.index) same)

  only_listed_names : (i : ℕ) → Only (items naming) (λ n. done (record { index = i; names = n })) x x.names
  only_listed_names i z place at first after p (none, same) = sym (ap (λ (k : ListedNaming). k.names) same)

  pub listed_starts : {old mid : List ℕ} → Writes u32 x.index old mid → Owes listed_naming x old (bind (items naming) (λ n. done (record { index = x.index; names = n }))) mid
  listed_starts {old} w = wrote (owes listed_naming x old) x.index only_listed_index w

  pub listed_written : {old mid new : List ℕ} → Writes u32 x.index old mid → {ys : List Naming} → ys ≡ x.names → Writes (items naming) ys mid new → Writes listed_naming x old new
  listed_written {old} {mid} {new} w same u =
      paid (wrote (listed_starts w) x.names (only_listed_names x.index) (subst (λ z. Writes (items naming) z mid new) same u)) refl

  pub listed_fails : {old mid new : List ℕ} → Writes u32 x.index old mid → {ys : List Naming} → ys ≡ x.names → {Z : Type 0} (r : Result Z Message) {m : Message} →
      IsErrAnd r (λ k. k ≡ m) → Extends mid new × (m ≢ message.OutOfMemory → IsUnwritable (items naming) (ItemsReason NamingReason) ys m) →
      AppendsBy listed_naming ListedNamingReason x r old new
  listed_fails {old} {mid} {new} w same r {m} err h =
      part_fails ListedNamingReason r err (listed_starts w) x.names (only_listed_names x.index)
      (subst (λ z. Extends mid new × (m ≢ message.OutOfMemory → IsUnwritable (items naming) (ItemsReason NamingReason) z m)) same h) (λ why. why)
