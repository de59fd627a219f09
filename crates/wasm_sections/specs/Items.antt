-- Specification: Binary Format, Lists; Modules, Sections.
use Rattle.std.specs.Prelude.{◌≡◌, ◌≢◌, ℕ, zero, suc, ◌+◌, ◌<◌, ◌⊎◌, Bool, true, false, List, [], ◌∷◌, ◌++◌, Option, Some, None, Result, Ok, Err}
use Rattle.wasm_below.specs.declared.error.Error.{Error}
use Rattle.wasm_below.specs.declared.message.Message.{Message}
use Rattle.wasm_below.specs.declared.message.Message.TheVariants as message
use Rattle.wasm_below.specs.Source.{Reader, rest, offset_of}
use Rattle.wasm_grammars.specs.Grammar.{Grammar, done, bind, thing, allocate, Encodes, HasReadBy}
use Rattle.wasm_grammars.specs.Parts.{u32}
use Rattle.wasm_grammars.specs.Reading.{Fails}

-- `xs`, followed by `n` more items. Allocation may fail after each.
abbrev pub listed : {X : Type 0} → ℕ → Grammar X → List X → Grammar (List X)
listed zero g xs = done xs
listed (suc n) g xs = bind (thing g) (λ x. allocate (listed n g (xs ++ x ∷ [])))

-- A count, and that many items.
abbrev pub items : {X : Type 0} → Grammar X → Grammar (List X)
items g = bind u32 (λ n. listed n g [])

-- The value has bytes after it, and the error is at their start.
abbrev pub HasDataAfter : {X : Type 0} → Grammar X → Message → Error → Reader → Type 0
HasDataAfter {X} g m e r = (x : X) × (end : Reader) × HasReadBy g x r end × (rest end ≢ []) × (e.message ≡ m) × (e.offset ≡ offset_of end)

-- The rest encodes no value. The error is the grammar's, or `m` at the first byte left over.
pub record FailsAll {X : Type 0} (g : Grammar X) (m : Message) (e : Error) (r : Reader) : Type 0 where
  pub none : e.message ≢ message.OutOfMemory → (x : X) → Encodes g (offset_of r) (rest r) x → ⊥
  pub cause : Fails g (offset_of r) e r ⊎ HasDataAfter g m e r

-- `Ok` if and only if the whole rest encodes the value, which is returned, unless allocation fails.
abbrev pub ReadsAll : {X : Type 0} → Grammar X → Message → Result X Error → Reader → Type 0
ReadsAll g m (Ok x) r = Encodes g (offset_of r) (rest r) x
ReadsAll g m (Err e) r = FailsAll g m e r

-- The number of items, and the reader before the first.
pub record Counted : Type 0 where
  pub count : ℕ
  pub reader : Reader

-- How many items are left, the reader before the next, and whether an error was returned.
pub record ItemsLeft : Type 0 where
  pub remaining : ℕ
  pub reader : Reader
  pub refused : Bool

-- All items are left.
abbrev pub items_of : Counted → ItemsLeft
items_of s = record { remaining = s.count; reader = s.reader; refused = false }

abbrev pub after_error : ItemsLeft → ItemsLeft
after_error s = record { remaining = s.remaining; reader = s.reader; refused = true }

-- An error was returned, or no item and no data is left.
abbrev pub IsDone : ItemsLeft → Type 0
IsDone s = (s.refused ≡ true) ⊎ ((s.remaining ≡ 0) × (rest s.reader ≡ []))

-- Reading the next item fails; or no item is left, but data is.
abbrev pub StopsItems : {X : Type 0} → Grammar X → Error → ItemsLeft → Type 0
StopsItems g e s = ((0 < s.remaining) × Fails g (offset_of s.reader) e s.reader) ⊎
    ((s.remaining ≡ 0) × (rest s.reader ≢ []) × (e.message ≡ message.DataAfterSection) × (e.offset ≡ offset_of s.reader))

-- A step: an item was read; or an error was returned, once, and nothing consumed; or none follows.
abbrev pub StepsItems : {X : Type 0} → Grammar X → Option (Result X Error) → ItemsLeft → ItemsLeft → Type 0
StepsItems g None old new = (new ≡ old) × IsDone old
StepsItems g (Some (Ok x)) old new = (old.refused ≡ false) × (new.refused ≡ false) × (old.remaining ≡ new.remaining + 1) × HasReadBy g x old.reader new.reader
StepsItems g (Some (Err e)) old new = (old.refused ≡ false) × (new ≡ after_error old) × StopsItems g e old

-- A step whose item has its offset.
abbrev pub StepsPlaced : {X : Type 0} → Grammar X → Option (Result (ℕ × X) Error) → ItemsLeft → ItemsLeft → Type 0
StepsPlaced g None old new = StepsItems g None old new
StepsPlaced g (Some (Ok placed)) old new = (placed.0 ≡ offset_of old.reader) × StepsItems g (Some (Ok placed.1)) old new
StepsPlaced g (Some (Err e)) old new = StepsItems g (Some (Err e)) old new
