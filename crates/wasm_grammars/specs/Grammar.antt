-- A grammar says which bytes encode a value, which error other bytes have, and where allocation may
-- fail. Its encodings are a prefix code, and its errors are determined: law `grammar_laws`.
use Rattle.std.specs.Prelude.{◌+◌, ◌≤◌, length, take, ◌≡◌, ℕ, ◌⊎◌, Bool, true, false, List, [], ◌∷◌, ◌++◌}
use Rattle.wasm_below.specs.declared.message.Message.{Message}
use Rattle.wasm_below.specs.Fault.{ThenFault, DeterminesRefusal}
use Rattle.wasm_below.specs.Sequence.{PrefixCode}
use Rattle.wasm_below.specs.Source.{Reader, reader_of, rest, offset_of, end_of, HasRead, NoPrefix, EndFault, EndsWithin}

-- What an encoding and a fault owe that are given as relations.
pub record IsPart {X : Type 0} (E : List ℕ → X → Type 0) (F : Message → Reader → ℕ → Type 0) : Type 0 where
  pub code : PrefixCode E
  pub determines : DeterminesRefusal F

-- Which bytes encode a value, which error other bytes have, and where allocation may fail.
pub data Grammar : Type 0 → Type 1 where
  -- the encoding E, its fault F; allocation may fail if M
  part : {X : Type 0} → (E : List ℕ → X → Type 0) → (F : Message → Reader → ℕ → Type 0) → (M : Reader → Type 0) → IsPart E F → Grammar X
  -- no bytes, and this value
  done : {X : Type 0} → X → Grammar X
  -- no bytes, and the offset of the next byte
  here : Grammar ℕ
  -- no value, the error at the start of the thing
  fail : {X : Type 0} → Message → Grammar X
  -- one after the other; the second may depend on the value of the first
  bind : {X Y : Type 0} → Grammar X → (X → Grammar Y) → Grammar Y
  -- the grammar if the condition holds, else the error at the start of the thing
  need : {X : Type 0} → Bool → Message → Grammar X → Grammar X
  -- the first if the condition holds, else the second
  choose : {X : Type 0} → Bool → Grammar X → Grammar X → Grammar X
  -- the same by a test of the next byte, which stays
  peek : {X : Type 0} → (ℕ → Bool) → Grammar X → Grammar X → Grammar X
  -- the grammar in exactly n bytes, or the error at the first byte left over
  within : {X : Type 0} → ℕ → Message → Grammar X → Grammar X
  -- allocation may fail, then the grammar
  allocate : {X : Type 0} → Grammar X → Grammar X
  -- the value with its bytes
  spanned : {X : Type 0} → Grammar X → Grammar (List ℕ × X)
  -- the grammar as a thing, at whose start its errors are
  thing : {X : Type 0} → Grammar X → Grammar X

abbrev pub pick : Bool → Type 0 → Type 0 → Type 0
pick true A B = A
pick false A B = B

-- The bytes have a first byte, for which the test returns this.
abbrev pub Leads : (ℕ → Bool) → Bool → List ℕ → Type 0
Leads p b text = (first : ℕ) × (after : List ℕ) × (text ≡ first ∷ after) × (p first ≡ b)

-- A reader of the next `n` bytes.
abbrev pub cut : ℕ → Reader → Reader
cut n r = reader_of r.features (offset_of r) (take n (rest r))

-- An encoding at this offset, then one, which depends on the value, after it.
abbrev pub ThenAt : {X Y : Type 0} → (ℕ → List ℕ → X → Type 0) → (X → ℕ → List ℕ → Y → Type 0) → ℕ → List ℕ → Y → Type 0
ThenAt {X} P Q at text y = (first rest : List ℕ) × (x : X) × (text ≡ first ++ rest) × P at first x × Q x (at + length first) rest y

-- The bytes, of which the first has this offset, encode the value.
abbrev pub Encodes : {X : Type 0} → Grammar X → ℕ → List ℕ → X → Type 0
Encodes (part E F M is) at = E
Encodes (done v) at = λ text x. (text ≡ []) × (x ≡ v)
Encodes here at = λ text x. (text ≡ []) × (x ≡ at)
Encodes (fail m) at = λ text x. ⊥
Encodes (bind g h) at = ThenAt (Encodes g) (λ x. Encodes (h x)) at
Encodes (need b m g) at = λ text x. (b ≡ true) × Encodes g at text x
Encodes (choose b g h) at = λ text x. pick b (Encodes g at text x) (Encodes h at text x)
Encodes (peek p g h) at = λ text x. (v : Bool) × Leads p v text × pick v (Encodes g at text x) (Encodes h at text x)
Encodes (within n m g) at = λ text x. (length text ≡ n) × Encodes g at text x
Encodes (allocate g) at = Encodes g at
Encodes (spanned g) at = λ text v. (v.0 ≡ text) × Encodes g at text v.1
Encodes (thing g) at = Encodes g at

-- A prefix of the rest encodes the value, and is consumed.
abbrev pub HasReadBy : {X : Type 0} → Grammar X → X → Reader → Reader → Type 0
HasReadBy g x old new = HasRead (Encodes g (offset_of old)) x old new

-- The message and the offset of a failed read at this reader; the thing starts at `start`.
abbrev pub Fault : {X : Type 0} → Grammar X → ℕ → Message → Reader → ℕ → Type 0
Fault (part E F M is) start = F
Fault (done v) start = λ m r offset. ⊥
Fault here start = λ m r offset. ⊥
Fault (fail k) start = λ m r offset. (m ≡ k) × (offset ≡ start)
Fault (bind g h) start = λ m r offset. ThenFault (Encodes g (offset_of r)) (Fault g start) (λ x. Fault (h x) start) m r offset
Fault (need b k g) start = λ m r offset. pick b (Fault g start m r offset) ((m ≡ k) × (offset ≡ start))
Fault (choose b g h) start = λ m r offset. pick b (Fault g start m r offset) (Fault h start m r offset)
Fault (peek p g h) start = λ m r offset. ((v : Bool) × Leads p v (rest r) × pick v (Fault g start m r offset) (Fault h start m r offset)) ⊎ EndFault m r offset
Fault (within {X} n k g) start = λ m r offset. EndsWithin n m r offset ⊎ ((offset_of r + n ≤ end_of r) × ((NoPrefix (Encodes g (offset_of (cut n r))) (rest (cut n r)) × Fault g start m (cut n r) offset) ⊎
    ((x : X) × (end : Reader) × HasReadBy g x (cut n r) end × (m ≡ k) × (offset ≡ offset_of end))))
Fault (allocate g) start = Fault g start
Fault (spanned g) start = Fault g start
Fault (thing g) start = λ m r offset. Fault g (offset_of r) m r offset

-- Allocation may fail, with an error at this offset.
abbrev pub Memory : {X : Type 0} → Grammar X → ℕ → Reader → ℕ → Type 0
Memory (part E F M is) start r offset = M r × (offset ≡ offset_of r)
Memory (done v) start r offset = ⊥
Memory here start r offset = ⊥
Memory (fail m) start r offset = ⊥
Memory (bind {X} g h) start r offset = Memory g start r offset ⊎ ((x : X) × (mid : Reader) × HasReadBy g x r mid × Memory (h x) start mid offset)
Memory (need b m g) start r offset = pick b (Memory g start r offset) ⊥
Memory (choose b g h) start r offset = pick b (Memory g start r offset) (Memory h start r offset)
Memory (peek p g h) start r offset = (v : Bool) × Leads p v (rest r) × pick v (Memory g start r offset) (Memory h start r offset)
Memory (within n m g) start r offset = Memory g start (cut n r) offset
Memory (allocate g) start r offset = (offset ≡ start) ⊎ Memory g start r offset
Memory (spanned g) start r offset = Memory g start r offset
Memory (thing g) start r offset = Memory g (offset_of r) r offset
