-- Specification: Binary Format, Control Instructions.
use Rattle.std.specs.Prelude.{◌≡◌, ℕ, ◌+◌, ◌-◌, ◌*◌, ltb, Bool, true, false, List, [], ◌∷◌, ◌++◌, length, drop}
use Rattle.wasm_below.specs.Number.{EncodesUnsigned, EncodesSize}
use Rattle.wasm_imm.specs.Lists.{EncodesMany}

-- Count and bytes of the targets, and the default target.
pub record BranchTable : Type 0 where
  pub count : ℕ
  pub targets : List ℕ
  pub default : ℕ

-- The bytes encode that many targets.
abbrev pub AreTargets : ℕ → List ℕ → Type 0
AreTargets count bytes = (numbers : List ℕ) × EncodesMany (EncodesUnsigned 32) count bytes numbers

-- The bytes from position `start` up to `after` are `count` targets.
pub record HasTargets (count : ℕ) (bytes : List ℕ) (start after : ℕ) : Type 0 where
  pub text : List ℕ
  pub targets : AreTargets count text
  pub parts : drop start bytes ≡ text ++ drop after bytes
  pub ends : after ≡ start + length text

abbrev pub EncodesTargets : ℕ → List ℕ → ℕ → Type 0
EncodesTargets count bytes size = (size ≡ length bytes) × AreTargets count bytes

-- The greatest number of targets: a limit of this project.
abbrev pub max_targets : ℕ
max_targets = 7654321

-- Count, targets and default target.
--   0x0E l*:list(labelidx) l_N:labelidx ⇒ br_table l* l_N
abbrev pub EncodesBranchTable : List ℕ → BranchTable → Type 0
EncodesBranchTable text t = (count default : List ℕ) × (text ≡ count ++ (t.targets ++ default)) × EncodesSize max_targets count t.count × AreTargets t.count t.targets × EncodesUnsigned 32 default t.default

abbrev pub before_number : Bool → ℕ → ℕ → List ℕ → List ℕ
before_number true byte n numbers = byte ∷ n ∷ numbers
before_number false byte n numbers = (128 * n + (byte - 128)) ∷ numbers

-- The numbers encoded by a byte before these numbers' encodings: a byte below 128 is a number,
-- another becomes the low seven bits of the first number.
abbrev pub with_byte : ℕ → List ℕ → List ℕ
with_byte byte [] = byte ∷ []
with_byte byte (n ∷ numbers) = before_number (ltb byte 128) byte n numbers

-- The numbers that these bytes encode, in sequence.
abbrev pub numbers_of : List ℕ → List ℕ
numbers_of [] = []
numbers_of (byte ∷ bytes) = with_byte byte (numbers_of bytes)
