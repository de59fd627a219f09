-- Specification: Binary Format, Types, Recursive Types.
use Rattle.std.specs.Prelude.{ℕ, Bool, true, false, Option, None}

-- The type is final and has no supertype, so that its composite type alone encodes it.
abbrev pub is_plain : Bool → Option ℕ → Bool
is_plain true None = true
is_plain _ _ = false

-- The byte before the supertypes.
abbrev pub sub_byte : Bool → ℕ
sub_byte true = 0x4f
sub_byte false = 0x50
