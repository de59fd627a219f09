-- docs/ERRORS-AND-FEATURES.md has the table of refusals.
use Rattle.std.specs.Prelude.{ℕ, ◌≡◌}
use Rattle.wasm_below.specs.declared.message.NumberName.{NumberName}
use Rattle.wasm_below.specs.declared.message.SizeName.{SizeName}
use Rattle.wasm_below.specs.declared.message.Message.{Message}
use Rattle.wasm_below.specs.declared.message.Message.TheVariants as message
use Rattle.wasm_below.specs.declared.error.ErrorKind.{ErrorKind}
use Rattle.wasm_below.specs.declared.error.ErrorKind.TheVariants as kind

abbrev pub number_of : Message → ℕ
number_of message.EndOfData = 1
number_of (message.FeatureRequired _) = 2
number_of message.OutOfMemory = 3
number_of (message.IntegerTooLong _) = 4
number_of (message.IntegerTooLarge _) = 4
number_of (message.SizeOutOfBounds _) = 5
number_of message.InvalidFunctionType = 6
number_of (message.WrongFrame _ _) = 7
number_of message.OperatorsRemaining = 8
number_of message.FramesRemain = 9
number_of message.FramesRemainConst = 10
number_of message.UnexpectedData = 11
number_of (message.IllegalOpcode _) = 12
number_of (message.UnknownSubopcode _ _) = 13
number_of message.UnexpectedSimd = 14
number_of message.ZeroByteExpected = 15
number_of message.NonzeroAfterFence = 16
number_of message.MemoryAndArray = 17
number_of message.OrderingOnPlain = 18
number_of (message.InvalidOrdering _ _) = 19
number_of message.ReservedFlags = 20
number_of (message.InvalidCastFlags _) = 21
number_of (message.InvalidLeadingByte _ _) = 22
number_of message.TooManyLocals = 23
number_of (message.InvalidType _) = 24
number_of message.DataAfterSection = 25
number_of (message.Malformed _) = 26
number_of (message.BadMagic _) = 27
number_of (message.UnknownVersion _) = 28

abbrev pub kind_of : Message → ErrorKind
kind_of message.EndOfData = kind.EndOfData
kind_of (message.FeatureRequired _) = kind.MissingFeature
kind_of message.OutOfMemory = kind.OutOfMemory
kind_of _ = kind.Other

-- A message about one value: any except E3, E8 to E11, E23 and E25 to E28.
abbrev pub IsReadFault : Message → Type 0
IsReadFault message.OutOfMemory = ⊥
IsReadFault message.OperatorsRemaining = ⊥
IsReadFault message.FramesRemain = ⊥
IsReadFault message.FramesRemainConst = ⊥
IsReadFault message.UnexpectedData = ⊥
IsReadFault message.TooManyLocals = ⊥
IsReadFault message.DataAfterSection = ⊥
IsReadFault (message.Malformed _) = ⊥
IsReadFault (message.BadMagic _) = ⊥
IsReadFault (message.UnknownVersion _) = ⊥
IsReadFault _ = Unit {0}

-- If the message is about an invalid number, it names this kind.
abbrev pub NamesNumber : NumberName → Message → Type 0
NamesNumber name (message.IntegerTooLong n) = n ≡ name
NamesNumber name (message.IntegerTooLarge n) = n ≡ name
NamesNumber name _ = Unit {0}

abbrev pub NamesSize : SizeName → Message → Type 0
NamesSize name (message.SizeOutOfBounds what) = what ≡ name
NamesSize name m = Unit {0}
