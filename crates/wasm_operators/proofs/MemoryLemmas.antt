use Rattle.std.proofs.Common.{◌≡◌, inl, inr, subst}
use Rattle.wasm_below.specs.declared.error.Error.{Error}
use Rattle.wasm_below.specs.declared.message.Message.TheVariants as message
use Rattle.wasm_below.specs.Refusal.{IsReadFault}
use Rattle.wasm_operators.specs.Reading.{State, StopsRead, StopsRun, Decoder}
use Rattle.wasm_operators.proofs.Premises.{IsReading}

pub memory_needs : (decoder : Decoder) → IsReading decoder.Fault → (e : Error) (s : State) → StopsRead decoder e s →
    e.message ≡ message.OutOfMemory → decoder.Allocates s
memory_needs decoder reading e s (inl none) is = absurd (cc (is, none.1))
memory_needs decoder reading e s (inr (inl there)) is =
    absurd (subst IsReadFault is (reading s.reader.features there.kind e.message s.reader e.offset there.fault))
memory_needs decoder reading e s (inr (inr memory)) is = memory.2

pub run_needs : (decoder : Decoder) → IsReading decoder.Fault → (e : Error) (s : State) → StopsRun decoder e s →
    e.message ≡ message.OutOfMemory → decoder.Allocates s
run_needs decoder reading e s (inl left) is = absurd (cc (is, left.2))
run_needs decoder reading e s (inr (some, stops)) is = memory_needs decoder reading e s stops is
