use Rattle.std.proofs.Common.{◌≡◌, ℕ, List, Bool, false, Option, Some, None, Result, Ok, Err, refl, sym, subst, ◌∙◌, IfErr}
use Rattle.std.specs.Prelude.{IsTrue, IsOk, IsErrAnd, IfSome}
use Rattle.std.specs.Io.KnownBytes.{Appends}
use Rattle.wasm_operators.specs.below.declared.error.Error.{Error}
use Rattle.wasm_operators.specs.below.declared.message.Message.TheVariants as message
use Rattle.wasm_operators.specs.below.declared.features.WasmFeatures.{WasmFeatures}
use Rattle.wasm_operators.specs.Expression.{Placed}
use Rattle.wasm_operators.specs.Locals.{Declaration}
use Rattle.wasm_listing.specs.declared.fault.DumpFault.{DumpFault}
use Rattle.wasm_listing.specs.declared.fault.DumpFault.TheVariants as fault
use Rattle.wasm_listing.specs.Dump.{input_of, IsBody, Lists, Dumps, IsNotRefused, WritesLines, WritesNothing}

dumps_one : (f : WasmFeatures) (bytes : List ℕ) (e : DumpFault) (old new : Option (List ℕ)) → WritesNothing e →
    Dumps {X = Unit {0}} (input_of f bytes) (Err e) old new
dumps_one f bytes (fault.Refused e) old new h = absurd h
dumps_one f bytes fault.Reading old new h = tt
dumps_one f bytes fault.Writing old new h = absurd h
dumps_one f bytes fault.Memory old new h = tt

pub dumps_fault : (known : Option (List ℕ)) (f : WasmFeatures) (e : DumpFault) (old new : Option (List ℕ)) → WritesNothing e →
    IfSome known (λ bytes. Dumps {X = Unit {0}} (input_of f bytes) (Err e) old new)
dumps_fault None f e old new h = tt
dumps_fault (Some bytes) f e old new h = dumps_one f bytes e old new h

not_refused : (e : DumpFault) → WritesNothing e → IsNotRefused {X = Unit {0}} (Err e)
not_refused (fault.Refused e) h = h
not_refused fault.Reading h = tt
not_refused fault.Writing h = tt
not_refused fault.Memory h = tt

pub no_lines : (e : DumpFault) → WritesNothing e → WritesLines {X = Unit {0}} (Err e) → ⊥
no_lines (fault.Refused e) nothing lines = nothing
no_lines fault.Reading nothing lines = lines
no_lines fault.Writing nothing lines = lines
no_lines fault.Memory nothing lines = lines

pub whole_fault : (known : Option (List ℕ)) (f : WasmFeatures) (e : DumpFault) → WritesNothing e →
    IfSome known (λ bytes. (declarations : List Declaration) (placed : Placed) → IsBody (input_of f bytes) declarations placed →
    IsNotRefused {X = Unit {0}} (Err e))
whole_fault None f e h = tt
whole_fault (Some bytes) f e h = λ declarations placed encodes. not_refused e h

err_not_ok : {X E : Type 0} (r : Result X E) (e : E) → r ≡ Err e → IsOk r → ⊥
err_not_ok (Ok x) e is ok = cc is
err_not_ok (Err d) e is ok = cc ok

pub whole_refused : (known : Option (List ℕ)) (f : WasmFeatures) (input slice : List ℕ) (end : Result (Unit {0}) Error) (e : Error) →
    IfSome known (λ bytes. input ≡ bytes) → slice ≡ input → end ≡ Err e →
    ((declarations : List Declaration) (placed : Placed) → IsBody (input_of f slice) declarations placed → IsOk end) →
    IfSome known (λ bytes. (declarations : List Declaration) (placed : Placed) → IsBody (input_of f bytes) declarations placed → ⊥)
whole_refused None f input slice end e reported same is whole = tt
whole_refused (Some bytes) f input slice end e reported same is whole = λ declarations placed encodes.
    err_not_ok end e is (whole declarations placed (subst (λ b. IsBody (input_of f b) declarations placed) (sym same)
    (subst (λ b. IsBody (input_of f b) declarations placed) (sym reported) encodes)))

pub dumps_refused : (known : Option (List ℕ)) (f : WasmFeatures) (input slice text : List ℕ) (end : Result (Unit {0}) Error) (e : Error)
    (old new : Option (List ℕ)) → IfSome known (λ bytes. input ≡ bytes) → slice ≡ input → end ≡ Err e → Lists (input_of f slice) end text →
    Appends old new text → IfSome known (λ bytes. Dumps {X = Unit {0}} (input_of f bytes) (Err (fault.Refused e)) old new)
dumps_refused None f input slice text end e old new reported same is lists writes = tt
dumps_refused (Some bytes) f input slice text end e old new reported same is lists writes =
    let listed : Lists {X = Unit {0}} (input_of f bytes) (Err e) text =
    subst (λ b. Lists {X = Unit {0}} (input_of f b) (Err e) text) (same ∙ reported) (subst (λ r. Lists (input_of f slice) r text) is lists) in
    (listed.0, listed.1, subst (Appends old new) listed.2 writes)

pub ok_unless : (r : Result (Unit {0}) Error) (b : Bool) → b ≡ false → (IsErrAnd r (λ e. e.message ≡ message.OutOfMemory) → IsTrue b) →
    IfErr r (λ e. e.message ≡ message.OutOfMemory) → IsOk r
ok_unless (Ok x) b isnt reports h = refl
ok_unless (Err e) b isnt reports h = let t : IsTrue false = subst IsTrue isnt (reports h) in absurd (cc t)
