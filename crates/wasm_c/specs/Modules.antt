-- The bodies of a module's functions as C structs, one after another, and the names of functions.
-- Specification: Binary Format, Modules, Code Section; Appendix, Custom Sections, Name Section.
use Rattle.std.specs.Prelude.{◌≡◌, ℕ, List, ◌⊎◌}
use Rattle.wasm_module.specs.declared.fault.ModuleFault.{ModuleFault}
use Rattle.wasm_module.specs.declared.fault.ModuleFault.TheVariants as whole_fault
use Rattle.wasm_module.specs.declared.preamble.PreambleKind.{PreambleKind}
use Rattle.wasm_module.specs.declared.preamble.PreambleKind.TheVariants as kind
use Rattle.wasm_module.specs.declared.bodies.Bodies.{Bodies}
use Rattle.wasm_module.specs.declared.body_fault.BodiesFault.{BodiesFault}
use Rattle.wasm_module.specs.declared.body_fault.BodiesFault.TheVariants as fault
use Rattle.wasm_module.specs.declared.body_fault.NoBody.{NoBody}
use Rattle.wasm_module.specs.declared.body_fault.NoBody.TheVariants as no_body
use Rattle.wasm_module.specs.declared.next.Body.{Body}
use Rattle.wasm_module.specs.Bodies.{OpensBodies, FailsBodies, TakesBody, StopsBodies, NamesFunction, FailsName}
use Rattle.wasm_c.specs.declared.refusal.WasmRefusal.{WasmRefusal}
use Rattle.wasm_c.specs.OperatorTexts.{PlacesText, out_of_memory}
use Rattle.wasm_c.specs.Members.{Unchanged}
use Rattle.wasm_c.specs.Refused.{reported, no_refusal, refusal_of, misuse}

-- The number of what the bytes are if they are no module.
abbrev pub preamble_number : PreambleKind → ℕ
preamble_number kind.Module = 0
preamble_number kind.Component = 1
preamble_number kind.OtherVersion = 2
preamble_number kind.NotWasm = 3

-- The C struct of the error if the functions of a module can't be read.
abbrev pub refusal_of_module : ModuleFault → WasmRefusal
refusal_of_module (whole_fault.NotModule kind) = reported 0 106 0 (preamble_number kind)
refusal_of_module (whole_fault.Refused e) = refusal_of e
refusal_of_module (whole_fault.ImportKind byte offset) = reported offset 107 0 byte
refusal_of_module (whole_fault.TypeKind byte offset) = reported offset 108 0 byte
refusal_of_module whole_fault.Memory = out_of_memory 0

-- The C struct of the error if the bodies of a module, or the name of a function, can't be read.
abbrev pub refusal_of_bodies : BodiesFault → WasmRefusal
refusal_of_bodies (fault.Functions f) = refusal_of_module f
refusal_of_bodies (fault.Code e) = refusal_of e
refusal_of_bodies fault.Counts = misuse 109 0
refusal_of_bodies fault.NoFunction = misuse 110 0

-- The C struct of the reason why there is no next body.
abbrev pub refusal_of_next : NoBody → WasmRefusal
refusal_of_next no_body.End = misuse 111 0
refusal_of_next (no_body.Refused e) = refusal_of e
refusal_of_next no_body.NotBodies = misuse 103 0

-- `wasm_open_bodies` returns the place before the first body. On an error, nothing changes.
abbrev pub ReturnsBodies : WasmRefusal → List ℕ → Bodies → Bodies → Type 0
ReturnsBodies r bytes old new =
    ((r ≡ no_refusal 0) × OpensBodies bytes new) ⊎ ((new ≡ old) × (f : BodiesFault) × (r ≡ refusal_of_bodies f) × FailsBodies f bytes)

-- `wasm_next_body` returns the next body. Without one, it returns why, and nothing changes.
abbrev pub ReturnsBody : WasmRefusal → List ℕ → Bodies → Bodies → Body → Body → Type 0
ReturnsBody r bytes old new body_old body_new =
    ((r ≡ no_refusal body_new.offset) × TakesBody bytes old new body_new) ⊎
    ((new ≡ old) × (body_new ≡ body_old) × (reason : NoBody) × (r ≡ refusal_of_next reason) × StopsBodies reason bytes old)

-- `wasm_function_name` writes the name if it fits. If it can't be found, nothing changes.
abbrev pub ReturnsName : WasmRefusal → List ℕ → ℕ → ℕ → ℕ → List ℕ → List ℕ → Type 0
ReturnsName r bytes index count_old count_new old new =
    ((name : List ℕ) × NamesFunction bytes index name × PlacesText name 0 r count_new old new) ⊎
    (((f : BodiesFault) × (r ≡ refusal_of_bodies f) × FailsName f bytes index) × Unchanged count_old count_new old new)
