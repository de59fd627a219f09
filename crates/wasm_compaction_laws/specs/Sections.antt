-- Code sections whose bodies are typed. WebAssembly Core Specification 3.0: Validation, Modules,
-- Functions; Binary Format, Code Section.
use Rattle.std.specs.Prelude.{◌≡◌, ℕ, zero, suc, List, [], ◌++◌}
use Rattle.wasm_below.specs.declared.features.WasmFeatures.{WasmFeatures}
use Rattle.wasm_below.specs.Number.{EncodesUnsigned}
use Rattle.wasm_below.specs.Source.{reader_of}
use Rattle.wasm_check_control.specs.Environment.{Environment}
use Rattle.wasm_compaction.specs.Blocks.{EncodesBlock}
use Rattle.wasm_validation.specs.Valid.{IsTypedFunction}

-- The bytes are `n` bodies, each after its size. They are typed, the first with the type of the function
-- with index `x`.
abbrev pub AreTypedBodies : Environment → WasmFeatures → ℕ → ℕ → List ℕ → Type 0
AreTypedBodies E f zero x text = text ≡ []
AreTypedBodies E f (suc n) x text =
    (part more body : List ℕ) × (text ≡ part ++ more) × EncodesBlock part body × IsTypedFunction E x (reader_of f 0 body) × AreTypedBodies E f n (suc x) more

-- The contents of a code section: the number of bodies, and the bodies.
--   codesec ::= code*:section_10(list(code))
abbrev pub IsTypedCode : Environment → WasmFeatures → ℕ → List ℕ → Type 0
IsTypedCode E f x contents = (count : ℕ) × (number bodies : List ℕ) × (contents ≡ number ++ bodies) × EncodesUnsigned 32 number count × AreTypedBodies E f count x bodies
