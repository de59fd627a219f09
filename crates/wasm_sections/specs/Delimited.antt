-- Specification: Binary Format, Modules, Code Section.
use Rattle.std.specs.Prelude.{ℕ, ◌-◌, leb}
use Rattle.wasm_below.specs.declared.message.Message.TheVariants as message
use Rattle.wasm_grammars.specs.Grammar.{Grammar, done, here, thing}
use Rattle.wasm_grammars.specs.Parts.{◌>>=◌, ◌>>◌, require}

-- A value in at most `n` bytes, and how many of these are left.
abbrev pub delimited : {X : Type 0} → ℕ → Grammar X → Grammar (X × ℕ)
delimited n g = do
  start ← here
  x ← thing g
  end ← here
  require (leb (end - start) n) message.EndOfData
  done (x, n - (end - start))
