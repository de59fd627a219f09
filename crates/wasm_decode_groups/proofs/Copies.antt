-- Decoding by a copy of the reader.
use Rattle.std.proofs.Common.{◌≡◌, ℕ, ◌+◌, ◌≤◌, length, Option, Result, Ok, Err, sym, subst, ap, ◌∙◌, arith}
use Rattle.wasm_below.specs.declared.error.Error.{Error}
use Rattle.wasm_below.specs.Source.{Reader, at_position, Takes}
use Rattle.wasm_below.proofs.TakesLemmas.{within_buffer}
use Rattle.wasm_grammar.specs.declared.frame_kind.FrameKind.{FrameKind}
use Rattle.wasm_instr.specs.declared.operator.Operator.{Operator}
use Rattle.wasm_decode_opcodes.specs.Decoding.{DecodesAt, IsAfterCode}
use Rattle.wasm_decode_opcodes.proofs.OperatorLemmas.{within_after_code}
use Rattle.wasm_decode_groups.specs.OutOfLine.{with_error}

-- a call changes only the reader's position
position_alone : {V A : Type 0} (visits : V → Operator → A → V → Type 0) (k : FrameKind) (start : ℕ) (result : Result A Error) (old mid : Reader) (v w : V) →
    DecodesAt visits k start result old mid v w → mid ≡ at_position old mid.position
position_alone visits k start (Ok a) old mid v w (op, (text, encodes, takes), visited) =
    takes.moved ∙ ap (at_position old) (sym (ap (λ (r : Reader). r.position) takes.moved))
position_alone visits k start (Err e) old mid v w (same, refuses) = refuses.0 ∙ ap (at_position old) (sym (ap (λ (r : Reader). r.position) refuses.0))

module _ {V A : Type 0} (visits : V → Operator → A → V → Type 0) (k : FrameKind) (start : ℕ) (old copy mid : Reader) (v w : V) (same : copy ≡ old) where
  copy_within : (p : Option ℕ) (code : ℕ) (result : Result A Error) → IsAfterCode start p code old → DecodesAt visits k start result copy mid v w →
      mid.position ≤ length old.buffer
  copy_within p code (Ok a) b (op, (text, encodes, takes), visited) =
      let within = within_after_code start p code old b in
      let t : Takes (at_position old start) mid text = subst (λ r. Takes (at_position r start) mid text) same takes in
      let whole = within_buffer (at_position old start) mid text (omega (arith, within, b.begun)) t in
      let at : mid.position ≡ start + length text = ap (λ (r : Reader). r.position) t.moved in
      omega (arith, whole, at)
  copy_within p code (Err e) b (kept, refuses) =
      let within = within_after_code start p code old b in
      let at : mid.position ≡ start = ap (λ (r : Reader). r.position) refuses.0 in
      omega (arith, within, b.begun, at)

  -- a reader that is set to the position of its copy did what the copy did
  pub by_copy : (result : Result A Error) (new : Reader) → DecodesAt visits k start result copy mid v w → new ≡ at_position old mid.position →
      DecodesAt visits k start result old new v w
  by_copy result new h went =
      let read : DecodesAt visits k start result old mid v w = subst (λ r. DecodesAt visits k start result r mid v w) same h in
      let e : new ≡ mid = went ∙ sym (position_alone visits k start result old mid v w read) in
      subst (λ r. DecodesAt visits k start result old r v w) (sym e) read

-- the position of the copy is at most the length of the bytes
pub left_within : {V A : Type 0} (visits : V → Operator → A → V → Type 0) (k : FrameKind) (start : ℕ) (old copy left : Reader) (error : Error) (v w : V) (p : Option ℕ) (code : ℕ)
    (outcome : Option A) → copy ≡ old → IsAfterCode start p code old → DecodesAt visits k start (with_error outcome error) copy left v w →
    left.position ≤ length old.buffer
left_within visits k start old copy left error v w p code outcome same b h = copy_within visits k start old copy left v w same p code (with_error outcome error) b h
