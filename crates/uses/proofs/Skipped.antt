use Rattle.std.proofs.Common.{◌≡◌, ℕ, ◌+◌, ◌-◌, ◌≤◌, [], ◌∷◌, ◌++◌, length, length-append, refl, ap, arith}
use Rattle.wasm_operators.specs.below.Source.{Reader, offset_of}
use Rattle.wasm_operators.specs.instr.declared.operator.Operator.{Operator}
use Rattle.wasm_operators.specs.opcodes.Allowed.{EncodesAllowed}
use Rattle.wasm_operators.specs.Expression.{Placed}
use Rattle.wasm_operators.specs.MainTheorem.{IsWithinDepth}
use Rattle.wasm_operators.specs.Laws.{TakesNone, TakesOneMore, TakesNoMore, AddsFewFrames, MemoryAddsUp}
use Rattle.wasm_operators.specs.Reading.{State, GrowsLittle, IsUnchanged, TakesOperator, TakesOperators}

-- `count` operators are taken, and the frames and their memory are within bounds.
pub record HasSkipped (count : ℕ) (old now : State) : Type 0 where
  pub placed : Placed
  pub many : length placed ≡ count
  pub taken : TakesOperators old now placed
  pub depth : IsWithinDepth old now
  pub forward : old.reader.position ≤ now.reader.position
  pub memory : GrowsLittle (now.reader.position - old.reader.position) old now

pub skips_none : (s : State) → TakesNone → HasSkipped 0 s s
skips_none s first = record { placed = []; many = refl; taken = first s; depth = omega arith; forward = omega arith; memory = omega arith }

grows_more : (few many : ℕ) (old new : State) → few ≤ many → GrowsLittle few old new → GrowsLittle many old new
grows_more few many old new less grows = omega (arith, less, grows)

pub skips_on : (op : Operator) (count : ℕ) (old mid new : State) → AddsFewFrames → MemoryAddsUp → TakesOneMore → HasSkipped count old mid →
    TakesOperator EncodesAllowed op mid new → HasSkipped (count + 1) old new
skips_on op count old mid new one adds next h taken =
    let moved : new.reader.position ≡ mid.reader.position + length taken.text = ap (λ (r : Reader). r.position) taken.takes.moved in
    let deeper : IsWithinDepth mid new = one op mid new taken in
    let first = mid.reader.position - old.reader.position in
    let grows = adds first 0 old mid new h.memory (omega (arith, h.depth, h.forward)) taken.memory in
    let one_more : Placed = (op, offset_of mid.reader) ∷ [] in
    record {
      placed = h.placed ++ one_more;
      many = omega (arith, h.many, length-append h.placed one_more);
      taken = next old mid new h.placed op h.taken taken;
      depth = omega (arith, h.depth, deeper);
      forward = omega (arith, h.forward, moved);
      memory = grows_more (first + 0) (new.reader.position - old.reader.position) old new (omega (arith, h.forward, moved)) grows;
    }

pub skips_refused : (count : ℕ) (old mid new : State) → MemoryAddsUp → TakesNoMore → HasSkipped count old mid → IsUnchanged mid new → HasSkipped count old new
skips_refused count old mid new adds after h unchanged =
    let (reader, frames, room, memory, grows) = unchanged in
    let place : new.reader.position ≡ mid.reader.position = ap (λ (r : Reader). r.position) reader in
    let many : length new.frames ≡ length mid.frames = ap length frames in
    let first = mid.reader.position - old.reader.position in
    let grows = adds first 0 old mid new h.memory (omega (arith, h.depth, h.forward)) memory in
    record {
      placed = h.placed;
      many = h.many;
      taken = after old mid new h.placed h.taken unchanged;
      depth = omega (arith, h.depth, place, many);
      forward = omega (arith, h.forward, place);
      memory = grows_more (first + 0) (new.reader.position - old.reader.position) old new (omega (arith, h.forward, place)) grows;
    }
