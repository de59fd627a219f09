use Rattle.std.proofs.Common.{◌≡◌, ◌≢◌, ℕ, ◌+◌, List, [], length, refl, sym, ap, subst, arith, append-nil}
use Rattle.wasm_operators.specs.below.declared.error.Error.{Error}
use Rattle.wasm_operators.specs.below.declared.features.WasmFeatures.{WasmFeatures}
use Rattle.wasm_operators.specs.below.declared.message.Message.{Message}
use Rattle.wasm_operators.specs.below.declared.message.Message.TheVariants as message
use Rattle.wasm_operators.specs.below.Source.{Reader, rest, offset_of, source_of, reader_of, Takes}
use Rattle.wasm_operators.specs.grammar.OpenPath.{OpenPath}
use Rattle.wasm_operators.specs.instr.Roles.{roles_of}
use Rattle.wasm_operators.specs.Expression.{Placed, OfPlaced, operators, LaidOut, EncodesExpression, Longest, IsPrefixAfter}
use Rattle.wasm_operators.specs.MainTheorem.{BeginningAt, ReadsBeginning, CutFault}
use Rattle.wasm_operators.specs.Reading.{State, Decoder}
use Rattle.uses.specs.Begun.{BeginsExpression}
use Rattle.uses.specs.Input.{input}

pub cut_at_end : (m : Message) (left : List ℕ) → m ≢ message.OutOfMemory → m ≢ message.FramesRemain → m ≢ message.EndOfData → ¬ CutFault m left
cut_at_end message.OutOfMemory left memory frames data_end cut = memory refl
cut_at_end message.FramesRemain left memory frames data_end cut = frames refl
cut_at_end message.EndOfData left memory frames data_end cut = data_end refl
cut_at_end _ left memory frames data_end cut = cut

pub longest_at : (Kept : OfPlaced) (m : Message) (r : Reader) (placed : Placed) → m ≢ message.OutOfMemory → BeginningAt Kept m [] r placed →
    Longest (IsPrefixAfter [] (source_of r)) Kept placed
longest_at Kept message.OutOfMemory r placed other h = absurd (other refl)
longest_at Kept _ r placed other h = h

pub begins_same : (decoder : Decoder) (e : Error) (old other new : State) (placed : Placed) → other.reader ≡ old.reader →
    ReadsBeginning decoder [] e other new placed → ReadsBeginning decoder [] e old new placed
begins_same decoder e old other new placed same h = record {
  at = subst (λ r. BeginningAt decoder.Kept e.message [] r placed) same h.at;
  text = h.text;
  takes = subst (λ r. Takes r new.reader h.text) same h.takes;
  laid = subst (λ (r : Reader). LaidOut r.features (offset_of r) h.text placed) same h.laid;
  read_so_far = h.read_so_far;
  stops = h.stops;
}

pub begins_whole : (features : WasmFeatures) (bytes : List ℕ) (placed : Placed) → EncodesExpression (input features bytes) placed →
    BeginsExpression (input features bytes) (length bytes)
begins_whole features bytes placed encodes = record {
  text = bytes;
  more = [];
  parts = sym (append-nil bytes);
  size = refl;
  placed = placed;
  encodes = encodes;
}

pub begins_closed : (features : WasmFeatures) (bytes text : List ℕ) (new : State) (placed : Placed) (n : ℕ) →
    Takes (reader_of features 0 bytes) new.reader text → LaidOut features 0 text placed → OpenPath (roles_of (operators placed)) new.frames →
    new.frames ≡ [] → n ≡ new.reader.position → BeginsExpression (input features bytes) n
begins_closed features bytes text new placed n takes laid path closed is =
    let place : new.reader.position ≡ 0 + length text = ap (λ (r : Reader). r.position) takes.moved in
    record {
      text = text;
      more = rest new.reader;
      parts = takes.parts;
      size = omega (arith, is, place);
      placed = placed;
      encodes = (laid, subst (λ frames. OpenPath (roles_of (operators placed)) frames) closed path);
    }
