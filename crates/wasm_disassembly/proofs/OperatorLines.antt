use Rattle.std.proofs.Common.{◌≡◌, ◌≢◌, ℕ, ◌+◌, ◌<◌, ◌≤◌, List, [], ◌∷◌, ◌++◌, length, Option, Ok, Err, refl, sym, subst, ap, ◌∙◌, append_assoc, append-nil, length-append, arith}
use Rattle.std.specs.Io.KnownBytes.{Appends}
use Rattle.wasm_operators.specs.below.declared.error.Error.{Error}
use Rattle.wasm_operators.specs.below.declared.message.Message.TheVariants as message
use Rattle.wasm_operators.specs.below.Source.{Reader, rest, offset_of, source_of}
use Rattle.wasm_operators.specs.grammar.declared.frame_change.FrameChange.{FrameChange}
use Rattle.wasm_operators.specs.grammar.declared.frame_change.FrameChange.TheVariants as change
use Rattle.wasm_operators.specs.instr.declared.operator.Operator.{Operator}
use Rattle.wasm_operators.specs.opcodes.Allowed.{EncodesAllowed}
use Rattle.wasm_operators.specs.Expression.{Placed, EncodesExpression}
use Rattle.wasm_operators.specs.MainTheorem.{ReadsTree, ReadsBeginning}
use Rattle.wasm_operators.specs.Laws.{TakesNone, TakesOneMore, TakesBytes}
use Rattle.wasm_operators.specs.Reading.{State, IsFresh, TakesOperator, TakesOperators}
use Rattle.wasm_operators.specs.Next.{collecting}
use Rattle.wasm_index_names.specs.Known.{ModuleNames}
use Rattle.wasm_text.specs.Rows.{line_of}
use Rattle.wasm_text.specs.Lines.{change_in, depth_of, depth_after, between, next_offset, lines_from, lines_of}
use Rattle.wasm_disassembly.specs.declared.fault.DisassemblyFault.TheVariants as fault
use Rattle.wasm_disassembly.specs.Disassembly.{BodyNames, named_text, ListsOperators}
use Rattle.wasm_disassembly.proofs.Written.{appends_none, appends_both}

-- The names for the function with this index.
abbrev pub shown_names : ℕ → ModuleNames → BodyNames
shown_names index names = record { index = index; names = names }

-- ---- along the loop

-- These operators are read and written; the lines of those that follow come after them.
pub record AreListed (names : BodyNames) (start : ℕ) (bytes : List ℕ) (opened now : State) (depth : ℕ) (before later : Option (List ℕ)) : Type 0 where
  pub placed : Placed
  pub ran : TakesOperators opened now placed
  pub written : List ℕ
  pub appends : Appends before later written
  pub after : (end : ℕ) (more : Placed) → next_offset end more ≡ offset_of now.reader →
      lines_of (named_text names) start bytes end (placed ++ more) ≡ written ++ lines_from (named_text names) start bytes end depth more
  pub few : depth ≤ offset_of now.reader

pub listed_none : (names : BodyNames) (start : ℕ) (bytes : List ℕ) (opened : State) (before : Option (List ℕ)) → TakesNone → AreListed names start bytes opened opened 0 before before
listed_none names start bytes opened before first = record {
  placed = [];
  ran = first opened;
  written = [];
  appends = appends_none before;
  after = λ end more next. refl;
  few = omega arith;
}

one_deeper : (c : FrameChange) (n : ℕ) → depth_after c n ≤ n + 1
one_deeper (change.Opens kind) n = omega arith
one_deeper change.Closes n = omega arith
one_deeper change.Stays n = omega arith
one_deeper (change.Turns kind) n = omega arith

pub listed_more : (names : BodyNames) (start depth deeper at : ℕ) (bytes shown : List ℕ) (opened mid new : State) (before between_lines after : Option (List ℕ)) (op : Operator) →
    TakesOneMore → TakesBytes → AreListed names start bytes opened mid depth before between_lines → TakesOperator EncodesAllowed op mid new →
    at ≡ offset_of mid.reader → shown ≡ between start bytes at (offset_of new.reader) →
    Appends between_lines after (line_of (depth_of (change_in shown) depth) at shown (named_text names op)) → deeper ≡ depth_after (change_in shown) depth →
    AreListed names start bytes opened new deeper before after
listed_more names start depth deeper at bytes shown opened mid new before between_lines after op next_law progresses l takes occurs shows wrote goes =
    let p : Operator × ℕ = (op, offset_of mid.reader) in
    let c = change_in shown in
    let line : List ℕ = line_of (depth_of c depth) at shown (named_text names op) in
    let on = progresses op mid new takes in
    let most = one_deeper c depth in
    record {
      placed = l.placed ++ p ∷ [];
      ran = next_law opened mid new l.placed op l.ran takes;
      written = l.written ++ line;
      appends = appends_both before between_lines after l.written line l.appends wrote;
      after = λ end more follows.
          let here : shown ≡ between start bytes (offset_of mid.reader) (next_offset end more) =
          shows ∙ ap (λ n. between start bytes n (offset_of new.reader)) occurs ∙ ap (λ n. between start bytes (offset_of mid.reader) n) (sym follows) in
          ap (lines_of (named_text names) start bytes end) (append_assoc l.placed (p ∷ []) more) ∙ l.after end (p ∷ more) refl ∙
          ap (λ t. l.written ++ (line_of (depth_of (change_in t) depth) (offset_of mid.reader) t (named_text names op) ++
          lines_from (named_text names) start bytes end (depth_after (change_in t) depth) more)) (sym here) ∙
          ap (λ n. l.written ++ (line_of (depth_of c depth) n shown (named_text names op) ++
          lines_from (named_text names) start bytes end (depth_after c depth) more)) (sym occurs) ∙
          ap (λ d. l.written ++ (line ++ lines_from (named_text names) start bytes end d more)) (sym goes) ∙
          sym (append_assoc l.written line (lines_from (named_text names) start bytes end deeper more));
      few = let f = l.few in omega (arith, f, on, most, goes);
    }

pub fewer_left : (op : Operator) (old new : State) → TakesBytes → TakesOperator EncodesAllowed op old new → length (rest new.reader) < length (rest old.reader)
fewer_left op old new progresses t =
    let on = progresses op old new t in
    let place : offset_of new.reader ≡ offset_of old.reader + length t.text = ap offset_of t.takes.moved ∙ omega arith in
    let sum : length (rest old.reader) ≡ length t.text + length (rest new.reader) = ap length t.takes.parts ∙ length-append t.text (rest new.reader) in
    omega (arith, on, place, sum)

all_listed : (names : BodyNames) (start : ℕ) (bytes : List ℕ) (opened now : State) (depth end : ℕ) (before after : Option (List ℕ))
    (l : AreListed names start bytes opened now depth before after) → end ≡ offset_of now.reader →
    Appends before after (lines_of (named_text names) start bytes end l.placed)
all_listed names start bytes opened now depth end before after l occurs =
    let all : l.written ≡ lines_of (named_text names) start bytes end l.placed =
    sym (append-nil l.written) ∙ sym (l.after end [] occurs) ∙ ap (lines_of (named_text names) start bytes end) (append-nil l.placed) in
    subst (Appends before after) all l.appends

-- ---- at the end

pub listed_whole : (x : Unit {0}) (names : BodyNames) (start depth : ℕ) (bytes : List ℕ) (reader : Reader) (opened now : State) (before after : Option (List ℕ))
    (l : AreListed names start bytes opened now depth before after) → opened.reader ≡ reader → ReadsTree [] opened now l.placed →
    ListsOperators names start bytes (Ok x) reader before after
listed_whole x names start depth bytes reader opened now before after l same tree =
    let all = tree.takes in
    let end : offset_of reader + length (rest reader) ≡ offset_of now.reader =
    ap (λ (r : Reader). offset_of r + length (rest r)) (sym same) ∙ omega arith ∙ sym (ap offset_of all.moved) in (
      l.placed,
      subst (λ r. EncodesExpression (source_of r) l.placed) same tree.encodes,
      all_listed names start bytes opened now depth (offset_of reader + length (rest reader)) before after l end,
    )

pub listed_part : (names : BodyNames) (start depth : ℕ) (bytes : List ℕ) (reader : Reader) (e : Error) (opened now stopped : State) (before after : Option (List ℕ))
    (l : AreListed names start bytes opened now depth before after) → opened.reader ≡ reader → IsFresh opened → stopped.reader ≡ now.reader →
    ReadsBeginning collecting [] e opened stopped l.placed → e.message ≢ message.OutOfMemory →
    ListsOperators {X = Unit {0}} names start bytes (Err (fault.Refused e)) reader before after
listed_part names start depth bytes reader e opened now stopped before after l same fresh still b other = (
  other,
  opened,
  stopped,
  same,
  fresh,
  l.placed,
  b,
  all_listed names start bytes opened now depth (offset_of stopped.reader) before after l (ap offset_of still),
)
