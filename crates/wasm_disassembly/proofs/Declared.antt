use Rattle.std.proofs.Common.{◌≡◌, ◌≢◌, ℕ, ◌+◌, ◌<◌, ◌≤◌, List, [], ◌∷◌, ◌++◌, length, Option, Ok, Err, refl, sym, subst, ap, ◌∙◌, append_assoc, append-nil, length-append, arith}
use Rattle.std.proofs.lemmas.List.{append_cancel_left}
use Rattle.std.specs.Io.KnownBytes.{Appends}
use Rattle.wasm_operators.specs.below.declared.error.Error.{Error}
use Rattle.wasm_operators.specs.below.declared.message.Message.TheVariants as message
use Rattle.wasm_operators.specs.below.Sequence.{PrefixCode}
use Rattle.wasm_operators.specs.below.Source.{rest, offset_of}
use Rattle.wasm_operators.specs.imm.Lists.{EncodesEach, EncodesMany}
use Rattle.wasm_operators.specs.Locals.{Declaration, EncodesDeclaration, max_locals, Locals, ReadsDeclaration}
use Rattle.wasm_text.specs.Rows.{line_of}
use Rattle.wasm_text.specs.Lines.{between, next_offset}
use Rattle.wasm_disassembly.specs.declared.fault.DisassemblyFault.TheVariants as fault
use Rattle.wasm_disassembly.specs.LocalLines.{PlacedLocals, declarations_of, locals_in, LaidOutLocals, declaration_text, declaration_lines, WritesDeclarations, ListsDeclarations}
use Rattle.wasm_below.proofs.TakesLemmas.{takes_then, takes_none}
use Rattle.wasm_operators.proofs.OneRead.{may_end}
use Rattle.wasm_disassembly.proofs.Written.{appends_none, appends_both}

-- ---- one more declaration

laid_more : (offset : ℕ) (placed : PlacedLocals) (a : List ℕ) (d : Declaration) (b : List ℕ) (at : ℕ) → at ≡ offset + length a →
    LaidOutLocals offset a placed → EncodesDeclaration b d → LaidOutLocals offset (a ++ b) (placed ++ (d, at) ∷ [])
laid_more offset [] a d b at is none encodes =
    let same : at ≡ offset = is ∙ ap (λ z. offset + length z) none ∙ omega arith in
    (same, b, [], ap (λ z. z ++ b) none ∙ sym (append-nil b), encodes, refl)
laid_more offset (p ∷ ps) a d b at is (first, t, m, parts, encoded, laid) encodes =
    let sum = length-append t m in
    let same : at ≡ offset + length t + length m = is ∙ ap (λ z. offset + length z) parts ∙ omega (arith, sum) in
    (first, t, m ++ b, ap (λ z. z ++ b) parts ∙ append_assoc t m b, encoded, laid_more (offset + length t) ps m d b at same laid encodes)

locals_more : (placed : PlacedLocals) (d : Declaration) (at : ℕ) →
    locals_in (declarations_of (placed ++ (d, at) ∷ [])) ≡ locals_in (declarations_of placed) + d.0
locals_more [] d at = omega arith
locals_more (p ∷ ps) d at = let others = locals_more ps d at in omega (arith, others)

next_more : (ps : PlacedLocals) (d : Declaration) (at end : ℕ) → next_offset end (ps ++ (d, at) ∷ []) ≡ next_offset at ps
next_more [] d at end = refl
next_more (p ∷ ps) d at end = refl

lines_more : (start : ℕ) (bytes : List ℕ) (end first : ℕ) (placed : PlacedLocals) (d : Declaration) (at : ℕ) →
    declaration_lines start bytes end first (placed ++ (d, at) ∷ []) ≡ declaration_lines start bytes at first placed ++
    line_of 0 at (between start bytes at end) (declaration_text (first + locals_in (declarations_of placed)) d)
lines_more start bytes end first [] d at =
    let same : first ≡ first + 0 = omega arith in
    append-nil (line_of 0 at (between start bytes at end) (declaration_text first d)) ∙
    ap (λ n. line_of 0 at (between start bytes at end) (declaration_text n d)) same
lines_more start bytes end first (p ∷ ps) d at =
    let line : ℕ → List ℕ = λ next. line_of 0 p.1 (between start bytes p.1 next) (declaration_text first p.0) in
    let others : ℕ = locals_in (declarations_of ps) in
    let last : ℕ → List ℕ = λ n. line_of 0 at (between start bytes at end) (declaration_text n d) in
    let same : first + p.0.0 + others ≡ first + (p.0.0 + others) = omega arith in
    ap (λ next. line next ++ declaration_lines start bytes end (first + p.0.0) (ps ++ (d, at) ∷ [])) (next_more ps d at end) ∙
    ap (λ t. line (next_offset at ps) ++ t) (lines_more start bytes end (first + p.0.0) ps d at ∙
    ap (λ n. declaration_lines start bytes at (first + p.0.0) ps ++ last n) same) ∙
    sym (append_assoc (line (next_offset at ps)) (declaration_lines start bytes at (first + p.0.0) ps) (last (first + (p.0.0 + others))))

-- ---- along the loop

-- The loop's invariant: `many` declarations are written, and the next local has the index `first`.
pub record IsOnTheWay (start : ℕ) (bytes : List ℕ) (parameters many first : ℕ) (old now : Locals) (before after : Option (List ℕ)) : Type 0 where
  pub placed : PlacedLocals
  pub so_many : length placed ≡ many
  pub index : first ≡ parameters + locals_in (declarations_of placed)
  pub writes : WritesDeclarations start bytes parameters old now before after placed

pub way_begins : (start : ℕ) (bytes : List ℕ) (parameters first : ℕ) (old : Locals) (before : Option (List ℕ)) → first ≡ parameters →
    IsOnTheWay start bytes parameters 0 first old old before before
way_begins start bytes parameters first old before is =
    let same : first ≡ parameters + 0 = is ∙ omega arith in
    let none : old.total ≡ old.total + 0 = omega arith in
    record {
      placed = [];
      so_many = refl;
      index = same;
      writes = record {
        takes = record { text = []; takes = takes_none old.reader; laid = refl; count = refl; total = none };
        written = appends_none before;
      };
    }

length_more : (placed : PlacedLocals) (p : Declaration × ℕ) → length (placed ++ p ∷ []) ≡ length placed + 1
length_more placed p = length-append placed (p ∷ [])

pub way_goes_on : (start : ℕ) (bytes shown : List ℕ) (parameters many first : ℕ) (old mid new : Locals) (before between_lines after : Option (List ℕ)) (d : Declaration)
    (at next : ℕ) → IsOnTheWay start bytes parameters many first old mid before between_lines → ReadsDeclaration (Ok d) mid new → at ≡ offset_of mid.reader →
    shown ≡ between start bytes at (offset_of new.reader) → Appends between_lines after (line_of 0 at shown (declaration_text first d)) → next ≡ first + d.0 →
    IsOnTheWay start bytes parameters (many + 1) next old new before after
way_goes_on start bytes shown parameters many first old mid new before between_lines after d at next way ((text, encodes, takes), count, total) occurs shows wrote goes =
    let h = way.writes.takes in
    let begins : at ≡ offset_of old.reader + length h.text = occurs ∙ ap offset_of h.takes.moved ∙ omega arith in
    let more = locals_more way.placed d at in
    let sum : new.total ≡ old.total + locals_in (declarations_of (way.placed ++ (d, at) ∷ [])) =
    let t = h.total in omega (arith, total, t, more) in
    let last : next ≡ parameters + locals_in (declarations_of (way.placed ++ (d, at) ∷ [])) = let f = way.index in omega (arith, goes, f, more) in
    let long : length (way.placed ++ (d, at) ∷ []) ≡ many + 1 = let m = way.so_many in let l = length_more way.placed (d, at) in omega (arith, m, l) in
    let lines : ℕ → List ℕ = λ end. declaration_lines start bytes end parameters way.placed in
    let line : List ℕ → ℕ → List ℕ = λ t n. line_of 0 at t (declaration_text n d) in
    let same : lines (offset_of mid.reader) ++ line shown first ≡ declaration_lines start bytes (offset_of new.reader) parameters (way.placed ++ (d, at) ∷ []) =
    ap (λ e. lines e ++ line shown first) (sym occurs) ∙ ap (λ t. lines at ++ line t first) shows ∙
    ap (λ n. lines at ++ line (between start bytes at (offset_of new.reader)) n) way.index ∙
    sym (lines_more start bytes (offset_of new.reader) parameters way.placed d at) in
    record {
      placed = way.placed ++ (d, at) ∷ [];
      so_many = long;
      index = last;
      writes = record {
        takes = record {
          text = h.text ++ text;
          takes = takes_then old.reader mid.reader new.reader h.text text h.takes takes;
          laid = laid_more (offset_of old.reader) way.placed h.text d text at begins h.laid encodes.0;
          count = count ∙ h.count;
          total = sum;
        };
        written = subst (Appends before after) same
            (appends_both before between_lines after (lines (offset_of mid.reader)) (line shown first) way.writes.written wrote);
      };
    }

pub way_ends : (x : Unit {0}) (start : ℕ) (bytes : List ℕ) (parameters many first : ℕ) (old new : Locals) (before after : Option (List ℕ)) → many ≡ old.count →
    IsOnTheWay start bytes parameters many first old new before after → ListsDeclarations start bytes parameters (Ok x) old new before after
way_ends x start bytes parameters many first old new before after all way = (way.placed, way.so_many ∙ all, way.writes)

pub way_stops : (start : ℕ) (bytes : List ℕ) (parameters many first : ℕ) (old mid new : Locals) (before after : Option (List ℕ)) (e : Error) → many < old.count →
    IsOnTheWay start bytes parameters many first old mid before after → ReadsDeclaration (Err e) mid new →
    ListsDeclarations {X = Unit {0}} start bytes parameters (Err (fault.Refused e)) old new before after
way_stops start bytes parameters many first old mid new before after e more way refused = (
  way.placed,
  subst (λ n. n < old.count) (sym way.so_many) more,
  subst (λ z. WritesDeclarations start bytes parameters old z before after way.placed) (sym refused.0) way.writes,
  subst (λ z. ReadsDeclaration (Err e) z new) (sym refused.0) refused,
)

-- ---- if the declarations are encoded, reading none of them fails

-- The next declaration is encoded at the start of what is left.
record NextOccurs (many total : ℕ) (left : List ℕ) : Type 0 where
  declaration : Declaration
  text : List ℕ
  more : List ℕ
  encodes : EncodesDeclaration text declaration
  occurs : left ≡ text ++ more
  few : many + declaration.0 ≤ total

next_occurs : (offset : ℕ) (placed : PlacedLocals) (ds : List Declaration) (a b x y : List ℕ) → PrefixCode EncodesDeclaration →
    LaidOutLocals offset a placed → EncodesEach EncodesDeclaration b ds → a ++ x ≡ b ++ y → length placed < length ds →
    NextOccurs (locals_in (declarations_of placed)) (locals_in ds) x
next_occurs offset placed [] a b x y code laid each same short = absurd (omega (arith, short))
next_occurs offset [] (d ∷ ds) a b x y code none (t, m, parts, encodes, each) same short =
    let here : x ≡ t ++ (m ++ y) = ap (λ z. z ++ x) (sym none) ∙ same ∙ ap (λ z. z ++ y) parts ∙ append_assoc t m y in
    let few : 0 + d.0 ≤ d.0 + locals_in ds = omega arith in
    record { declaration = d; text = t; more = m ++ y; encodes = encodes; occurs = here; few = few }
next_occurs offset (p ∷ ps) (d ∷ ds) a b x y code (is, t, m, parts, encodes, laid) (u, v, others, encoded, each) same short =
    let whole : t ++ (m ++ x) ≡ u ++ (v ++ y) = sym (append_assoc t m x) ∙ ap (λ z. z ++ x) (sym parts) ∙ same ∙ ap (λ z. z ++ y) others ∙ append_assoc u v y in
    let one = code t u (m ++ x) (v ++ y) p.0 d encodes encoded whole in
    let after : m ++ x ≡ v ++ y = append_cancel_left t (m ++ x) (v ++ y) (whole ∙ ap (λ z. z ++ (v ++ y)) (sym one.0)) in
    let fewer : length ps < length ds = omega (arith, short) in
    let h = next_occurs (offset + length t) ps ds m v x y code laid each after fewer in
    let number : p.0.0 ≡ d.0 = ap (λ (z : Declaration). z.0) one.1 in
    let few : p.0.0 + locals_in (declarations_of ps) + h.declaration.0 ≤ d.0 + locals_in ds = let f = h.few in omega (arith, f, number) in
    record { declaration = h.declaration; text = h.text; more = h.more; encodes = h.encodes; occurs = h.occurs; few = few }

pub none_refused : (P : Type 0) (start : ℕ) (bytes : List ℕ) (parameters many first : ℕ) (old mid new : Locals) (before after : Option (List ℕ)) (e : Error)
    (ds : List Declaration) (text more : List ℕ) → PrefixCode EncodesDeclaration → many < old.count →
    IsOnTheWay start bytes parameters many first old mid before after → ReadsDeclaration (Err e) mid new →
    EncodesMany EncodesDeclaration old.count text ds → rest old.reader ≡ text ++ more → old.total + locals_in ds ≤ max_locals → P
none_refused P start bytes parameters many first old mid new before after e ds text more code some way (same, (same_reader, refused), fault) (all, each) occurs few =
    let h = way.writes.takes in
    let left : h.text ++ rest mid.reader ≡ text ++ more = sym h.takes.parts ∙ occurs in
    let short : length way.placed < length ds = let m = way.so_many in omega (arith, m, some, all) in
    let next = next_occurs (offset_of old.reader) way.placed ds h.text text (rest mid.reader) more code h.laid each left short in
    let fits : mid.total + next.declaration.0 ≤ 4294967295 = let t = h.total in let f = next.few in let g : old.total + locals_in ds ≤ 4294967295 = few in omega (arith, t, f, g) in
    let other : e.message ≢ message.OutOfMemory = λ is. absurd (refused.memory is).0 in
    absurd (refused.refuses [] (may_end e.message other) next.text next.more next.declaration (next.encodes, fits) (append-nil (rest mid.reader) ∙ next.occurs))
