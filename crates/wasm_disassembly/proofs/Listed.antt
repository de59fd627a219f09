use Rattle.std.proofs.Common.{◌≡◌, ◌≢◌, ℕ, ◌+◌, inl, inr, List, [], ◌∷◌, ◌++◌, length, Option, Result, Ok, Err, refl, sym, subst, ap, ◌∙◌, append_assoc, append-nil, length-append, arith}
use Rattle.std.proofs.lemmas.List.{append_cancel_left, length-map}
use Rattle.std.specs.Io.KnownBytes.{Appends}
use Rattle.wasm_operators.specs.below.declared.error.Error.{Error}
use Rattle.wasm_operators.specs.below.declared.message.Message.TheVariants as message
use Rattle.wasm_operators.specs.below.Number.{EncodesUnsigned}
use Rattle.wasm_operators.specs.below.Refusal.{IsReadFault}
use Rattle.wasm_operators.specs.below.Sequence.{PrefixCode}
use Rattle.wasm_operators.specs.below.Source.{Reader, rest, offset_of, source_of, Takes}
use Rattle.wasm_operators.specs.imm.Lists.{EncodesEach, EncodesMany}
use Rattle.wasm_operators.specs.Body.{EncodesBody}
use Rattle.wasm_operators.specs.Expression.{Placed, EncodesExpression}
use Rattle.wasm_operators.specs.Locals.{Declaration, EncodesDeclaration, Locals, OpensLocals, IsPastLocals}
use Rattle.wasm_disassembly.specs.declared.fault.DisassemblyFault.{DisassemblyFault}
use Rattle.wasm_disassembly.specs.declared.fault.DisassemblyFault.TheVariants as fault
use Rattle.wasm_disassembly.specs.LocalLines.{PlacedLocals, declarations_of, LaidOutLocals, ListsDeclarations}
use Rattle.wasm_disassembly.specs.Disassembly.{Heading, names_for, header, local_lines, operator_lines, ReadsLocals, Disassembles, ListsOperators}
use Rattle.wasm_below.proofs.TakesLemmas.{takes_then}
use Rattle.wasm_operators.proofs.OneRead.{may_end}
use Rattle.wasm_disassembly.proofs.Written.{appends_both, appends_three}

laid_each : (offset : ℕ) (placed : PlacedLocals) (text : List ℕ) → LaidOutLocals offset text placed →
    EncodesEach EncodesDeclaration text (declarations_of placed)
laid_each offset [] text none = none
laid_each offset (p ∷ ps) text (is, t, m, parts, encodes, laid) = (t, m, parts, encodes, laid_each (offset + length t) ps m laid)

pub locals_past : (body : Reader) (unread read : Locals) (locals : PlacedLocals) → ReadsLocals body unread read locals → length locals ≡ unread.count →
    IsPastLocals (declarations_of locals) body read.reader
locals_past body unread read locals h all =
    let o = h.opens in
    let t = h.takes in (
      o.0 ++ t.text,
      (
        o.0,
        t.text,
        unread.count,
        refl,
        o.1,
        (length-map locals (λ p. p.0) ∙ all, laid_each (offset_of unread.reader) locals t.text t.laid),
      ),
      takes_then body unread.reader read.reader o.0 t.text o.2 t.takes,
    )

-- The header and the lines of the locals are written.
pub record IsListedTo (h : Heading) (body reader : Reader) (before listed : Option (List ℕ)) : Type 0 where
  pub unread : Locals
  pub read : Locals
  pub locals : PlacedLocals
  pub reads : ReadsLocals body unread read locals
  pub all : length locals ≡ unread.count
  pub occurs : reader ≡ read.reader
  pub is : Appends before listed (header h (source_of body) ++ local_lines h (source_of body) locals (offset_of read.reader))

pub listed_to : (h : Heading) (x : Unit {0}) (body reader : Reader) (unread read : Locals) (before headed listed : Option (List ℕ)) →
    OpensLocals (Ok unread) body → reader ≡ read.reader → Appends before headed (header h (source_of body)) →
    ListsDeclarations (offset_of body) (rest body) h.parameters (Ok x) unread read headed listed → IsListedTo h body reader before listed
listed_to h x body reader unread read before headed listed opens occurs begins (placed, all, writes) =
    record {
      unread = unread;
      read = read;
      locals = placed;
      reads = record { opens = opens; takes = writes.takes };
      all = all;
      occurs = occurs;
      is = appends_both before headed listed (header h (source_of body)) (local_lines h (source_of body) placed (offset_of read.reader)) begins writes.written;
    }

pub at_body : (P : ℕ → List ℕ → Type 0) (start : ℕ) (bytes : List ℕ) (body : Reader) → start ≡ offset_of body → bytes ≡ rest body → P start bytes →
    P (offset_of body) (rest body)
at_body P start bytes body s b h = subst (λ n. P n (rest body)) s (subst (λ t. P start t) b h)

pub stopped_at_count : (h : Heading) (e : Error) (body : Reader) (before headed : Option (List ℕ)) → OpensLocals (Err e) body →
    Appends before headed (header h (source_of body)) → Disassembles {X = Unit {0}} h (Err (fault.Refused e)) body before headed
stopped_at_count h e body before headed opens begins = (header h (source_of body), begins, inl (opens, refl))

stopped_at_locals : (h : Heading) (e : Error) (body : Reader) (unread read : Locals) (before headed listed : Option (List ℕ)) →
    OpensLocals (Ok unread) body → Appends before headed (header h (source_of body)) →
    ListsDeclarations {X = Unit {0}} (offset_of body) (rest body) h.parameters (Err (fault.Refused e)) unread read headed listed →
    Disassembles {X = Unit {0}} h (Err (fault.Refused e)) body before listed
stopped_at_locals h e body unread read before headed listed opens begins (placed, more, writes, refused) =
    let lines = local_lines h (source_of body) placed (offset_of read.reader) in (
      header h (source_of body) ++ lines,
      appends_both before headed listed (header h (source_of body)) lines begins writes.written,
      inr (inl (record {
        unread = unread;
        read = read;
        locals = placed;
        reads = record { opens = opens; takes = writes.takes };
        more = more;
        refused = refused;
        is = refl;
      })),
    )

pub stopped_in_locals : (h : Heading) (f : DisassemblyFault) (body : Reader) (unread read : Locals) (before headed listed : Option (List ℕ)) →
    OpensLocals (Ok unread) body → Appends before headed (header h (source_of body)) →
    ListsDeclarations {X = Unit {0}} (offset_of body) (rest body) h.parameters (Err f) unread read headed listed →
    Disassembles {X = Unit {0}} h (Err f) body before listed
stopped_in_locals h (fault.Refused e) body unread read before headed listed opens begins lists =
    stopped_at_locals h e body unread read before headed listed opens begins lists
stopped_in_locals h fault.Memory body unread read before headed listed opens begins lists = tt
stopped_in_locals h fault.Writing body unread read before headed listed opens begins lists = tt

-- The law `past_locals`.
abbrev pub IsBodyAfterLocals : Type 0
IsBodyAfterLocals = (body r : Reader) (declarations : List Declaration) (placed : Placed) → IsPastLocals declarations body r → EncodesExpression (source_of r) placed →
    EncodesBody (source_of body) declarations placed

same_end : (a b : Reader) (text : List ℕ) → Takes a b text → offset_of b + length (rest b) ≡ offset_of a + length (rest a)
same_end a b text t =
    let long : length (rest a) ≡ length text + length (rest b) = ap length t.parts ∙ length-append text (rest b) in
    let place : offset_of b ≡ offset_of a + length text = ap offset_of t.moved ∙ omega arith in
    omega (arith, long, place)

pub operators_ended : (h : Heading) (r : Result (Unit {0}) DisassemblyFault) (body reader : Reader) (before listed after : Option (List ℕ)) → IsBodyAfterLocals →
    IsListedTo h body reader before listed → ListsOperators (names_for h) (offset_of body) (rest body) r reader listed after → Disassembles h r body before after
operators_ended h (Ok x) body reader before listed after law to (placed, encodes, is) =
    let past = locals_past body to.unread to.read to.locals to.reads to.all in
    let s = source_of body in
    let there : EncodesExpression (source_of to.read.reader) placed = subst (λ z. EncodesExpression (source_of z) placed) to.occurs encodes in
    let end : offset_of reader + length (rest reader) ≡ offset_of body + length (rest body) =
    ap (λ (z : Reader). offset_of z + length (rest z)) to.occurs ∙ same_end body to.read.reader past.0 past.2 in
    let locals = local_lines h s to.locals (offset_of to.read.reader) in
    let ops = operator_lines h s placed (offset_of body + length (rest body)) in
    let wrote : Appends listed after ops = subst (λ n. Appends listed after (operator_lines h s placed n)) end is in (
      header h s ++ (locals ++ ops),
      appends_three before listed after (header h s) locals ops to.is wrote,
      record {
        unread = to.unread;
        read = to.read;
        locals = to.locals;
        reads = to.reads;
        all = to.all;
        placed = placed;
        encodes = law body to.read.reader (declarations_of to.locals) placed past there;
        is = refl;
      },
    )
operators_ended h (Err (fault.Refused e)) body reader before listed after law to (other, opened, stopped, same, fresh, placed, reads, is) =
    let past = locals_past body to.unread to.read to.locals to.reads to.all in
    let s = source_of body in
    let locals = local_lines h s to.locals (offset_of to.read.reader) in
    let ops = operator_lines h s placed (offset_of stopped.reader) in (
      header h s ++ (locals ++ ops),
      appends_three before listed after (header h s) locals ops to.is is,
      inr (inr (record {
        unread = to.unread;
        read = to.read;
        locals = to.locals;
        reads = to.reads;
        all = to.all;
        placed = placed;
        stops = record {
          opened = opened;
          opens = ((declarations_of to.locals, subst (λ z. IsPastLocals (declarations_of to.locals) body z) (sym (same ∙ to.occurs)) past), fresh);
          stopped = stopped;
          reads = reads;
        };
        other = other;
        is = refl;
      })),
    )
operators_ended h (Err fault.Memory) body reader before listed after law to lists = tt
operators_ended h (Err fault.Writing) body reader before listed after law to lists = tt

-- ---- if the bytes encode a body

pub count_occurs : (P : Type 0) (e : Error) (body : Reader) (declarations : List Declaration) (placed : Placed) → OpensLocals (Err e) body →
    EncodesBody (source_of body) declarations placed → P
count_occurs P e body declarations placed (refused, fault) h =
    let l = h.encodes_locals in
    let other : e.message ≢ message.OutOfMemory = λ is. absurd (subst IsReadFault is refused.fault) in
    let there : rest body ≡ l.0 ++ (l.1 ++ h.expression) = h.parts ∙ ap (λ z. z ++ h.expression) l.3 ∙ append_assoc l.0 l.1 h.expression in
    absurd (refused.refuses [] (may_end e.message other) l.0 (l.1 ++ h.expression) l.2 l.4 (append-nil (rest body) ∙ there))

pub record AreAnnounced (unread : Locals) (declarations : List Declaration) : Type 0 where
  pub text : List ℕ
  pub more : List ℕ
  pub each : EncodesMany EncodesDeclaration unread.count text declarations
  pub occurs : rest unread.reader ≡ text ++ more

pub announced : (body : Reader) (unread : Locals) (declarations : List Declaration) (placed : Placed) → PrefixCode (EncodesUnsigned 32) →
    OpensLocals (Ok unread) body → EncodesBody (source_of body) declarations placed → AreAnnounced unread declarations
announced body unread declarations placed code (number, encodes, takes, none) h =
    let l = h.encodes_locals in
    let there : number ++ rest unread.reader ≡ l.0 ++ (l.1 ++ h.expression) = sym takes.parts ∙ h.parts ∙ ap (λ z. z ++ h.expression) l.3 ∙
    append_assoc l.0 l.1 h.expression in
    let one = code number l.0 (rest unread.reader) (l.1 ++ h.expression) unread.count l.2 encodes l.4 there in
    record {
      text = l.1;
      more = h.expression;
      each = subst (λ n. EncodesMany EncodesDeclaration n l.1 declarations) (sym one.1) l.5;
      occurs = append_cancel_left number (rest unread.reader) (l.1 ++ h.expression) (there ∙ ap (λ z. z ++ (l.1 ++ h.expression)) (sym one.0));
    }
