-- Readers of locals: one declaration with those before it, and all of them by the iterator.
use Rattle.std.proofs.Common.{◌≡◌, ℕ, ◌+◌, ◌-◌, ◌<◌, ◌≤◌, List, [], ◌∷◌, ◌++◌, length, Some, Ok, Err, refl, sym, subst, ap, ◌∙◌, append_assoc, length-append, length-drop, arith, inl, inr}
use Rattle.wasm_below.specs.declared.error.Error.{Error}
use Rattle.wasm_below.specs.declared.message.Message.TheVariants as message
use Rattle.wasm_below.specs.declared.types.ValType.{ValType}
use Rattle.wasm_below.specs.FromReader.{IsRefused}
use Rattle.wasm_below.specs.Number.{EncodesUnsigned}
use Rattle.wasm_below.specs.Source.{Reader, rest, offset_of, at_position, Takes, IsRefusal, HasRead, Reads, U32Fault}
use Rattle.wasm_below.specs.TypeEncoding.{EncodesValType, ValTypeFault}
use Rattle.wasm_below.proofs.Blocks.{refused_now}
use Rattle.wasm_below.proofs.Steps.{number_prefix_code, unsigned_some}
use Rattle.wasm_below.proofs.TakesLemmas.{takes_none, takes_then, back}
use Rattle.wasm_imm.specs.Lists.{EncodesEach}
use Rattle.wasm_imm.proofs.ListRefusals.{as_refused}
use Rattle.wasm_below.proofs.Sequences.{refuses_by}
use Rattle.wasm_operators.specs.Locals.{Declaration, EncodesDeclaration, EncodesNext, NextFault, max_locals, Locals, ReadsDeclaration, LocalsLeft, StepsLocals, all_left, StepsAlong, HasStepped, IsPastLocals, IsResultPastLocals}
use Rattle.wasm_operators.proofs.LocalsLemmas.{type_refused, locals_read, one_past}

abbrev pub locals_of : Reader → ℕ → ℕ → Locals
locals_of r count total = record { reader = r; count = count; total = total }

same_locals : (r s : Reader) (count total : ℕ) → s ≡ r → locals_of s count total ≡ locals_of r count total
same_locals r s count total e = ap (λ z. locals_of z count total) e

next_refused : (total : ℕ) (e : Error) (old : Reader) → IsRefusal EncodesDeclaration e old → NextFault total e.message old e.offset →
    IsRefused (EncodesNext total) (NextFault total) (λ r. ⊥) e old
next_refused total e old h =
    as_refused (EncodesNext total) (NextFault total) (λ r. ⊥) e old (refuses_by EncodesDeclaration (EncodesNext total) e old (λ text d p. (d, p.0)) h)

no_number : (e : Error) (old : Reader) → IsRefusal (EncodesUnsigned 32) e old → IsRefusal EncodesDeclaration e old
no_number e old h =
    record {
      refuses = λ more follow text after d (a, b, eb, p, q) eq.
          h.refuses more follow a (b ++ after) d.0 p (eq ∙ ap (λ z. z ++ after) eb ∙ append_assoc a b after);
      fault = h.fault;
      ahead = h.ahead;
    }

pub number_refused_next : (e : Error) (r new : Reader) (count total : ℕ) → Reads (EncodesUnsigned 32) U32Fault (Err e) r new →
    ReadsDeclaration (Err e) (locals_of r count total) (locals_of new count total)
number_refused_next e r new count total (same, h, f) =
    let fault : NextFault total e.message r e.offset = inl (refused_now (EncodesUnsigned 32) e r h, f) in
    (same_locals r new count total same, (same, next_refused total e r (no_number e r h) fault), fault)

pub type_refused_next : (e : Error) (r mid mid2 new : Reader) (count total number position : ℕ) → HasRead (EncodesUnsigned 32) number r mid →
    total + number ≤ max_locals → Reads EncodesValType ValTypeFault (Err e) mid mid2 → position ≡ r.position →
    new ≡ at_position mid2 position → ReadsDeclaration (Err e) (locals_of r count total) (locals_of new count total)
type_refused_next e r mid mid2 new count total number position first fits h at went =
    let b = type_refused e r mid mid2 new number position first h at went in
    let fault : NextFault total e.message r e.offset = inr (number, mid, first, inr (fits, h.2)) in
    (same_locals r new count total b.0, (b.0, next_refused total e r b.1 fault), fault)

pub too_many_next : (e : Error) (r mid new : Reader) (count total number position : ℕ) → HasRead (EncodesUnsigned 32) number r mid →
    max_locals < total + number → e.message ≡ message.TooManyLocals → e.offset ≡ offset_of mid → position ≡ r.position → new ≡ at_position mid position →
    ReadsDeclaration (Err e) (locals_of r count total) (locals_of new count total)
too_many_next e r mid new count total number position (text, p, t) many is at same went =
    let here : new ≡ r = back r mid new text position t same went in
    let some = unsigned_some 32 text number p in
    let left : length r.buffer - r.position ≡ length text + length (rest mid) = sym (length-drop r.position r.buffer) ∙ ap length t.parts ∙
    length-append text (rest mid) in
    let offset : e.offset ≡ offset_of r + length text = at ∙ ap offset_of t.moved ∙ omega arith in
    let fault : NextFault total e.message r e.offset = inr (number, mid, (text, p, t), inl (many, is, at)) in
    let refused : IsRefused (EncodesNext total) (NextFault total) (λ r. ⊥) e r = record {
      refuses = λ more follow text2 after d ((a, b, eb, q, ty), fits) eq.
          let whole : text ++ (rest mid ++ more) ≡ a ++ (b ++ after) = sym (append_assoc text (rest mid) more) ∙ ap (λ z. z ++ more) (sym t.parts) ∙ eq ∙
          ap (λ z. z ++ after) eb ∙ append_assoc a b after in
          let one : number ≡ d.0 = (number_prefix_code 32 text a (rest mid ++ more) (b ++ after) number d.0 p q whole).1 in
          omega (arith, one, fits, many);
      ahead = (omega (arith, offset), omega (arith, offset, left, some));
      fault = λ some. fault;
      memory = λ m. absurd (cc (is, m));
    } in
    (same_locals r new count total here, (here, refused), fault)

pub declaration_read : (r mid new : Reader) (total number : ℕ) (ty : ValType) → HasRead (EncodesUnsigned 32) number r mid →
    HasRead EncodesValType ty mid new → total + number ≤ max_locals → HasRead (EncodesNext total) (number, ty) r new
declaration_read r mid new total number ty (a, p, t) (b, q, u) fits = (a ++ b, ((a, b, refl, p, q), fits), takes_then r mid new a b t u)

-- What steps without an error consumed.
record Stepped (declarations : List Declaration) (old new : LocalsLeft) : Type 0 where
  text : List ℕ
  encodes : EncodesEach EncodesDeclaration text declarations
  takes : Takes old.locals.reader new.locals.reader text
  left : old.left ≡ length declarations + new.left

stepped : (declarations : List Declaration) (old new : LocalsLeft) → StepsAlong declarations old new → Stepped declarations old new
stepped [] old new same =
    record {
      text = [];
      encodes = refl;
      takes = subst (λ (z : LocalsLeft). Takes old.locals.reader z.locals.reader []) (sym same) (takes_none old.locals.reader);
      left = ap (λ (z : LocalsLeft). z.left) (sym same) ∙ omega arith;
    }
stepped (d ∷ ds) old new (mid, (left, ((text, encodes, takes), count, total)), steps) =
    let h = stepped ds mid new steps in
    record {
      text = text ++ h.text;
      encodes = (text, h.text, refl, encodes.0, h.encodes);
      takes = takes_then old.locals.reader mid.locals.reader new.locals.reader text h.text takes h.takes;
      left = omega (arith, left, h.left);
    }

pub stepped_past : (body : Reader) (declarations : List Declaration) (items : LocalsLeft) → HasStepped declarations body items → items.left ≡ 0 →
    IsPastLocals declarations body items.locals.reader
stepped_past body declarations items (unread, (first, p, t, none), steps) end =
    let h = stepped declarations (record { locals = unread; left = unread.count }) items steps in
    let all : length declarations ≡ unread.count = omega (arith, h.left, end) in
    locals_read body unread.reader items.locals.reader unread.count h.text declarations (first, p, t) (all, h.encodes) h.takes

pub result_past : (r body : Reader) (declarations : List Declaration) → IsPastLocals declarations body r → IsResultPastLocals r body
result_past r body declarations past (Ok s) (others, h) = ap Ok (one_past r s body declarations others past h).0
result_past r body declarations (text, encodes, takes) (Err e) h =
    absurd (refused_now _ e body h.refusal text (rest r) declarations encodes takes.parts)

one_more : (declarations : List Declaration) (d : Declaration) (old mid new : LocalsLeft) → StepsAlong declarations old mid →
    StepsLocals (Some (Ok d)) mid new → StepsAlong (declarations ++ d ∷ []) old new
one_more [] d old mid new same step = (new, subst (λ items. StepsLocals (Some (Ok d)) items new) same step, refl)
one_more (first ∷ ds) d old mid new (next, one, along) step = (next, one, one_more ds d next mid new along step)

pub stepped_more : (declarations : List Declaration) (d : Declaration) (body : Reader) (old new : LocalsLeft) → HasStepped declarations body old →
    StepsLocals (Some (Ok d)) old new → HasStepped (declarations ++ d ∷ []) body new
stepped_more declarations d body old new (unread, opens, along) step = (unread, opens, one_more declarations d (all_left unread) old new along step)
