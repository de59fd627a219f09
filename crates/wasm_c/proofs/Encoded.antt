-- The bytes of a C struct, read again.
use Rattle.std.specs.Prelude.{IsTrue, ◌↔◌}
use Rattle.std.proofs.Common.{arith, ◌+◌, ◌≡◌, ◌≢◌, ℕ, ◌<◌, ◌⊎◌, Bool, true, false, inl, inr, List, [], ◌++◌, Some, Result, Ok, Err, refl, sym, ap, subst, ◌∙◌, append-nil}
use Rattle.wasm_operators.specs.below.declared.error.Error.{Error}
use Rattle.wasm_operators.specs.below.declared.features.WasmFeatures.{WasmFeatures}
use Rattle.wasm_operators.specs.below.declared.message.Message.{Message}
use Rattle.wasm_operators.specs.below.declared.message.Message.TheVariants as message
use Rattle.wasm_operators.specs.below.Features.{features_of}
use Rattle.wasm_operators.specs.below.Source.{Reader, rest, reader_of, MayFollow}
use Rattle.wasm_operators.specs.grammar.declared.frame_kind.FrameKind.{FrameKind}
use Rattle.wasm_operators.specs.grammar.Frames.{Allows}
use Rattle.wasm_operators.specs.instr.declared.operator.Operator.{Operator}
use Rattle.wasm_operators.specs.instr.declared.operator.Operator.TheVariants as operator
use Rattle.wasm_operators.specs.instr.Encoding.{EncodesOperator}
use Rattle.wasm_operators.specs.instr.Kinds.{HoldsList}
use Rattle.wasm_operators.specs.instr.Roles.{role_of}
use Rattle.wasm_operators.specs.instr.Row.{immediates_of}
use Rattle.wasm_operators.specs.Single.{PeeksOperator}
use Rattle.wasm_instr.proofs.OperatorPrefixCode.{operator_prefix_code}
use Rattle.wasm_encode_immediates.specs.Reasons.{HoldList}
use Rattle.wasm_encode_immediates.specs.declared.unwritable.Unwritable.{Unwritable}
use Rattle.wasm_encode_immediates.specs.declared.unwritable.Unwritable.TheVariants as why
use Rattle.wasm_encode_operators.specs.Encoding.{IsUnwritable}
use Rattle.wasm_view.specs.View.{view_of}
use Rattle.wasm_view.specs.declared.view.WasmOperator.{WasmOperator}
use Rattle.wasm_c.specs.Encodings.{WritesBytes, ReadsBack, IsViewOf, IsShortest, HasNoEncoding, IsWithoutList, WritesPlain, WritesFound, WritesThere, WritesListed, WritesView}
use Rattle.wasm_c.specs.declared.refusal.WasmRefusal.{WasmRefusal}
use Rattle.wasm_c.specs.Members.{OccursThere, ReadsAt, reader_from}
use Rattle.wasm_c.specs.OperatorTexts.{frame_for, PlacesText}
use Rattle.wasm_c.specs.Reads.{IsWithin}
use Rattle.wasm_c.specs.Refused.{misuse}
use Rattle.wasm_c.proofs.Members.{text_there}

-- The frame for an operator allows it.
pub frame_allows : (f : WasmFeatures) (op : Operator) (text : List ℕ) → EncodesOperator f text op → Allows (frame_for text) (role_of op)
frame_allows f operator.Else text p = subst (λ t. Allows (frame_for t) (role_of operator.Else)) (sym (p.parts ∙ ap (λ h. h ++ p.after) p.code)) refl
frame_allows f (operator.Catch it) text p = subst (λ t. Allows (frame_for t) (role_of (operator.Catch it))) (sym (p.parts ∙ ap (λ h. h ++ p.after) p.code)) refl
frame_allows f operator.CatchAll text p = subst (λ t. Allows (frame_for t) (role_of operator.CatchAll)) (sym (p.parts ∙ ap (λ h. h ++ p.after) p.code)) refl
frame_allows f (operator.Delegate it) text p = subst (λ t. Allows (frame_for t) (role_of (operator.Delegate it))) (sym (p.parts ∙ ap (λ h. h ++ p.after) p.code)) refl
frame_allows f _ text p = refl

-- The bytes are the shortest encoding of the operator that was read, if the C struct is its.
pub shortest_of : (f : WasmFeatures) (v : WasmOperator) (op : Operator) (bytes : List ℕ) → WritesBytes v bytes → IsWithoutList v → IsViewOf v op → OccursThere (reader_of f 0 bytes) op →
    IsShortest f bytes op
shortest_of f v op bytes writes none is (text, more, parts, encodes) = writes f op v.offset text is (none op is) encodes

-- If an operator with the C struct has an encoding, the bytes are one.
encoded : (f : WasmFeatures) (v : WasmOperator) (op : Operator) (text bytes : List ℕ) → WritesBytes v bytes → IsWithoutList v → IsViewOf v op → EncodesOperator f text op →
    EncodesOperator f bytes op
encoded f v op text bytes writes none is encodes =
    let a = writes f op v.offset text is (none op is) encodes in
    subst (λ t. EncodesOperator f t op) (sym a.appended) a.encodes

-- The operator that was read has another C struct.
pub another : (f : WasmFeatures) (v : WasmOperator) (op : Operator) (bytes : List ℕ) → WritesBytes v bytes → IsWithoutList v → ¬ IsViewOf v op → OccursThere (reader_of f 0 bytes) op →
    HasNoEncoding f v
another f v op bytes writes none not (text, more, parts, encodes) other alike is p =
    let whole = encoded f v other alike bytes writes none is p in
    let same = operator_prefix_code f op other text bytes more [] encodes whole (sym parts ∙ sym (append-nil bytes)) in
    not (subst (IsViewOf v) (sym same.0) is)

-- No operator was read.
no_list : (op : Operator) → ¬ HoldList (immediates_of op) → ¬ HoldsList op
no_list (operator.BrTable t) none h = h
no_list (operator.TypedSelectMulti tys) none h = none tt
no_list (operator.TryTable t) none h = none tt
no_list (operator.Resume ty t) none h = none tt
no_list (operator.ResumeThrow ty tag t) none h = none tt
no_list (operator.ResumeThrowRef ty t) none h = none tt
no_list _ none h = h

memory_or_not : (m : Message) → (m ≡ message.OutOfMemory) ⊎ MayFollow m []
memory_or_not message.EndOfData = inr refl
memory_or_not message.OutOfMemory = inl refl
memory_or_not _ = inr tt

none_read_there : (f : WasmFeatures) (v : WasmOperator) (e : Error) (bytes : List ℕ) → WritesBytes v bytes → IsWithoutList v → PeeksOperator (Some (frame_for bytes)) (Err e) (reader_of f 0 bytes) →
    HasNoEncoding f v
none_read_there f v e bytes writes none (after, (unmoved, refused)) op text is p =
    let whole = encoded f v op text bytes writes none is p in
    let allowed = frame_allows f op bytes whole in
    elim (memory_or_not e.message) [
      | inl m ↦ (refused.memory m).0.owns bytes [] op ((whole, allowed), no_list op (none op is)) (sym (append-nil bytes))
      | inr follows ↦ refused.refuses [] follows bytes [] op (whole, allowed) refl
    ]

pub decided : (b : Bool) (f : WasmFeatures) (v : WasmOperator) (op : Operator) (bytes : List ℕ) → (IsTrue b ↔ IsViewOf v op) → WritesBytes v bytes → IsWithoutList v → OccursThere (reader_of f 0 bytes) op →
    ReadsBack b v bytes f
decided true f v op bytes iff writes none there = let is = iff.0 refl in (op, is, shortest_of f v op bytes writes none is there)
decided false f v op bytes iff writes none there = another f v op bytes writes none (λ is. absurd (cc (iff.1 is))) there

-- The operator that was found in the source has an encoding, so writing it fails for memory alone.
pub has_encoding : (f : WasmFeatures) (op : Operator) (text : List ℕ) (e : Unwritable) → EncodesOperator f text op → (e ≢ why.OutOfMemory → IsUnwritable f op e) → ¬ (e ≢ why.OutOfMemory)
has_encoding f op text e p not some = (not some).none text p

pub read_there : (f : WasmFeatures) (kind : FrameKind) (op : Operator) (ahead : Reader) (bytes : List ℕ) → ahead ≡ reader_of f 0 bytes → PeeksOperator (Some kind) (Ok op) ahead →
    OccursThere (reader_of f 0 bytes) op
read_there f kind op ahead bytes is p = subst (λ r. OccursThere r op) is (text_there kind op ahead p)

pub none_read : (f : WasmFeatures) (v : WasmOperator) (e : Error) (kind : FrameKind) (ahead : Reader) (bytes : List ℕ) → WritesBytes v bytes → IsWithoutList v → kind ≡ frame_for (rest ahead) →
    ahead ≡ reader_of f 0 bytes → PeeksOperator (Some kind) (Err e) ahead → HasNoEncoding f v
none_read f v e kind ahead bytes writes none same is p =
    none_read_there f v e bytes writes none
    (subst (λ r. PeeksOperator (Some (frame_for (rest r))) (Err e) r) is (subst (λ k. PeeksOperator (Some k) (Err e) ahead) same p))

-- ---- what the calls do

pub plain_placed : (b : Bool) (f : WasmFeatures) (v : WasmOperator) (r : WasmRefusal) (bytes text : List ℕ) (count_old count_new : ℕ) (old new : List ℕ) → b ≡ true → ReadsBack b v bytes f →
    bytes ≡ text → PlacesText text v.offset r count_new old new → WritesPlain r v f count_old count_new old new
plain_placed true f v r bytes text count_old count_new old new e (op, is, short) same placed =
    inl (op, bytes, is, short, subst (λ t. PlacesText t v.offset r count_new old new) (sym same) placed)
plain_placed false f v r bytes text count_old count_new old new e back same placed = absurd (cc e)

pub plain_refused : (b : Bool) (f : WasmFeatures) (v : WasmOperator) (r : WasmRefusal) (bytes : List ℕ) (count : ℕ) (old : List ℕ) → b ≡ false → ReadsBack b v bytes f →
    r ≡ misuse 112 v.offset → WritesPlain r v f count count old old
plain_refused true f v r bytes count old e back is = absurd (cc e)
plain_refused false f v r bytes count old e back is = inr (is, back, (refl, refl))

pub listed_read : (v : WasmOperator) (op : Operator) (r : WasmRefusal) (bytes : List ℕ) (offset features count_old count_new : ℕ) (old new : List ℕ) → ReadsAt (Ok op) bytes offset features v.offset →
    ((text : List ℕ) → EncodesOperator (features_of features) text op → WritesFound r v op (features_of features) count_old count_new old new) →
    WritesListed r v bytes offset features count_old count_new old new
listed_read v op r bytes offset features count_old count_new old new h found = record {
  unknown = λ more. absurd (cc (h.unknown more));
  past = λ known long. absurd (cc (h.past known long));
  before = λ known within low. absurd (cc (h.before known within low));
  after = λ known within high. absurd (cc (h.after known within high));
  there = λ known within low high. go (h.there known within low high);
}
  where
    go : OccursThere (reader_from bytes offset features v.offset) op → WritesThere r v (reader_from bytes offset features v.offset) count_old count_new old new
    go (text, more, parts, encodes) = inl (op, (text, more, parts, encodes), found text encodes)

abbrev refusal_in : {X : Type 0} → WasmRefusal → Result X WasmRefusal → WasmRefusal
refusal_in other (Ok x) = other
refusal_in other (Err r) = r

pub listed_refused : (v : WasmOperator) (r : WasmRefusal) (bytes : List ℕ) (offset features count : ℕ) (old : List ℕ) → ReadsAt (Err r) bytes offset features v.offset →
    WritesListed r v bytes offset features count count old old
listed_refused v r bytes offset features count old h = record {
  unknown = λ more. (ap (refusal_in r) (h.unknown more), (refl, refl));
  past = λ known long. (ap (refusal_in r) (h.past known long), (refl, refl));
  before = λ known within low. (ap (refusal_in r) (h.before known within low), (refl, refl));
  after = λ known within high. (ap (refusal_in r) (h.after known within high), (refl, refl));
  there = λ known within low high. inr (h.there known within low high, (refl, refl));
}

-- ---- from the shape

pub without_list : (v : WasmOperator) (b : Bool) → ((op : Operator) (at : ℕ) → v.shape ≡ (view_of (op, at)).shape → IsTrue b ↔ HoldList (immediates_of op)) → b ≡ false → IsWithoutList v
without_list v b iff off op is h = let on = (iff op v.offset (ap (λ (w : WasmOperator). w.shape) is)).1 h in cc (on, off)

pub plain_view : (v : WasmOperator) (r : WasmRefusal) (known : WasmFeatures) (bytes : List ℕ) (offset features count_old count_new : ℕ) (old new : List ℕ) → features < 64 → IsWithin offset bytes →
    known ≡ features_of features → IsWithoutList v → WritesPlain r v known count_old count_new old new → WritesView r v bytes offset features count_old count_new old new
plain_view v r known bytes offset features count_old count_new old new lt within is none plain = record {
  unknown = λ more. absurd (omega (arith, lt, more));
  past = λ few long. absurd (omega (arith, within, long));
  known = λ few fits. inl (none, subst (λ f. WritesPlain r v f count_old count_new old new) is plain);
}
