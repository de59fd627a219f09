-- The results of the calls for an operator's list.
use Rattle.std.proofs.Common.{◌≡◌, ℕ, List, Option, Some, None, Result, Ok, Err, refl, ap, subst, ◌∙◌, inl, inr}
use Rattle.std.specs.Prelude.{IfSome, IfNone}
use Rattle.wasm_operators.specs.below.declared.error.Error.{Error}
use Rattle.wasm_operators.specs.below.Source.{Reader, rest}
use Rattle.wasm_operators.specs.grammar.declared.frame_kind.FrameKind.{FrameKind}
use Rattle.wasm_operators.specs.grammar.declared.frame_kind.FrameKind.TheVariants as frame
use Rattle.wasm_operators.specs.instr.declared.operator.Operator.{Operator}
use Rattle.wasm_operators.specs.Single.{PeeksOperator}
use Rattle.wasm_view.specs.Lists.{ReturnsMembers}
use Rattle.wasm_c.specs.declared.refusal.WasmRefusal.{WasmRefusal}
use Rattle.wasm_c.specs.Refused.{no_refusal, refusal_of, misuse}
use Rattle.wasm_operators.specs.opcodes.Allowed.{EncodesAllowed}
use Rattle.wasm_operators.specs.opcodes.Decoding.{DecodesOperator}
use Rattle.wasm_operators.specs.opcodes.OperatorFaults.{OperatorFault}
use Rattle.wasm_c.specs.OperatorTexts.{frame_for, PlacesText, RefusesTextName, FindsText, ReturnsTextAt}
use Rattle.wasm_c.specs.Members.{reader_from, OccursThere, RefusesThere, ReturnsThere, Unchanged, AtOffset, ReadsAt, ReportsMembers, FindsMembers, ReturnsList}

abbrev refusal_in : {X : Type 0} → WasmRefusal → Result X WasmRefusal → WasmRefusal
refusal_in other (Ok x) = other
refusal_in other (Err r) = r

abbrev reader_in : Reader → Result Reader WasmRefusal → Reader
reader_in other (Ok r) = r
reader_in other (Err e) = other

-- Bytes at an offset, or why there are none.
abbrev some_bytes : Reader → Result Reader WasmRefusal
some_bytes ahead = Ok ahead

abbrev no_bytes : WasmRefusal → Result Reader WasmRefusal
no_bytes r = Err r

-- The bytes at the offset, or the misuse.
abbrev pub FindsBytes : Result Reader WasmRefusal → List ℕ → ℕ → ℕ → ℕ → Type 0
FindsBytes result bytes offset features at =
    AtOffset (λ number place. result ≡ Err (misuse number place)) (λ input. result ≡ Ok input) bytes offset features at

-- An operator, or why there is none.
abbrev some_operator : Operator → Result Operator WasmRefusal
some_operator op = Ok op

abbrev no_operator : WasmRefusal → Result Operator WasmRefusal
no_operator r = Err r

-- An operator that was read is encoded here.
pub occurs_there : (op : Operator) (ahead : Reader) → PeeksOperator (Some frame.Block) (Ok op) ahead → OccursThere ahead op
occurs_there op ahead (after, (text, encodes, takes)) = (text, rest after, takes.parts, encodes.0)

-- A read that failed is an error here.
pub refuses_there : (e : Error) (r : WasmRefusal) (ahead : Reader) → PeeksOperator (Some frame.Block) (Err e) ahead → r ≡ refusal_of e → RefusesThere r ahead
refuses_there e r ahead (after, (same, refused)) is = (e, is, (refl, refused))

-- A statement about a call at an offset follows from a stronger one.
at_offset : (Misuse Refuses : ℕ → ℕ → Type 0) (There Occurs : Reader → Type 0) (bytes : List ℕ) (offset features at : ℕ) →
    ((number place : ℕ) → Misuse number place → Refuses number place) → ((input : Reader) → There input → Occurs input) →
    AtOffset Misuse There bytes offset features at → AtOffset Refuses Occurs bytes offset features at
at_offset Misuse Refuses There Occurs bytes offset features at refused occurs h = record {
  unknown = λ more. refused 100 offset (h.unknown more);
  past = λ known long. refused 101 offset (h.past known long);
  before = λ known within low. refused 104 at (h.before known within low);
  after = λ known within high. refused 104 at (h.after known within high);
  there = λ known within low high. occurs (reader_from bytes offset features at) (h.there known within low high);
}

-- The operator that was read from the bytes at the offset.
pub reads_ahead : (result : Result Operator WasmRefusal) (ahead : Reader) (bytes : List ℕ) (offset features at : ℕ) →
    FindsBytes (some_bytes ahead) bytes offset features at → ReturnsThere result ahead → ReadsAt result bytes offset features at
reads_ahead result ahead bytes offset features at found outcomes =
    at_offset (λ number place. some_bytes ahead ≡ Err (misuse number place)) (λ number place. result ≡ Err (misuse number place))
    (λ input. some_bytes ahead ≡ Ok input) (ReturnsThere result) bytes offset features at (λ number place is. absurd (cc is))
    (λ input is. subst (ReturnsThere result) (ap (reader_in ahead) is) outcomes) found

-- There are no bytes at the offset.
pub reads_nothing : (r : WasmRefusal) (bytes : List ℕ) (offset features at : ℕ) → FindsBytes (no_bytes r) bytes offset features at →
    ReadsAt (Err r) bytes offset features at
reads_nothing r bytes offset features at found =
    at_offset (λ number place. no_bytes r ≡ Err (misuse number place)) (λ number place. no_operator r ≡ Err (misuse number place))
    (λ input. no_bytes r ≡ Ok input) (ReturnsThere (Err r)) bytes offset features at (λ number place is. ap Err (ap (refusal_in r) is))
    (λ input is. absurd (cc is)) found

-- The text of the operator that was read from the bytes at the offset.
pub text_found : (text_of : Operator → List ℕ) (Refuses : WasmRefusal → Reader → Type 0) (r : WasmRefusal) (ahead : Reader) (bytes : List ℕ)
    (offset features at count_old count_new : ℕ) (old new : List ℕ) → FindsBytes (some_bytes ahead) bytes offset features at →
    FindsText text_of Refuses r ahead at count_old count_new old new → ReturnsTextAt text_of Refuses r bytes offset features at count_old count_new old new
text_found text_of Refuses r ahead bytes offset features at count_old count_new old new found text =
    at_offset (λ number place. some_bytes ahead ≡ Err (misuse number place)) (λ number place. (r ≡ misuse number place) × Unchanged count_old count_new old new)
    (λ input. some_bytes ahead ≡ Ok input) (λ input. FindsText text_of Refuses r input at count_old count_new old new) bytes offset features at
    (λ number place is. absurd (cc is))
    (λ input is. subst (λ i. FindsText text_of Refuses r i at count_old count_new old new) (ap (reader_in ahead) is) text) found

-- There are no bytes at the offset, and so no text.
pub text_nowhere : (text_of : Operator → List ℕ) (Refuses : WasmRefusal → Reader → Type 0) (r : WasmRefusal) (bytes : List ℕ)
    (offset features at count : ℕ) (old : List ℕ) → FindsBytes (no_bytes r) bytes offset features at →
    ReturnsTextAt text_of Refuses r bytes offset features at count count old old
text_nowhere text_of Refuses r bytes offset features at count old found =
    at_offset (λ number place. no_bytes r ≡ Err (misuse number place)) (λ number place. (r ≡ misuse number place) × Unchanged count count old old)
    (λ input. no_bytes r ≡ Ok input) (λ input. FindsText text_of Refuses r input at count count old old) bytes offset features at
    (λ number place is. (ap (refusal_in r) is, (refl, refl))) (λ input is. absurd (cc is)) found

-- An operator that was read in any frame is encoded here.
pub text_there : (kind : FrameKind) (op : Operator) (ahead : Reader) → PeeksOperator (Some kind) (Ok op) ahead → OccursThere ahead op
text_there kind op ahead (after, (text, encodes, takes)) = (text, rest after, takes.parts, encodes.0)

-- A read that failed in the frame for the operator.
pub no_text_there : (kind : FrameKind) (e : Error) (r : WasmRefusal) (ahead : Reader) → kind ≡ frame_for (rest ahead) →
    PeeksOperator (Some kind) (Err e) ahead → r ≡ refusal_of e → RefusesTextName r ahead
no_text_there kind e r ahead same (after, (unmoved, refused)) is = (
  e,
  is,
  subst (λ k. DecodesOperator (EncodesAllowed ahead.features k) (OperatorFault ahead.features k) (Err e) ahead ahead) same (refl, refused),
)

-- The text of the operator that was read.
pub text_placed : (text_of : Operator → List ℕ) (Refuses : WasmRefusal → Reader → Type 0) (op : Operator) (text : List ℕ) (r : WasmRefusal) (ahead : Reader)
    (at count_old count_new : ℕ) (old new : List ℕ) → OccursThere ahead op → text ≡ text_of op → PlacesText text at r count_new old new →
    FindsText text_of Refuses r ahead at count_old count_new old new
text_placed text_of Refuses op text r ahead at count_old count_new old new occurs same placed =
    inl (op, occurs, subst (λ t. PlacesText t at r count_new old new) same placed)

reports : {X : Type 0} (members : Option (List X)) (found : Option ℕ) (r : WasmRefusal) (at index count_old count_new : ℕ) (old new : List X) →
    ReturnsMembers members index old found new → IfSome found (λ n. (r ≡ no_refusal at) × (count_new ≡ n)) →
    IfNone found ((r ≡ misuse 104 at) × (count_new ≡ count_old)) → ReportsMembers members r at index count_old count_new old new
reports None found r at index count_old count_new old new (is, same) some none =
    let reported = subst (λ f. IfNone f ((r ≡ misuse 104 at) × (count_new ≡ count_old))) is none in
    (reported.0, (reported.1, same))
reports (Some members) found r at index count_old count_new old new (count, is, places) some none =
    let reported = subst (λ f. IfSome f (λ n. (r ≡ no_refusal at) × (count_new ≡ n))) is some in
    (reported.0, (reported.1 ∙ places.0, places.1))

-- The list of the operator that was read.
pub list_read : {X : Type 0} (members_of : Operator → Option (List X)) (op : Operator) (found : Option ℕ) (r : WasmRefusal) (bytes : List ℕ)
    (offset features at index count_old count_new : ℕ) (old new : List X) → ReadsAt (Ok op) bytes offset features at →
    ReturnsMembers (members_of op) index old found new → IfSome found (λ n. (r ≡ no_refusal at) × (count_new ≡ n)) →
    IfNone found ((r ≡ misuse 104 at) × (count_new ≡ count_old)) → ReturnsList members_of r bytes offset features at index count_old count_new old new
list_read members_of op found r bytes offset features at index count_old count_new old new read placed some none =
    at_offset (λ number place. some_operator op ≡ Err (misuse number place)) (λ number place. (r ≡ misuse number place) × Unchanged count_old count_new old new)
    (ReturnsThere (Ok op)) (λ input. FindsMembers members_of r input at index count_old count_new old new) bytes offset features at
    (λ number place is. absurd (cc is))
    (λ input occurs. inl (op, occurs, reports (members_of op) found r at index count_old count_new old new placed some none)) read

-- No operator was read.
pub list_refused : {X : Type 0} (members_of : Operator → Option (List X)) (r : WasmRefusal) (bytes : List ℕ) (offset features at index count : ℕ)
    (old : List X) → ReadsAt (Err r) bytes offset features at → ReturnsList members_of r bytes offset features at index count count old old
list_refused members_of r bytes offset features at index count old read =
    at_offset (λ number place. no_operator r ≡ Err (misuse number place)) (λ number place. (r ≡ misuse number place) × Unchanged count count old old)
    (ReturnsThere (Err r)) (λ input. FindsMembers members_of r input at index count count old old) bytes offset features at
    (λ number place is. (ap (refusal_in r) is, (refl, refl))) (λ input refuses. inr (refuses, (refl, refl))) read
