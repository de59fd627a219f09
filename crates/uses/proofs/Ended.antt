-- No operator follows an expression. So bytes start with an expression only if a read finds its
-- end.
use Rattle.std.proofs.Common.{◌≡◌, ℕ, List, [], ◌∷◌, ◌++◌, Option, Some, None, sym, ap, subst, ◌∙◌, append-nil}
use Rattle.std.specs.Option.{option_and_then}
use Rattle.wasm_operators.specs.below.declared.features.WasmFeatures.{WasmFeatures}
use Rattle.wasm_operators.specs.below.Source.{rest, reader_of, Takes}
use Rattle.wasm_operators.specs.grammar.declared.frame_kind.FrameKind.{FrameKind}
use Rattle.wasm_operators.specs.grammar.declared.frame_kind.FrameKind.TheVariants as frame
use Rattle.wasm_operators.specs.grammar.Beginning.{IsWalk}
use Rattle.wasm_operators.specs.grammar.Frames.{frames_after, frames_along}
use Rattle.wasm_operators.specs.instr.Roles.{role_of, roles_of}
use Rattle.wasm_operators.specs.Expression.{Placed, IsAny, operators, LaidOut, AreEncoded, Longest, IsPrefixAfter}
use Rattle.wasm_operators.specs.Laws.{HasEncodings, BeginsLonger}
use Rattle.wasm_operators.specs.Reading.{State}
use Rattle.uses.specs.Begun.{BeginsExpression}
use Rattle.uses.specs.Input.{input}

abbrev pub along : List FrameKind → Placed → Option (List FrameKind)
along frames placed = frames_along frames (roles_of (operators placed))

stepped : (placed more : Placed) (mid : List FrameKind) → ((next : List FrameKind) → along next placed ≡ Some mid → along next (placed ++ more) ≡ along mid more) →
    (o : Option (List FrameKind)) → option_and_then (λ next. along next placed) o ≡ Some mid →
    option_and_then (λ next. along next (placed ++ more)) o ≡ along mid more
stepped placed more mid each None h = absurd (cc h)
stepped placed more mid each (Some next) h = each next h

followed : (placed more : Placed) (frames mid : List FrameKind) → along frames placed ≡ Some mid → along frames (placed ++ more) ≡ along mid more
followed [] more frames mid h =
    let same : frames ≡ mid = cc h in
    ap (λ from. along from more) same
followed (p ∷ ps) more frames mid h = stepped ps more mid (λ next. followed ps more next mid) (frames_after frames (role_of p.0)) h

none_follows : (more : Placed) (frames : List FrameKind) → along [] more ≡ Some frames → frames ≡ []
none_follows [] frames h =
    let same : [] ≡ frames = cc h in
    sym same
none_follows (p ∷ ps) frames h = absurd (cc h)

pub begins_none : (features : WasmFeatures) (bytes text : List ℕ) (new : State) (longest : Placed) → BeginsLonger features → HasEncodings features →
    ((placed : Placed) → IsWalk (roles_of (operators placed)) → along (frame.Block ∷ []) placed ≡ Some []) →
    Longest (IsPrefixAfter [] (input features bytes)) IsAny longest → Takes (reader_of features 0 bytes) new.reader text → LaidOut features 0 text longest →
    along (frame.Block ∷ []) longest ≡ Some new.frames → (new.frames ≡ [] → ⊥) → (n : ℕ) → BeginsExpression (input features bytes) n → ⊥
begins_none features bytes text new longest beginnings encodings closes is takes laid runs is_open n h =
    let nothing = append-nil (operators h.placed) in
    let walks = subst (λ ops. IsWalk (roles_of ops)) (sym nothing) h.encodes.1 in
    let encoded = subst (AreEncoded features) (sym nothing) (encodings 0 h.placed h.text h.encodes.0) in
    let shorter = is.longest h.placed (record { beginning = h.text; more = h.more; parts = h.parts; laid = h.encodes.0; begins = ([], walks, encoded) }) tt in
    let part = beginnings 0 h.placed longest h.text text h.more (rest new.reader) h.encodes.0 laid (sym h.parts ∙ takes.parts) shorter in
    let closed = followed h.placed part.0 (frame.Block ∷ []) [] (closes h.placed h.encodes.1) in
    is_open (none_follows part.0 new.frames (sym closed ∙ (ap (along (frame.Block ∷ [])) (sym part.1) ∙ runs)))
