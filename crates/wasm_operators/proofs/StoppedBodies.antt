-- Bytes that encode no body fail in one way, unless allocation fails.
use Rattle.std.proofs.Common.{◌≡◌, ◌≢◌, ℕ, List, [], length, Some, Ok, Err, sym, ap, ◌∙◌, arith, inl, inr}
use Rattle.wasm_below.specs.declared.error.Error.{Error}
use Rattle.wasm_below.specs.declared.message.Message.TheVariants as message
use Rattle.wasm_below.specs.Source.{Reader, rest, offset_of, source_of}
use Rattle.wasm_below.proofs.Blocks.{refused_now}
use Rattle.wasm_grammar.specs.declared.frame_kind.FrameKind.{FrameKind}
use Rattle.wasm_grammar.specs.Frames.{frames_along}
use Rattle.wasm_grammar.proofs.Paths.{run_path}
use Rattle.wasm_instr.specs.Roles.{roles_of}
use Rattle.wasm_operators.specs.Expression.{Placed, operators}
use Rattle.wasm_operators.specs.Openings.{most_open}
use Rattle.wasm_operators.specs.Reading.{State, StopsRun, TakesOperators}
use Rattle.wasm_operators.proofs.Ends.{run_determined}
use Rattle.wasm_operators.proofs.FrameMemory.{few_frames, twice_most_open, most_least}
use Rattle.wasm_operators.proofs.Premises.{Everything}
use Rattle.wasm_operators.proofs.Runs.{run_only, fresh_before}
use Rattle.wasm_operators.proofs.DecoderPremises.{takes_all, keeps_all}
use Rattle.wasm_decode.proofs.DeterminedOperatorRefusals.{operator_determines}
use Rattle.wasm_operators.specs.Next.{collecting}
use Rattle.wasm_operators.specs.Body.{EncodesBody, OpensBody, NoExpression, StopsBody}
use Rattle.wasm_operators.specs.Locals.{Declaration, EncodesLocals, RefusesLocals}
use Rattle.wasm_operators.proofs.Bodies.{no_body, expression_after_locals}
use Rattle.wasm_operators.proofs.LocalsLemmas.{one_past}
use Rattle.wasm_operators.proofs.Determined.{locals_determine}

-- The state with this capacity.
abbrev roomy : ℕ → State → State
roomy room s = record { reader = s.reader; frames = s.frames; room = room }

stops_roomy : (room : ℕ) (e : Error) (s : State) → StopsRun collecting e s → StopsRun collecting e (roomy room s)
stops_roomy room e s (inl left) = inl left
stops_roomy room e s (inr (some, inl none)) = inr (some, inl none)
stops_roomy room e s (inr (some, inr (inl there))) =
    inr (
      some,
      inr (inl (record {
        kind = there.kind;
        open_frame = there.open_frame;
        refuses = there.refuses;
        ahead = there.ahead;
        fault = there.fault;
      })),
    )
stops_roomy room e s (inr (some, inr (inr memory))) = inr (some, inr (inr memory))

-- Capacity for all frames that these reads open.
abbrev enough : (e : Error) (body : Reader) (placed : Placed) → NoExpression e body placed → ℕ
enough e body placed h = most_open (Some h.opened.frames) placed

ran_after : (e : Error) (body : Reader) (placed : Placed) (h : NoExpression e body placed) →
    TakesOperators (roomy 0 h.opened) (roomy (enough e body placed h) h.stopped) placed
ran_after e body placed h =
    let along = ap (λ (frames : List FrameKind). frames_along frames (roles_of (operators placed))) h.opens.1 ∙
    run_path h.stopped.frames (roles_of (operators placed)) h.reads.read_so_far.path in
    let few = twice_most_open h.opened.reader.features (offset_of h.opened.reader) placed h.reads.text h.opened.frames h.reads.laid in
    let left = few_frames h.opened.reader.features (offset_of h.opened.reader) placed h.reads.text h.opened.frames h.stopped.frames h.reads.laid along in
    let least = most_least h.opened.frames placed in
    record {
      text = h.reads.text;
      takes = h.reads.takes;
      laid = h.reads.laid;
      frames = along;
      room = omega arith;
      memory = omega (arith, few, left);
      kept = omega (arith, least);
      deepest = omega arith;
      grows = let one = ap length h.opens.1 in inr (omega (arith, one, least), omega (arith, one));
    }

no_locals_read : (e : Error) (body : Reader) (opened : State) → RefusesLocals e body → OpensBody (Ok opened) body → ⊥
no_locals_read e body opened h ((declarations, (text, encodes, takes)), fresh) =
    refused_now EncodesLocals e body h.refusal text (rest opened.reader) declarations encodes takes.parts

pub stopped_none : (e : Error) (body : Reader) (placed whole : Placed) (declarations : List Declaration) → e.message ≢ message.OutOfMemory →
    StopsBody e body placed → EncodesBody (source_of body) declarations whole → ⊥
stopped_none e body placed whole declarations other (inl h) encodes = no_body e body declarations whole h.refused encodes
stopped_none e body placed whole declarations other (inr h) encodes =
    other (run_only Everything collecting keeps_all [] e (roomy 0 h.opened) (roomy (enough e body placed h) h.stopped) placed whole
    (fresh_before (roomy 0 h.opened) h.opens.1) (ran_after e body placed h) tt (stops_roomy (enough e body placed h) e h.stopped h.reads.stops)
    (expression_after_locals body h.opened declarations whole h.opens encodes) tt)

pub stopped_same : (d e : Error) (body : Reader)
    (first second : Placed) → d.message ≢ message.OutOfMemory → e.message ≢ message.OutOfMemory → StopsBody d body first → StopsBody e body second →
    (first ≡ second) × (d.message ≡ e.message) × (d.offset ≡ e.offset)
stopped_same d e body first second other others (inl p) (inl q) =
    let same = locals_determine d.message e.message body d.offset e.offset p.refused.fault q.refused.fault in
    (p.nothing ∙ sym q.nothing, same.0, same.1)
stopped_same d e body first second other others (inl p) (inr q) = absurd (no_locals_read d body q.opened p.refused q.opens)
stopped_same d e body first second other others (inr p) (inl q) = absurd (no_locals_read e body p.opened q.refused p.opens)
stopped_same d e body first second other others (inr p) (inr q) =
    let reader : q.opened.reader ≡ p.opened.reader = (one_past p.opened.reader q.opened.reader body p.opens.0.0 q.opens.0.0 p.opens.0.1 q.opens.0.1).0 in
    let frames : q.opened.frames ≡ p.opened.frames = q.opens.1 ∙ sym p.opens.1 in
    let same = run_determined {X = Unit {0}} {Y = Unit {0}} collecting Everything takes_all operator_determines (Err d) (Err e)
    (roomy 0 p.opened) (roomy (enough d body first p) p.stopped) (roomy 0 q.opened) (roomy (enough e body second q) q.stopped) first second reader frames
    (ran_after d body first p) (ran_after e body second q) (λ before after at is. tt) (λ before after at is. tt)
    (stops_roomy (enough d body first p) d p.stopped p.reads.stops) (stops_roomy (enough e body second q) e q.stopped q.reads.stops) other others in
    (same.0, same.3.0, same.3.1)
