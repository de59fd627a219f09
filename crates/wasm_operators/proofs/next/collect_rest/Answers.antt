use Rattle.std.proofs.Common.{◌≡◌, ◌+◌, ◌<◌, ◌≤◌, ◌++◌, ◌∷◌, [], ℕ, length, refl, sym, subst, ap, ◌∙◌, rules, inl, arith}
use Rattle.std.proofs.lemmas.List.{append-nil, length_push}
use Rattle.std.specs.Vec.{vec_len, vec_capacity}
use Rattle.wasm_below.specs.Source.{rest, offset_of}
use Rattle.wasm_decode_opcodes.specs.Allowed.{EncodesAllowed}
use Rattle.wasm_operators.specs.Collecting.{CollectsOne, Collects, GrowsAsFilled}
use Rattle.wasm_operators.specs.Next.{state_of, all_operators, collecting}
use Rattle.wasm_operators.proofs.CollectedLemmas.{collected_push, filled_further}
use Rattle.wasm_operators.proofs.DecoderPremises.{sound, is_reading}
use Rattle.wasm_operators.proofs.MemoryLemmas.{memory_needs}
use Rattle.wasm_operators.proofs.OneRead.{stops_collecting}
use Rattle.wasm_operators.proofs.Runs.{ran_start, ran_push, ran_unchanged, run_stops}
use Rattle.wasm_operators.proofs.next.collect_rest.Goals as goal

pub operators-init : goal.operators-init
operators-init g c =
    ([], ([], refl, sym (append-nil c.args.list.now.items.items)), ran_start (state_of c.args.reader.now c.args.control.now), omega arith, inl refl)

pub operators-preserved : goal.operators-preserved
operators-preserved g c =
    let i = c.operators.invariant in
    let h = c.in-Ok.ensures in
    let s = state_of c.operators.reader c.operators.control in
    let op = h.0 in
    let at = offset_of s.reader in
    let old = c.args.list.now.items.items in
    let mid = c.reserve_one.new.list.items in
    let new = c.visit_next.new.v.items.items in
    let room : vec_len c.reserve_one.new.list < vec_capacity c.reserve_one.new.list = search rules in
    let longer : length new ≡ length mid + 1 = ap length (h.2 room).0.2 ∙ length_push mid _ in (
      i.0 ++ (op, at) ∷ [],
      collected_push g.T.HoldOperator.holds old mid new i.0 op at (subst (λ x. Collects g.T.HoldOperator.holds old x i.0) (sym c.reserve_one.ensures.items) i.1)
          (subst (λ n. CollectsOne g.T.HoldOperator.holds n mid op new) c.original_position-list.ensures (h.2 room).0),
      ran_push EncodesAllowed sound (state_of c.args.reader.now c.args.control.now) s (state_of c.visit_next.new.reader c.visit_next.new.control) i.0 op i.2 h.1,
      omega (arith, i.3, c.reserve_one.ensures.kept, (h.2 room).1),
      filled_further (vec_capacity c.args.list.now.items) (vec_capacity c.operators.list.items) (vec_capacity c.reserve_one.new.list)
          (vec_capacity c.visit_next.new.v.items) (length c.operators.list.items.items) (length new) i.4 c.reserve_one.ensures.grows
          (omega (arith, ap length c.reserve_one.ensures.items, longer))
          (h.2 room).1,
    )

pub returns-in-Err-clause-collected : goal.returns-in-Err-clause-collected
returns-in-Err-clause-collected g c =
    let i = c.operators.invariant in
    let h = c.in-Err.ensures in
    let old = c.args.list.now.items.items in (
      i.0,
      subst (λ w. Collects g.T.HoldOperator.holds old w.items.items i.0) (sym h.1)
          (subst (λ x. Collects g.T.HoldOperator.holds old x i.0) (sym c.reserve_one.ensures.items) i.1),
      ran_unchanged (state_of c.args.reader.now c.args.control.now) (state_of c.operators.reader c.operators.control) (state_of c.visit_next.new.reader c.visit_next.new.control) i.0 i.2 h.0,
    )

pub returns-in-Err-clause-stopped : goal.returns-in-Err-clause-stopped
returns-in-Err-clause-stopped g c =
    let h = c.in-Err.ensures in
    let left : rest c.operators.reader ≡ [] → ⊥ = search rules in
    let stops = stops_collecting c.in-Err.e (state_of c.visit_next.new.reader c.visit_next.new.control) h.2 in
    run_stops collecting c.in-Err.e (state_of c.operators.reader c.operators.control) (state_of c.visit_next.new.reader c.visit_next.new.control) left h.0 stops

pub returns-in-Err-clause-memory : goal.returns-in-Err-clause-memory
returns-in-Err-clause-memory g c = λ is. inl (memory_needs all_operators is_reading c.in-Err.e
    (state_of c.visit_next.new.reader c.visit_next.new.control) c.in-Err.ensures.2 is)

pub returns-in-Err-clause-kept : goal.returns-in-Err-clause-kept
returns-in-Err-clause-kept g c =
    let i = c.operators.invariant in
    subst (λ w. vec_capacity c.args.list.now.items ≤ vec_capacity w.items) (sym c.in-Err.ensures.1) (omega (arith, i.3, c.reserve_one.ensures.kept))

-- The capacity after one more item was reserved, at as many items.
filled_reserved : (before mid now l m : ℕ) → GrowsAsFilled before l mid → GrowsAsFilled mid l now → m ≡ l → GrowsAsFilled before m now
filled_reserved before mid now l m first next same = filled_further before mid now now l m first next (omega (arith, same)) refl

pub returns-then-is_err-clause-grows : goal.returns-then-is_err-clause-grows
returns-then-is_err-clause-grows g c =
    filled_reserved (vec_capacity c.args.list.now.items) (vec_capacity c.operators.list.items) (vec_capacity c.reserve_one.new.list)
    (length c.operators.list.items.items) (length c.reserve_one.new.list.items) c.operators.invariant.4 c.reserve_one.ensures.grows
    (ap length c.reserve_one.ensures.items)

pub returns-in-Err-clause-grows : goal.returns-in-Err-clause-grows
returns-in-Err-clause-grows g c =
    let reserved = filled_reserved (vec_capacity c.args.list.now.items) (vec_capacity c.operators.list.items) (vec_capacity c.reserve_one.new.list)
    (length c.operators.list.items.items) (length c.reserve_one.new.list.items) c.operators.invariant.4 c.reserve_one.ensures.grows
    (ap length c.reserve_one.ensures.items) in
    subst (λ w. GrowsAsFilled (vec_capacity c.args.list.now.items) (length w.items.items) (vec_capacity w.items)) (sym c.in-Err.ensures.1) reserved
