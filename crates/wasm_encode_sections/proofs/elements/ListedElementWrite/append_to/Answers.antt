use Rattle.std.proofs.Common.{inl, inr}
use Rattle.wasm_write_grammars.proofs.Owing.{given, thing_fails}
use Rattle.wasm_encode_sections.specs.ElementReasons.{ElementReason}
use Rattle.wasm_encode_sections.proofs.ElementSteps.{flag_facts, number_starts, only_kind_of, only_items_of, place_starts, element_written, listed_reason}
use Rattle.wasm_encode_sections.proofs.elements.ListedElementWrite.append_to.Goals as goal

pub append_kind-requires : goal.append_kind-requires
append_kind-requires g c = let facts = flag_facts (g.C.Write.grammar c.args.features) c.args.self.now c.element_flags-flags.ensures in (facts.0, facts.1)

pub append_listed-requires : goal.append_listed-requires
append_listed-requires g c = let facts = flag_facts (g.C.Write.grammar c.args.features) c.args.self.now c.element_flags-flags.ensures in facts.2

pub returns-in_err-append_u32 : goal.returns-in_err-append_u32
returns-in_err-append_u32 g c =
    let (extends, why) = c.in_err-append_u32.ensures in
    given (ElementReason (g.C.Write.reason c.args.features)) _ c.from_residual.ensures.1 extends (λ known. absurd (why known).reason)

pub returns-in_err-append_kind : goal.returns-in_err-append_kind
returns-in_err-append_kind g c =
    let p = g.C.Write.grammar c.args.features in
    let x = c.args.self.now in
    thing_fails (ElementReason (g.C.Write.reason c.args.features)) _ c.from_residual-in_err-append_kind.ensures.1 (number_starts p x c.element_flags-flags.ensures c.in_ok-append_u32.ensures) x.kind
    (only_kind_of p x c.element_flags-flags.result) c.in_err-append_kind.ensures (λ r. inl r)

pub returns-in_err-append_listed : goal.returns-in_err-append_listed
returns-in_err-append_listed g c =
    let p = g.C.Write.grammar c.args.features in
    let Why = g.C.Write.reason c.args.features in
    let x = c.args.self.now in
    let is = c.element_flags-flags.ensures in
    thing_fails (ElementReason Why) _ c.from_residual-in_err-append_listed.ensures.1
    (place_starts p x is c.in_ok-append_u32.ensures c.in_ok-append_kind.ensures) x.items (only_items_of p x c.element_flags-flags.result x.kind) c.in_err-append_listed.ensures
    (λ r. inr (listed_reason Why x is _ r))

pub returns : goal.returns
returns g c =
    element_written (g.C.Write.grammar c.args.features) c.args.self.now c.element_flags-flags.ensures c.in_ok-append_u32.ensures c.in_ok-append_kind.ensures c.in_ok-append_listed.ensures
