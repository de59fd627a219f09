use Rattle.std.proofs.Common.{◌≡◌, [], length, IsTrue, sym, ap, ◌∙◌, rules}
use Rattle.std.specs.Prelude.{vec_len}
use Rattle.std.proofs.lemmas.Bool.{eqb-true}
use Rattle.wasm_types.specs.Types.{types_of}
use Rattle.wasm_subtypes.specs.Keys.{use_number, group_numbers, start_of}
use Rattle.wasm_subtypes.proofs.Indexed.{added_empty, empty_list, found_is_first, none_is_first}
use Rattle.wasm_subtypes.proofs.types.Types.place.Goals as goal

pub returns-then-is_empty-clause-added : goal.returns-then-is_empty-clause-added
returns-then-is_empty-clause-added c =
    let is : vec_len c.in_ok-group.group ≡ length c.in_ok-group.group.items = search rules in
    let none : c.in_ok-group.group.items ≡ [] = empty_list c.in_ok-group.group.items (sym is ∙ eqb-true (vec_len c.in_ok-group.group) 0 (sym c.is_empty.ensures ∙ c.if-is_empty.true)) in
    added_empty c.args.self (types_of c.args.group) (sym c.in_ok-group.ensures.types ∙ none)

pub add_again-requires-clause-first : goal.add_again-requires-clause-first
add_again-requires-clause-first c =
    let types = c.self.inside.list in
    let entries = c.self.inside.starts.entries in
    let e : c.in_ok-group.group.items ≡ [] → IsTrue c.is_empty.result = search rules in
    found_is_first types entries c.self.invariant c.in_ok-group.group.items (λ n. absurd (cc (sym c.if-is_empty.false ∙ e n))) c.in-Ok.key.items
    (c.in-Ok.ensures ∙ ap (λ l. group_numbers (use_number l (length l)) c.as_slice-2.result.now) c.as_slice.ensures ∙
    ap (group_numbers (use_number types (length types))) c.as_slice-2.ensures.value)
    c.in-Some.found (ap (λ q. start_of q entries) (sym c.as_slice-3.ensures.value) ∙ sym c.in-Some.ensures)

pub add_first-requires-clause-first : goal.add_first-requires-clause-first
add_first-requires-clause-first c =
    let types = c.self.inside.list in
    let entries = c.self.inside.starts.entries in
    let e : c.in_ok-group.group.items ≡ [] → IsTrue c.is_empty.result = search rules in
    none_is_first types entries c.self.invariant c.in_ok-group.group.items (λ n. absurd (cc (sym c.if-is_empty.false ∙ e n))) c.in-Ok.key.items
    (c.in-Ok.ensures ∙ ap (λ l. group_numbers (use_number l (length l)) c.as_slice-2.result.now) c.as_slice.ensures ∙
    ap (group_numbers (use_number types (length types))) c.as_slice-2.ensures.value)
    (ap (λ q. start_of q entries) (sym c.as_slice-3.ensures.value) ∙ sym c.in-None.ensures)
