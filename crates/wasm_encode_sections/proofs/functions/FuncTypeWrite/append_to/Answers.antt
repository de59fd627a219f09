use Rattle.std.proofs.Common.{inl, inr, ap, sym, refl}
use Rattle.wasm_types.specs.declared.functions.FuncType.{FuncType}
use Rattle.wasm_types.specs.Types.{func_type}
use Rattle.wasm_write_grammars.proofs.Owing.{owes, wrote, of_thing, thing_fails, paid}
use Rattle.wasm_encode_sections.specs.TypeReasons.{FuncReason}
use Rattle.wasm_encode_sections.proofs.SameValue.{writes_as, fails_as}
use Rattle.wasm_encode_sections.proofs.functions.FuncTypeWrite.append_to.Goals as goal

pub returns-in_err-append_list : goal.returns-in_err-append_list
returns-in_err-append_list c =
    thing_fails FuncReason _ c.from_residual.ensures.1 (owes func_type c.args.self.now c.args.out.now.items) c.args.self.now.params
    (λ z place at first after p (a, b, w, e, q, (n, same)). sym (ap (λ (t : FuncType). t.params) same)) (fails_as c.params.ensures c.in_err-append_list.ensures) (λ r. inl r)

pub returns-in_err-append_list-2 : goal.returns-in_err-append_list-2
returns-in_err-append_list-2 c =
    let params = wrote (owes func_type c.args.self.now c.args.out.now.items) c.args.self.now.params
    (λ z place at first after p (a, b, w, e, q, (n, same)). sym (ap (λ (t : FuncType). t.params) same)) (of_thing (writes_as c.params.ensures c.in_ok-append_list.ensures)) in
    thing_fails FuncReason _ c.from_residual-in_err-append_list-2.ensures.1 params c.args.self.now.results
    (λ z place at first after p (n, same). sym (ap (λ (t : FuncType). t.results) same)) (fails_as c.results.ensures c.in_err-append_list-2.ensures) (λ r. inr r)

pub returns : goal.returns
returns c =
    let params = wrote (owes func_type c.args.self.now c.args.out.now.items) c.args.self.now.params
    (λ z place at first after p (a, b, w, e, q, (n, same)). sym (ap (λ (t : FuncType). t.params) same)) (of_thing (writes_as c.params.ensures c.in_ok-append_list.ensures)) in
    let results = wrote params c.args.self.now.results (λ z place at first after p (n, same). sym (ap (λ (t : FuncType). t.results) same)) (of_thing (writes_as c.results.ensures c.in_ok-append_list-2.ensures)) in
    paid results refl
