use Rattle.std.proofs.Common.{◌≡◌, ◌+◌, ◌++◌, ◌∷◌, [], sym, subst, ap, ◌∙◌, rules}
use Rattle.std.specs.Prelude.{vec_len, vec_capacity, ⊤}
use Rattle.wasm_below.specs.declared.features.WasmFeatures.{WasmFeatures}
use Rattle.wasm_below.specs.Fault.{ManyFault}
use Rattle.wasm_below.specs.FromReader.{AllocatesIf, IsRefused}
use Rattle.wasm_below.specs.Source.{Reader, HasRead}
use Rattle.wasm_below.proofs.TakesLemmas.{takes_then}
use Rattle.wasm_imm.specs.Lists.{EncodesMany}
use Rattle.wasm_imm.proofs.ListLemmas.{many_more}
use Rattle.wasm_imm.proofs.ListRefusals.{member_refused, items_stay_refused}
use Rattle.wasm_imm.proofs.lists.read_items.Goals as goal

pub returns-in_err-item-clause-reads : goal.returns-in_err-item-clause-reads
returns-in_err-item-clause-reads g c =
    let copy = c.clone-ahead.result in
    let now = c.loop-member.ahead in
    let i = c.loop-member.invariant in
    let P = g.T.FromReader.encodes in
    let F = g.T.FromReader.fault in
    let Memory = AllocatesIf g.T.Memory.MemoryUse.TAKES g.T.FromReader.allocates in
    let e = c.in_err-item.field-0.0 in
    let kept : now.features ≡ copy.features = ap (λ (r : Reader). r.features) i.2.moved in
    let h = subst (λ (z : WasmFeatures). IsRefused (P z) F Memory e now) kept c.in_err-item.ensures.reads.1 in
    let refused = member_refused (P copy.features) F Memory e copy now i.0 c.loop-member.items.items c.loop-member._member c.args.count
    (λ r k. subst (λ z. AllocatesIf z g.T.FromReader.allocates r) c.requires.lean k)
    (λ a b x y m n p q e. (c.is_prefix_code.ensures copy.features a b x y m n p q e).0) i.1 c.loop-member-test.true i.2 h in
    let begun : copy.features ≡ c.args.reader.now.features = ap (λ (r : Reader). r.features) c.clone-ahead.ensures in
    let features = c.args.reader.now.features in
    let returned = c.from_residual in
    let here = subst (λ (z : WasmFeatures). IsRefused (EncodesMany (P z) c.args.count) (ManyFault (P z) F c.args.count) (λ r. ⊤) e copy) begun refused in
    items_stay_refused (EncodesMany (P features) c.args.count) (ManyFault (P features) F c.args.count) (λ r. ⊤) returned.result c.clone-ahead.ensures
    returned.ensures.1 here

pub loop-member-preserved : goal.loop-member-preserved
loop-member-preserved g c =
    let f = c.clone-ahead.result.features in
    let now = c.loop-member.ahead in
    let i = c.loop-member.invariant in
    let same : now.features ≡ f = ap (λ (r : Reader). r.features) i.2.moved in
    let r = subst (λ (z : WasmFeatures). HasRead (g.T.FromReader.encodes z) c.in_ok-item.item now c.from_reader.new.reader) same c.in_ok-item.ensures.reads in
    let items : c.push_reserved.new.self.items ≡ c.loop-member.items.items ++ c.in_ok-item.item ∷ [] = search rules in
    let more = many_more (g.T.FromReader.encodes f) c.loop-member._member i.0 r.0 c.loop-member.items.items c.in_ok-item.item i.1 r.1 in
    let length_is : vec_len c.push_reserved.new.self ≡ c.loop-member._member + 1 = search rules in
    let exact : vec_capacity c.push_reserved.new.self ≡ c.args.count = c.push_reserved.ensures.capacity ∙ i.4 in (
      i.0 ++ r.0,
      subst (λ z. EncodesMany (g.T.FromReader.encodes f) (c.loop-member._member + 1) (i.0 ++ r.0) z) (sym items) more,
      takes_then c.clone-ahead.result now c.from_reader.new.reader i.0 r.0 i.2 r.2,
      length_is,
      exact,
    )
