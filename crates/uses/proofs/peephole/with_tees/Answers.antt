use Rattle.std.proofs.Common.{sym, subst, refl, arith, [], ◌++◌, append-nil}
use Rattle.std.proofs.lemmas.List.{drop_all}
use Rattle.wasm_operators.specs.Expression.{operators}
use Rattle.uses.specs.Peephole.{AreTeed, none}
use Rattle.uses.proofs.Teed.{kept_next, joined_next}
use Rattle.uses.proofs.peephole.with_tees.Goals as goal

pub loop-at-init : goal.loop-at-init
loop-at-init c = record {
  teed = λ rest a. subst (λ z. AreTeed (operators c.args.ops.now) (operators z ++ rest)) (sym c.new-teed.ensures.items) a;
  le = omega arith;
}

pub loop-at-preserved-in-Some : goal.loop-at-preserved-in-Some
loop-at-preserved-in-Some c = record {
  teed = joined_next _ _ _ _ _ c.in-Some.local_index c.in-Some.ensures.0 (c.if-not-add.ensures refl) c.loop-at.invariant.teed;
  le = c.in-Some.ensures.1;
}

pub loop-at-preserved : goal.loop-at-preserved
loop-at-preserved c =
    let lt = c.loop-at-test.true in
    record {
      teed = kept_next _ _ _ c.args.ops.now c.loop-at.at c.index-ops-at-in-None.result lt c.index-ops-at-in-None.is (c.if-not-add_copy.ensures refl) c.in-None.ensures
          c.loop-at.invariant.teed;
      le = omega (arith, lt);
    }

pub returns : goal.returns
returns c =
    let ops = operators c.args.ops.now in
    let teed = operators c.loop-at.teed.items in
    let whole = c.loop-at.invariant.teed [] (subst (λ z. AreTeed (operators z) []) (sym (drop_all c.loop-at.at c.args.ops.now c.loop-at-test.false)) none) in
    subst (λ z. AreTeed ops z) (append-nil teed) whole
