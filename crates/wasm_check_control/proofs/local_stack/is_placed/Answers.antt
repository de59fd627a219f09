use Rattle.std.proofs.Common.{get_or, refl, arith}
use Rattle.wasm_check_control.proofs.LocalStacks.{without_place, past_end, in_place}
use Rattle.wasm_check_control.proofs.local_stack.is_placed.Goals as goal

pub returns-then-local-places : goal.returns-then-local-places
returns-then-local-places c =
    without_place c.args.locals.now c.args.places.now c.requires c.args.local (let p = c.if-local-places.true in omega (arith, p))

pub returns-then-place-locals : goal.returns-then-place-locals
returns-then-place-locals c =
    past_end c.args.locals.now c.args.places.now c.requires c.args.local (get_or c.args.places.now c.args.local 0) refl (let p = c.if-place-locals.true in omega (arith, p))

pub returns : goal.returns
returns c =
    in_place c.args.locals.now c.args.places.now c.requires c.args.local (get_or c.args.places.now c.args.local 0)
    (get_or c.args.locals.now (get_or c.args.places.now c.args.local 0) 0) (let p = c.if-place-locals.false in omega (arith, p)) refl refl
