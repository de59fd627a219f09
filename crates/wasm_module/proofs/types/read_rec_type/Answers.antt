use Rattle.std.proofs.Common.{◌≡◌, ◌+◌, ◌<◌, [], ◌∷◌, ◌++◌, length, sym, subst, ap, ◌∙◌, rules, arith}
use Rattle.std.proofs.lemmas.List.{length_push}
use Rattle.std.proofs.lemmas.List.Elements.{All-push}
use Rattle.std.proofs.lemmas.Result.{err_from_is_err_and}
use Rattle.wasm_below.specs.Source.{HasRead}
use Rattle.wasm_module.specs.Types.{EncodesSubType}
use Rattle.wasm_module.specs.declared.composite.CompositeType.{CompositeType}
use Rattle.wasm_module.specs.Parameters.{parameter_count, IsKnownType}
use Rattle.wasm_module.specs.Refusals.{SubTypesFault}
use Rattle.wasm_module.proofs.RecTypes.{count_more}
use Rattle.wasm_module.proofs.Listed.{item_more}
use Rattle.wasm_module.proofs.NamedFunctions.{one_value, not_both}
use Rattle.wasm_module.proofs.NextItems.{all_at, more_items}
use Rattle.wasm_module.proofs.Refused.{of_refusal, sub_types_to}
use Rattle.wasm_module.proofs.types.read_rec_type.Goals as goal

pub loop-ty-preserved : goal.loop-ty-preserved
loop-ty-preserved c =
    let h = c.loop-ty.invariant in
    let ty = c.in_ok-ty.ty in
    let known : IsKnownType ty = search rules in
    let pushed : c.push.new.self.items ≡ c.loop-ty.counts.items ++ parameter_count ty ∷ [] = search rules in (
      h.0 ++ ty ∷ [],
      item_more EncodesSubType c.args.reader.now h.0 c.loop-ty.reader c.read.new.reader ty h.1 c.in_ok-ty.ensures,
      length_push h.0 ty ∙ ap (λ n. n + 1) h.2,
      All-push IsKnownType h.0 ty h.3 known,
      pushed ∙ ap (λ z. z ++ parameter_count ty ∷ []) h.4 ∙ count_more c.args.counts.now.items h.0 ty,
    )

pub returns-in_err-ty-clause-refused : goal.returns-in_err-ty-clause-refused
returns-in_err-ty-clause-refused c =
    let p = err_from_is_err_and c.from_residual.result c.from_residual.ensures.1 in
    rw p.1 (λ types end all occur known. let h = c.loop-ty.invariant in
    let fewer : length h.0 < length types = let so = h.2 in let test = c.loop-ty-test.true in omega (arith, so, test, all) in
    let (y, ys, next, parts, reads) = more_items EncodesSubType c.types.ensures.one c.args.reader.now h.0 types c.loop-ty.reader end h.1 occur fewer in
    absurd (not_both EncodesSubType c.in_err-ty.field-0.0 c.loop-ty.reader next y c.in_err-ty.ensures.1 reads))

pub returns-in-Other-clause-refused : goal.returns-in-Other-clause-refused
returns-in-Other-clause-refused c types end all occur known =
    let h = c.loop-ty.invariant in
    let fewer : length h.0 < length types = let so = h.2 in let test = c.loop-ty-test.true in omega (arith, so, test, all) in
    let (y, ys, next, parts, reads) = more_items EncodesSubType c.types.ensures.one c.args.reader.now h.0 types c.loop-ty.reader end h.1 occur fewer in
    let same = one_value EncodesSubType c.types.ensures.one c.loop-ty.reader c.read.new.reader next c.in_ok-ty.ty y c.in_ok-ty.ensures reads in
    let is_known : IsKnownType c.in_ok-ty.ty = subst IsKnownType (sym same) (all_at IsKnownType h.0 y ys types parts known) in
    absurd (subst IsKnownType c.in-Other.is is_known)

pub returns-in_err-ty-clause-fault : goal.returns-in_err-ty-clause-fault
returns-in_err-ty-clause-fault c =
    let p = err_from_is_err_and c.from_residual.result c.from_residual.ensures.1 in
    rw p.1 (let h = c.loop-ty.invariant in
    let fewer : length h.0 < c.args.len = let so = h.2 in let test = c.loop-ty-test.true in omega (arith, so, test) in
    let occur = sub_types_to c.args.len c.args.reader.now c.loop-ty.reader h.0 h.1 fewer h.3 in
    let read = c.in_err-ty.ensures in
    of_refusal (λ f. SubTypesFault f c.args.len c.args.reader.now) c.in_err-ty.field-0.0 p.0 p.2 read.1.fault
    (c.loop-ty.reader, occur, (read.1, read.2)))

pub returns-in-Other-clause-fault : goal.returns-in-Other-clause-fault
returns-in-Other-clause-fault c =
    let h = c.loop-ty.invariant in
    let fewer : length h.0 < c.args.len = let so = h.2 in let test = c.loop-ty-test.true in omega (arith, so, test) in
    let occur = sub_types_to c.args.len c.args.reader.now c.loop-ty.reader h.0 h.1 fewer h.3 in
    let reads = subst (λ (ty : CompositeType). HasRead EncodesSubType ty c.loop-ty.reader c.read.new.reader) c.in-Other.is c.in_ok-ty.ensures in
    (c.loop-ty.reader, occur, c.original_position-offset.ensures, c.read.new.reader, reads)

pub returns-then-is_err-clause-fault : goal.returns-then-is_err-clause-fault
returns-then-is_err-clause-fault c =
    let h = c.loop-ty.invariant in
    let fewer : length h.0 < c.args.len = let so = h.2 in let test = c.loop-ty-test.true in omega (arith, so, test) in
    let occur = sub_types_to c.args.len c.args.reader.now c.loop-ty.reader h.0 h.1 fewer h.3 in
    let known : IsKnownType c.in_ok-ty.ty = search rules in
    (c.loop-ty.reader, occur, c.in_ok-ty.ty, c.read.new.reader, c.in_ok-ty.ensures, known)
