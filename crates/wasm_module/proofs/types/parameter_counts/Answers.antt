use Rattle.std.proofs.Common.{◌+◌, ◌<◌, ℕ, List, [], ◌∷◌, ◌++◌, length, map, subst, ap, ◌∙◌, inl, inr, arith}
use Rattle.std.proofs.lemmas.List.{length_push}
use Rattle.std.proofs.lemmas.List.Elements.{All-push}
use Rattle.std.proofs.lemmas.Result.{err_from_is_err_and}
use Rattle.wasm_below.specs.Number.{EncodesUnsigned}
use Rattle.wasm_below.specs.Source.{Reader}
use Rattle.wasm_module.specs.Types.{EncodesSubType}
use Rattle.wasm_module.specs.Items.{ItemsOccur}
use Rattle.wasm_module.specs.Parameters.{parameter_count, AreKnownTypes}
use Rattle.wasm_module.specs.Refusals.{TypesLengthFault}
use Rattle.wasm_module.proofs.RecTypes.{rec_type_more, rec_type_occurs, rec_type_announced, parameters_more}
use Rattle.wasm_module.proofs.NamedFunctions.{not_both}
use Rattle.wasm_module.proofs.NextItems.{all_at, next_rec_type, one_announced, none_announced}
use Rattle.wasm_module.proofs.Refused.{of_refusal, announced_refused, types_to}
use Rattle.wasm_module.proofs.types.parameter_counts.Goals as goal

pub loop-rec_type-preserved : goal.loop-rec_type-preserved
loop-rec_type-preserved c =
    let h = c.loop-rec_type.invariant in
    let g = c.in_ok-read_rec_type.ensures.ok in
    let len = c.in_ok-len.ensures in
    let occurs = rec_type_occurs c.in_ok-len.len c.loop-rec_type.reader c.read_rec_type_len.new.reader c.read_rec_type.new.reader g.0 len.rec_type len.one g.1 g.2 in (
      h.0 ++ g.0 ∷ [],
      rec_type_more c.read_var_u32.new.self h.0 c.loop-rec_type.reader c.read_rec_type.new.reader g.0 h.1 occurs,
      length_push h.0 g.0 ∙ ap (λ n. n + 1) h.2,
      All-push AreKnownTypes h.0 g.0 h.3 g.3,
      g.4 ∙ ap (λ (counts : List ℕ). counts ++ map parameter_count g.0) h.4 ∙ parameters_more h.0 g.0,
    )

pub returns-in_err-rec_types-clause-refused : goal.returns-in_err-rec_types-clause-refused
returns-in_err-rec_types-clause-refused c =
    let p = err_from_is_err_and c.from_residual.result c.from_residual.ensures.1 in
    rw p.1 (λ counts (rec_types, types, known, is). absurd (not_both (EncodesUnsigned 32) c.in_err-rec_types.field-0.0 c.args.contents types.first (length rec_types) c.in_err-rec_types.ensures.1 types.count))

pub returns-in_err-len-clause-refused : goal.returns-in_err-len-clause-refused
returns-in_err-len-clause-refused c =
    let p = err_from_is_err_and c.from_residual-in_err-len.result c.from_residual-in_err-len.ensures.1 in
    rw p.1 (λ counts (rec_types, types, known, is). let h = c.loop-rec_type.invariant in
    let fewer : length h.0 < c.in_ok-rec_types.rec_types = let so = h.2 in let test = c.loop-rec_type-test.true in omega (arith, so, test) in
    let (g, gs, next, parts, occur) = next_rec_type c.types.ensures.rec_type c.types.ensures.one (c.unsigned_numbers.ensures 32) c.args.contents
    c.read_var_u32.new.self c.loop-rec_type.reader c.in_ok-rec_types.rec_types h.0 rec_types c.in_ok-rec_types.ensures h.1 fewer types in
    let len = c.in_err-len.ensures in
    absurd (none_announced (length g) c.in_err-len.field-0.0 c.loop-rec_type.reader c.read_rec_type_len.new.reader occur.0 len.rec_type len.one occur.1))

pub returns-in_err-read_rec_type-clause-refused : goal.returns-in_err-read_rec_type-clause-refused
returns-in_err-read_rec_type-clause-refused c =
    let p = err_from_is_err_and c.from_residual-in_err-read_rec_type.result c.from_residual-in_err-read_rec_type.ensures.1 in
    rw (p.1, p.2) (λ counts (rec_types, types, known, is). let h = c.loop-rec_type.invariant in
    let fewer : length h.0 < c.in_ok-rec_types.rec_types = let so = h.2 in let test = c.loop-rec_type-test.true in omega (arith, so, test) in
    let (g, gs, next, parts, occur) = next_rec_type c.types.ensures.rec_type c.types.ensures.one (c.unsigned_numbers.ensures 32) c.args.contents
    c.read_var_u32.new.self c.loop-rec_type.reader c.in_ok-rec_types.rec_types h.0 rec_types c.in_ok-rec_types.ensures h.1 fewer types in
    let len = c.in_ok-len.ensures in
    let read = c.in_ok-len.len in
    let announced = rec_type_announced read c.loop-rec_type.reader c.read_rec_type_len.new.reader len.rec_type len.one in
    let same = one_announced c.types.ensures.rec_type c.types.ensures.one (length g) read c.loop-rec_type.reader occur.0 c.read_rec_type_len.new.reader occur.1 announced in
    let occurs = subst (λ (r : Reader). ItemsOccur EncodesSubType r g next) same.1 occur.2 in
    c.in_err-read_rec_type.ensures.refused g next same.0 occurs (all_at AreKnownTypes h.0 g gs rec_types parts known))

pub returns-in_err-rec_types-clause-fault : goal.returns-in_err-rec_types-clause-fault
returns-in_err-rec_types-clause-fault c =
    let p = err_from_is_err_and c.from_residual.result c.from_residual.ensures.1 in
    rw p.1 (let read = c.in_err-rec_types.ensures in
    inl (of_refusal (λ f. TypesLengthFault f c.args.contents) c.in_err-rec_types.field-0.0 p.0 p.2 read.1.fault (read.1, read.2)))

pub returns-in_err-len-clause-fault : goal.returns-in_err-len-clause-fault
returns-in_err-len-clause-fault c =
    let p = err_from_is_err_and c.from_residual-in_err-len.result c.from_residual-in_err-len.ensures.1 in
    rw p.1 (let h = c.loop-rec_type.invariant in
    let fewer : length h.0 < c.in_ok-rec_types.rec_types = let so = h.2 in let test = c.loop-rec_type-test.true in omega (arith, so, test) in
    let occur = types_to c.args.contents c.read_var_u32.new.self c.loop-rec_type.reader c.in_ok-rec_types.rec_types h.0 c.in_ok-rec_types.ensures h.1 fewer h.3 in
    let len = c.in_err-len.ensures in
    let refused = announced_refused c.in_err-len.field-0.0 p.0 c.loop-rec_type.reader c.read_rec_type_len.new.reader len.rec_type len.one len.fault
    p.2 in
    inr (c.loop-rec_type.reader, occur, inl refused))

pub returns-in_err-read_rec_type-clause-fault : goal.returns-in_err-read_rec_type-clause-fault
returns-in_err-read_rec_type-clause-fault c =
    let p = err_from_is_err_and c.from_residual-in_err-read_rec_type.result c.from_residual-in_err-read_rec_type.ensures.1 in
    rw (p.1, p.2) (let h = c.loop-rec_type.invariant in
    let fewer : length h.0 < c.in_ok-rec_types.rec_types = let so = h.2 in let test = c.loop-rec_type-test.true in omega (arith, so, test) in
    let occur = types_to c.args.contents c.read_var_u32.new.self c.loop-rec_type.reader c.in_ok-rec_types.rec_types h.0 c.in_ok-rec_types.ensures h.1 fewer h.3 in
    let len = c.in_ok-len.ensures in
    let read = c.in_ok-len.len in
    let announced = rec_type_announced read c.loop-rec_type.reader c.read_rec_type_len.new.reader len.rec_type len.one in
    inr (c.loop-rec_type.reader, occur, inr (read, c.read_rec_type_len.new.reader, announced, c.in_err-read_rec_type.ensures.fault)))
