use Rattle.std.proofs.Common.{◌≡◌, ◌+◌, ◌<◌, [], ◌∷◌, ◌++◌, length, sym, subst, ap, ◌∙◌, inl, inr, rules, arith}
use Rattle.std.proofs.lemmas.List.{length_push}
use Rattle.std.proofs.lemmas.Result.{err_from_is_err_and}
use Rattle.wasm_below.specs.Number.{EncodesUnsigned}
use Rattle.wasm_module.specs.Items.{ItemsOccur}
use Rattle.wasm_module.specs.Refusals.{FunctionsFault, IsAny}
use Rattle.wasm_module.proofs.NamedFunctions.{not_both}
use Rattle.wasm_module.proofs.NextItems.{none_refused}
use Rattle.wasm_module.proofs.Listed.{item_more}
use Rattle.wasm_module.proofs.Refused.{of_refusal, any_items, items_to}
use Rattle.wasm_module.proofs.types.function_types.Goals as goal

pub loop-function-preserved : goal.loop-function-preserved
loop-function-preserved c =
    let h = c.loop-function.invariant in
    let types = c.loop-function.types.items in
    let ty = c.in_ok-ty.ty in
    let pushed : c.push.new.self.items ≡ types ++ ty ∷ [] = search rules in
    let first = c.read_var_u32.new.self in
    let now = c.read_var_u32-in-loop-function.new.self in
    let occur = item_more (EncodesUnsigned 32) first types c.loop-function.reader now ty h.0 c.in_ok-ty.ensures in (
      subst (λ xs. ItemsOccur (EncodesUnsigned 32) first xs now) (sym pushed) occur,
      ap length pushed ∙ length_push types ty ∙ ap (λ n. n + 1) h.1,
    )

pub returns-in_err-count-clause-refused : goal.returns-in_err-count-clause-refused
returns-in_err-count-clause-refused c =
    let p = err_from_is_err_and c.from_residual.result c.from_residual.ensures.1 in
    rw p.1 (λ types list. absurd (not_both (EncodesUnsigned 32) c.in_err-count.field-0.0 c.args.contents list.first (length types) c.in_err-count.ensures.1 list.count))

pub returns-in_err-ty-clause-refused : goal.returns-in_err-ty-clause-refused
returns-in_err-ty-clause-refused c =
    let p = err_from_is_err_and c.from_residual-in_err-ty.result c.from_residual-in_err-ty.ensures.1 in
    rw p.1 (λ types list. let h = c.loop-function.invariant in
    let fewer : length c.loop-function.types.items < c.in_ok-count.count = let so = h.1 in let test = c.loop-function-test.true in omega (arith, so, test) in
    let numbers = c.unsigned_numbers.ensures 32 in
    absurd (none_refused (EncodesUnsigned 32) numbers numbers c.args.contents c.read_var_u32.new.self c.loop-function.reader c.in_ok-count.count
    c.loop-function.types.items types c.in_err-ty.field-0.0 c.in_ok-count.ensures h.0 fewer c.in_err-ty.ensures.1 list))

pub returns-in_err-count-clause-fault : goal.returns-in_err-count-clause-fault
returns-in_err-count-clause-fault c =
    let p = err_from_is_err_and c.from_residual.result c.from_residual.ensures.1 in
    rw p.1 (let read = c.in_err-count.ensures in
    of_refusal (λ f. FunctionsFault f c.args.contents) c.in_err-count.field-0.0 p.0 p.2 read.1.fault (inl (read.1, read.2)))

pub returns-in_err-ty-clause-fault : goal.returns-in_err-ty-clause-fault
returns-in_err-ty-clause-fault c =
    let p = err_from_is_err_and c.from_residual-in_err-ty.result c.from_residual-in_err-ty.ensures.1 in
    rw p.1 (let h = c.loop-function.invariant in
    let fewer : length c.loop-function.types.items < c.in_ok-count.count = let so = h.1 in let test = c.loop-function-test.true in omega (arith, so, test) in
    let occur = items_to (EncodesUnsigned 32) IsAny c.args.contents c.read_var_u32.new.self c.loop-function.reader c.in_ok-count.count c.loop-function.types.items
    c.in_ok-count.ensures h.0 fewer (any_items c.loop-function.types.items) in
    let read = c.in_err-ty.ensures in
    of_refusal (λ f. FunctionsFault f c.args.contents) c.in_err-ty.field-0.0 p.0 p.2 read.1.fault
    (inr (c.loop-function.reader, occur, (read.1, read.2))))

pub returns-then-is_err-clause-fault : goal.returns-then-is_err-clause-fault
returns-then-is_err-clause-fault c =
    let h = c.loop-function.invariant in
    let fewer : length c.loop-function.types.items < c.in_ok-count.count = let so = h.1 in let test = c.loop-function-test.true in omega (arith, so, test) in
    let occur = items_to (EncodesUnsigned 32) IsAny c.args.contents c.read_var_u32.new.self c.loop-function.reader c.in_ok-count.count c.loop-function.types.items
    c.in_ok-count.ensures h.0 fewer (any_items c.loop-function.types.items) in
    (c.loop-function.reader, occur, c.in_ok-ty.ty, c.read_var_u32-in-loop-function.new.self, c.in_ok-ty.ensures, tt)
