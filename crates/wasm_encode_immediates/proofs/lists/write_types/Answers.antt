use Rattle.std.proofs.Common.{sym, subst, ◌∙◌, arith}
use Rattle.wasm_below.specs.TypeEncoding.{EncodesValType}
use Rattle.wasm_imm.specs.HandlerTables.{max_select_types}
use Rattle.wasm_imm.specs.Lists.{EncodesList}
use Rattle.wasm_encode_immediates.specs.Lists.{HasListReason}
use Rattle.wasm_encode_immediates.specs.Written.{WritesText}
use Rattle.wasm_encode_immediates.proofs.ListTexts.{types_written, single_fails}
use Rattle.wasm_encode_immediates.proofs.lists.write_types.Goals as goal

pub returns-then-count-eq1 : goal.returns-then-count-eq1
returns-then-count-eq1 c = (single_fails c.args._features c.args.tys.now _ (sym c.len-count.ensures ∙ c.if-count-eq1.true), omega arith)

pub returns : goal.returns
returns c =
    let r = c.write_members.result in
    let written = subst (λ xs. WritesText (EncodesList max_select_types EncodesValType) (HasListReason max_select_types) xs r c.args.out.now.items c.write_members.new.out.items) c.as_slice.ensures c.write_members.ensures.0 in
    (types_written c.args._features c.args.tys.now r _ _ (λ one. c.if-count-eq1.false (c.len-count.ensures ∙ one)) written, c.write_members.ensures.1)
