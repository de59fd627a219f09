use Rattle.std.proofs.Common.{◌≡◌, ◌++◌, OnOk, string_bytes, sym, subst, ap, ◌∙◌}
use Rattle.wasm_below.specs.declared.types.HeapType.TheVariants as heap
use Rattle.wasm_constant_texts.specs.ConstantTexts.{null_text}
use Rattle.wasm_constant_texts.proofs.texts.push_null.Goals as goal

pub returns-then-shared : goal.returns-then-shared
returns-then-shared c =
    subst (λ h. OnOk c.push_typed_null.result (string_bytes c.push_typed_null.new.out ≡ string_bytes c.args.out.now ++ null_text h c.args.op.now))
    (sym (c.in-Abstract.is ∙ ap (λ b. heap.Abstract b c.in-Abstract.ty) c.if-shared.true)) c.push_typed_null.ensures
