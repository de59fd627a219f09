use Rattle.std.proofs.Common.{◌+◌, [], ◌∷◌, ◌++◌, set, refl, sym, ap, ◌∙◌, inr}
use Rattle.std.proofs.lemmas.List.{length_push}
use Rattle.wasm_module.specs.Names.{EncodesNameAssociation}
use Rattle.wasm_module.specs.FunctionNames.{bytes_of}
use Rattle.wasm_module.proofs.Listed.{item_more}
use Rattle.wasm_module.proofs.NamedFunctions.{names_more}
use Rattle.wasm_module.proofs.names.name_associations.Goals as goal

pub returns-in-Err : goal.returns-in-Err
returns-in-Err c = ([], inr (inr (c.in-Err.field-0, c.in-Err.ensures.1, refl)), refl)

pub loop-name-preserved : goal.loop-name-preserved
loop-name-preserved c =
    let h = c.loop-name.invariant in
    let named = c.in-Ok-read.named in
    let names = bytes_of c.loop-name.names.items in (
      h.0 ++ named ∷ [],
      item_more EncodesNameAssociation c.read_var_u32.new.self h.0 c.loop-name.reader c.read.new.reader named h.1 c.in-Ok-read.ensures,
      length_push h.0 named ∙ ap (λ n. n + 1) h.2,
      c.set_name.ensures ∙ ap (λ i. set names i c.name.result.now) c.index.ensures ∙
          ap (λ name. set names named.index name) c.name.ensures ∙ ap (λ z. set z named.index named.name) h.3 ∙
          sym (names_more (bytes_of c.args.names.now.items) h.0 named),
    )
