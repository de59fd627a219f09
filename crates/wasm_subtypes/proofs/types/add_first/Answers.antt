use Rattle.std.proofs.Common.{◌++◌, length, refl, sym, ap, subst, ◌∙◌}
use Rattle.wasm_subtypes.specs.Types.{placed}
use Rattle.wasm_subtypes.specs.Keys.{AreIndexed, Puts}
use Rattle.wasm_subtypes.proofs.Indexed.{indexed_first}
use Rattle.wasm_subtypes.proofs.types.add_first.Goals as goal

pub invariant_of-result : goal.invariant_of-result
invariant_of-result c =
    let more = c.keep.new.starts.entries in
    subst (λ l. AreIndexed l more) (sym (c.in-Ok.ensures.placed ∙ ap (λ n. c.args.list ++ placed (length c.args.list) n c.args.group.items) c.len-first.ensures))
    (indexed_first c.args.list c.args.starts.entries c.requires.indexed c.args.group.items c.requires.some c.args.key.items c.requires.key more c.requires.none
    (subst (Puts c.args.starts.entries more c.args.key.items) c.len-first.ensures (c.if-not-keep.ensures refl)))
