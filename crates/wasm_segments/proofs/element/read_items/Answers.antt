use Rattle.std.proofs.Common.{refl, sym, ◌∙◌}
use Rattle.wasm_grammars.specs.Parts.{u32}
use Rattle.wasm_grammars.proofs.Steps.{begins, then, yes, no, read_by_features, fails_by_features, fails_in, ends, failed}
use Rattle.wasm_segments.specs.Elements.{element_items}
use Rattle.wasm_segments.specs.Items.{items}
use Rattle.wasm_segments.proofs.element.read_items.Goals as goal

pub returns-in_err-ty : goal.returns-in_err-ty
returns-in_err-ty g c =
    let features = c.args.reader.now.features in
    let list = yes (begins (element_items features (g.C.Read.grammar features) c.args.flags) refl) (sym c.is_set.ensures ∙ c.if-is_set.true) in
    failed _ _ c.from_residual.ensures.1 (fails_in list c.in_err-ty.ensures.1)

pub returns-in_err-items : goal.returns-in_err-items
returns-in_err-items g c =
    let features = c.args.reader.now.features in
    let list = yes (begins (element_items features (g.C.Read.grammar features) c.args.flags) refl) (sym c.is_set.ensures ∙ c.if-is_set.true) in
    let ty = then list c.in_ok-ty.ensures in
    failed _ _ c.from_residual-in_err-items.ensures.1 (fails_in ty (fails_by_features (λ f. items f (g.C.Read.grammar f)) ty c.in_err-items.ensures.1))

pub returns-then-is_set : goal.returns-then-is_set
returns-then-is_set g c =
    let features = c.args.reader.now.features in
    let list = yes (begins (element_items features (g.C.Read.grammar features) c.args.flags) refl) (sym c.is_set.ensures ∙ c.if-is_set.true) in
    let ty = then list c.in_ok-ty.ensures in
    ends (then ty (read_by_features (λ f. items f (g.C.Read.grammar f)) ty _ c.in_ok-items.ensures))

pub returns-in_err-read_function_kind : goal.returns-in_err-read_function_kind
returns-in_err-read_function_kind g c =
    let features = c.args.reader.now.features in
    let list = no (begins (element_items features (g.C.Read.grammar features) c.args.flags) refl) (sym c.is_set.ensures ∙ c.if-is_set.false) in
    failed _ _ c.from_residual-in_err-read_function_kind.ensures.1 (fails_in list c.in_err-read_function_kind.ensures.1)

pub returns-in_err-items-2 : goal.returns-in_err-items-2
returns-in_err-items-2 g c =
    let features = c.args.reader.now.features in
    let list = no (begins (element_items features (g.C.Read.grammar features) c.args.flags) refl) (sym c.is_set.ensures ∙ c.if-is_set.false) in
    let kind = then list c.in_ok-read_function_kind.ensures in
    failed _ _ c.from_residual-in_err-items-2.ensures.1 (fails_in kind (fails_by_features (λ f. items f u32) kind c.in_err-items-2.ensures.1))

pub returns : goal.returns
returns g c =
    let features = c.args.reader.now.features in
    let list = no (begins (element_items features (g.C.Read.grammar features) c.args.flags) refl) (sym c.is_set.ensures ∙ c.if-is_set.false) in
    let kind = then list c.in_ok-read_function_kind.ensures in
    ends (then kind (read_by_features (λ f. items f u32) kind _ c.in_ok-items-2.ensures))
