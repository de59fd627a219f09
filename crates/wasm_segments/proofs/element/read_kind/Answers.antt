use Rattle.std.proofs.Common.{refl, sym, subst, ap, ◌∙◌}
use Rattle.wasm_below.specs.Source.{offset_of}
use Rattle.wasm_grammars.specs.Grammar.{HasReadBy}
use Rattle.wasm_grammars.specs.Reading.{Fails}
use Rattle.wasm_grammars.proofs.Steps.{begins, then, yes, no, read_by_features, fails_by_features, fails_in, ends, ends_as, failed}
use Rattle.wasm_segments.specs.Flags.{index_if}
use Rattle.wasm_segments.specs.Elements.{element_kind, inactive}
use Rattle.wasm_segments.proofs.element.read_kind.Goals as goal

pub returns-then-is_set : goal.returns-then-is_set
returns-then-is_set g c =
    let kind = begins (element_kind (g.C.Read.grammar c.args.reader.now.features) c.args.flags) refl in
    ends_as (yes kind (sym c.is_set.ensures ∙ c.if-is_set.true)) (ap inactive (sym c.is_set-second.ensures) ∙ sym c.inactive.ensures)

pub returns-in_err-table_index : goal.returns-in_err-table_index
returns-in_err-table_index g c =
    let old = c.args.reader.now in
    let active = no (begins (element_kind (g.C.Read.grammar old.features) c.args.flags) refl) (sym c.is_set.ensures ∙ c.if-is_set.false) in
    let error = subst (λ b. Fails (index_if b) (offset_of old) c.in_err-table_index.field-0.0 old) c.is_set-second.ensures c.in_err-table_index.ensures.1 in
    failed _ _ c.from_residual.ensures.1 (fails_in active error)

pub returns-in_err-offset_expr : goal.returns-in_err-offset_expr
returns-in_err-offset_expr g c =
    let old = c.args.reader.now in
    let active = no (begins (element_kind (g.C.Read.grammar old.features) c.args.flags) refl) (sym c.is_set.ensures ∙ c.if-is_set.false) in
    let found = subst (λ b. HasReadBy (index_if b) c.in_ok-table_index.table_index old c.read_index.new.reader) c.is_set-second.ensures c.in_ok-table_index.ensures in
    let index = then active found in
    failed _ _ c.from_residual-in_err-offset_expr.ensures.1 (fails_in index (fails_by_features (g.C.Read.grammar) index c.in_err-offset_expr.ensures.1))

pub returns : goal.returns
returns g c =
    let old = c.args.reader.now in
    let active = no (begins (element_kind (g.C.Read.grammar old.features) c.args.flags) refl) (sym c.is_set.ensures ∙ c.if-is_set.false) in
    let found = subst (λ b. HasReadBy (index_if b) c.in_ok-table_index.table_index old c.read_index.new.reader) c.is_set-second.ensures c.in_ok-table_index.ensures in
    let index = then active found in
    ends (then index (read_by_features (g.C.Read.grammar) index _ c.in_ok-offset_expr.ensures))
