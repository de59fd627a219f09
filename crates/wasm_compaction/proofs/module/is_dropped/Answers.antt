use Rattle.std.proofs.Common.{ap, ◌∙◌, inl}
use Rattle.wasm_below.specs.Source.{offset_of}
use Rattle.wasm_compaction.proofs.Fates.{named_in, has_kind, offsets_refused, relocations_refused}
use Rattle.wasm_compaction.proofs.module.is_dropped.Goals as goal

pub returns-then-choices-clause-fate : goal.returns-then-choices-clause-fate
returns-then-choices-clause-fate c = (
  c.in-Ok.custom.name,
  named_in c.args.section.now.contents c.contents.result c.in-Ok.custom.contents c.in-Ok.custom.name c.contents.ensures c.in-Ok.ensures.name,
  (has_kind c.in-Ok.custom.name c.name-name.result.now c.custom_kind.result _ c.name-name.ensures c.custom_kind.ensures c.in-Offsets.is, c.if-choices.true),
)

pub returns-in-Independent-clause-fate : goal.returns-in-Independent-clause-fate
returns-in-Independent-clause-fate c = (
  c.in-Ok.custom.name,
  named_in c.args.section.now.contents c.contents.result c.in-Ok.custom.contents c.in-Ok.custom.name c.contents.ensures c.in-Ok.ensures.name,
  inl (has_kind c.in-Ok.custom.name c.name-name.result.now c.custom_kind.result _ c.name-name.ensures c.custom_kind.ensures c.in-Independent.is),
)

pub returns-else-choices-clause-refuses : goal.returns-else-choices-clause-refuses
returns-else-choices-clause-refuses c =
    offsets_refused c.args.choices c.original_position-offset.result c.args.section.now.contents c.in-Ok.custom.name
    (named_in c.args.section.now.contents c.contents.result c.in-Ok.custom.contents c.in-Ok.custom.name c.contents.ensures c.in-Ok.ensures.name)
    (has_kind c.in-Ok.custom.name c.name-name.result.now c.custom_kind.result _ c.name-name.ensures c.custom_kind.ensures c.in-Offsets.is)
    c.if-choices.false (c.original_position-offset.ensures ∙ ap offset_of c.contents-2.ensures)

pub returns-in-Relocations-clause-refuses : goal.returns-in-Relocations-clause-refuses
returns-in-Relocations-clause-refuses c =
    relocations_refused c.args.choices c.original_position-offset.result c.args.section.now.contents c.in-Ok.custom.name
    (named_in c.args.section.now.contents c.contents.result c.in-Ok.custom.contents c.in-Ok.custom.name c.contents.ensures c.in-Ok.ensures.name)
    (has_kind c.in-Ok.custom.name c.name-name.result.now c.custom_kind.result _ c.name-name.ensures c.custom_kind.ensures c.in-Relocations.is)
    (c.original_position-offset.ensures ∙ ap offset_of c.contents-2.ensures)
