use Rattle.std.proofs.Common.{◌≡◌, [], ◌∷◌, ◌++◌, Option, refl, sym, subst, ap, ◌∙◌, inl, inr, rules}
use Rattle.wasm_below.specs.Source.{Reader, rest}
use Rattle.wasm_module.specs.Names.{EncodesNameAssociation}
use Rattle.wasm_module.specs.FunctionNames.{bytes_of, with_names, ReadsItems}
use Rattle.wasm_module.specs.Growth.{Growing}
use Rattle.wasm_module.specs.declared.function_names.FunctionName.{FunctionName}
use Rattle.wasm_module.specs.Sections.{or_first}
use Rattle.wasm_module.proofs.NamedFunctions.{not_first}
use Rattle.wasm_module.proofs.Occurring.{one_more, first_more}
use Rattle.wasm_module.proofs.names.name_functions.Goals as goal

pub returns-in-Err : goal.returns-in-Err
returns-in-Err c =
    let h = c.sections.invariant in (
      [],
      record { before = h.0; mid = c.sections.reader; occur = h.1; others = h.2; gives = inr (refl, inr (c.in-Err.field-0, c.in-Err.ensures.reads.1)) },
      ap (λ (v : Growing FunctionName). bytes_of v.items) h.3,
    )

pub returns-then-id-eq-FUNCTION_NAMES : goal.returns-then-id-eq-FUNCTION_NAMES
returns-then-id-eq-FUNCTION_NAMES c =
    let h = c.sections.invariant in
    let a = c.name_associations.ensures in
    let reads = subst (λ (r : Reader). ReadsItems EncodesNameAssociation r a.0) c.contents.ensures a.1 in
    let gives = inl (c.in-Ok.section, c.read_section.new.reader, c.in-Ok.ensures.reads, sym c.id.ensures ∙ c.if-id-eq-FUNCTION_NAMES.true, reads) in (
      a.0,
      record { before = h.0; mid = c.sections.reader; occur = h.1; others = h.2; gives = gives },
      a.2 ∙ ap (λ (v : Growing FunctionName). with_names (bytes_of v.items) a.0) h.3,
    )

pub sections-preserved : goal.sections-preserved
sections-preserved c =
    let h = c.sections.invariant in
    let s = c.in-Ok.section in (
      h.0 ++ s ∷ [],
      one_more c.args.contents h.0 c.sections.reader c.read_section.new.reader s h.1 c.in-Ok.ensures.reads c.in-Ok.ensures.placed,
      first_more 1 h.0 s ∙ ap (λ (found : Option Reader). or_first found s 1) h.2 ∙
          not_first s 1 (λ is. c.if-id-eq-FUNCTION_NAMES.false (c.id.ensures ∙ is)),
      h.3,
    )

pub returns : goal.returns
returns c =
    let h = c.sections.invariant in
    let end : rest c.sections.reader ≡ [] = search rules in (
      [],
      record { before = h.0; mid = c.sections.reader; occur = h.1; others = h.2; gives = inr (refl, inl end) },
      ap (λ (v : Growing FunctionName). bytes_of v.items) h.3,
    )
