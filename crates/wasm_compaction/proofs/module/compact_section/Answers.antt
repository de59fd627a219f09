use Rattle.std.proofs.Common.{◌≡◌, [], ◌∷◌, ◌++◌, subst, rules}
use Rattle.std.proofs.lemmas.Result.{on_ok_weaker}
use Rattle.wasm_below.specs.Features.{all_features}
use Rattle.wasm_below.specs.Source.{rest}
use Rattle.wasm_compaction.specs.Compaction.{HasFate}
use Rattle.wasm_compaction.proofs.Sections.{code_below, code_replaced, dropped_appended, kept_appended}
use Rattle.wasm_compaction.proofs.module.compact_section.Goals as goal

pub append_block-requires : goal.append_block-requires
append_block-requires c =
    code_below all_features c.args.text.now c.compact_code.new.out.items c.as_slice.result.now c.contents.result c.args.section.now c.requires
    c.contents.ensures c.in_ok-compact_code.ensures.compacts c.as_slice.ensures.value

pub returns-then-id-eq-CODE-clause-appends : goal.returns-then-id-eq-CODE-clause-appends
returns-then-id-eq-CODE-clause-appends c =
    let id : c.args.section.now.id ≡ 10 = search rules in
    let one : c.append_bytes.new.out.items ≡ c.args.out.now.items ++ 10 ∷ [] = search rules in
    on_ok_weaker c.append_block.result
    (λ a. code_replaced c.args.choices c.args.text.now c.compact_code.new.out.items c.as_slice.result.now c.args.out.now.items c.append_bytes.new.out.items
    c.append_block.new.out.items c.contents.result c.args.section.now c.requires id c.contents.ensures c.in_ok-compact_code.ensures.compacts one
    c.as_slice.ensures.value a)
    c.append_block.ensures.appends

pub returns-then-dropped-clause-appends : goal.returns-then-dropped-clause-appends
returns-then-dropped-clause-appends c =
    let id : c.args.section.now.id ≡ 0 = search rules in
    dropped_appended c.args.choices c.args.text.now c.args.out.now.items c.args.section.now c.requires id
    (subst (λ b. HasFate c.args.choices (rest c.args.section.now.contents) b) c.if-dropped.true c.in_ok-dropped.ensures.fate)

pub returns-then-id-eq-CUSTOM-clause-appends : goal.returns-then-id-eq-CUSTOM-clause-appends
returns-then-id-eq-CUSTOM-clause-appends c =
    let other : c.args.section.now.id ≡ 10 → ⊥ = search rules in
    on_ok_weaker c.append_bytes-then-id-eq-CUSTOM.result
    (λ a. kept_appended c.args.choices c.args.text.now c.args.out.now.items c.append_bytes-then-id-eq-CUSTOM.new.out.items c.args.section.now c.requires other
    (λ id. subst (λ b. HasFate c.args.choices (rest c.args.section.now.contents) b) c.if-dropped.false c.in_ok-dropped.ensures.fate) a)
    c.append_bytes-then-id-eq-CUSTOM.ensures.appends

pub returns-clause-appends : goal.returns-clause-appends
returns-clause-appends c =
    let other : c.args.section.now.id ≡ 10 → ⊥ = search rules in
    let custom : c.args.section.now.id ≡ 0 → ⊥ = search rules in
    on_ok_weaker c.append_bytes-2.result
    (λ a. kept_appended c.args.choices c.args.text.now c.args.out.now.items c.append_bytes-2.new.out.items c.args.section.now c.requires other
    (λ id. absurd (custom id)) a)
    c.append_bytes-2.ensures.appends
