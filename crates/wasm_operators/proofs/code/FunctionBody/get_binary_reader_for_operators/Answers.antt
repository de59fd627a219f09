use Rattle.std.proofs.Common.{◌≡◌, ◌<◌, ◌++◌, ◌∷◌, [], refl, subst, ◌∙◌, arith}
use Rattle.wasm_below.specs.Source.{Reader}
use Rattle.wasm_below.proofs.TakesLemmas.{takes_none, takes_then}
use Rattle.wasm_imm.specs.Lists.{EncodesMany}
use Rattle.wasm_imm.proofs.ListLemmas.{many_more}
use Rattle.wasm_operators.specs.Locals.{EncodesDeclaration, RefusesLocals, IsPastLocals}
use Rattle.wasm_operators.proofs.LocalsLemmas.{count_refused, declaration_refused, locals_read}
use Rattle.wasm_operators.proofs.code.FunctionBody.get_binary_reader_for_operators.Goals as goal

pub returns-in-Err : goal.returns-in-Err
returns-in-Err c =
    subst (λ (r : Reader). RefusesLocals c.in-Err.e r) (c.clone-reader.ensures ∙ c.self.view_is)
    (count_refused c.in-Err.e c.clone-reader.result c.in-Err.ensures.1 c.in-Err.ensures.2)

pub loop-declaration-init : goal.loop-declaration-init
loop-declaration-init c = ([], [], (refl, refl), takes_none c.read_var_u32.new.self)

pub returns-in-Err-read_declaration : goal.returns-in-Err-read_declaration
returns-in-Err-read_declaration c =
    let i = c.loop-declaration.invariant in
    let h = c.in-Err-read_declaration.ensures in
    let more : c.loop-declaration._declaration < c.in-Ok.count = omega (arith, c.loop-declaration-test.true) in
    subst (λ (r : Reader). RefusesLocals c.in-Err-read_declaration.e r) (c.clone-reader.ensures ∙ c.self.view_is)
    (declaration_refused c.in-Err-read_declaration.e c.clone-reader.result c.read_var_u32.new.self c.loop-declaration.reader c.in-Ok.count
    c.loop-declaration._declaration i.0 i.1 c.in-Ok.ensures i.2 more i.3 h.1 h.2)

pub loop-declaration-preserved : goal.loop-declaration-preserved
loop-declaration-preserved c =
    let i = c.loop-declaration.invariant in
    let r = c.in-Ok-read_declaration.ensures in (
      i.0 ++ r.0,
      i.1 ++ c.in-Ok-read_declaration.field-0 ∷ [],
      many_more EncodesDeclaration c.loop-declaration._declaration i.0 r.0 i.1 c.in-Ok-read_declaration.field-0 i.2 r.1,
      takes_then c.read_var_u32.new.self c.loop-declaration.reader c.read_declaration.new.reader i.0 r.0 i.3 r.2,
    )

pub returns : goal.returns
returns c =
    let i = c.loop-declaration.invariant in
    let all : c.loop-declaration._declaration ≡ c.in-Ok.count = omega arith in
    let many : EncodesMany EncodesDeclaration c.in-Ok.count i.0 i.1 = (i.2.0 ∙ all, i.2.1) in (
      i.1,
      subst (λ (r : Reader). IsPastLocals i.1 r c.loop-declaration.reader) (c.clone-reader.ensures ∙ c.self.view_is)
          (locals_read c.clone-reader.result c.read_var_u32.new.self c.loop-declaration.reader c.in-Ok.count i.0 i.1 c.in-Ok.ensures many i.3),
    )
