use Rattle.std.proofs.Common.{refl, sym, subst}
use Rattle.wasm_module.specs.declared.fault.ModuleFault.TheVariants as fault
use Rattle.wasm_below.specs.Source.{reader_of}
use Rattle.wasm_module.specs.ModuleFunctions.{DescribesFunctions}
use Rattle.wasm_module.specs.Refusals.{ModuleFunctionsFault}
use Rattle.wasm_module.specs.Sections.{IsSection}
use Rattle.wasm_module.specs.Bodies.{DeclaresIn}
use Rattle.wasm_module.proofs.Opened.{count_refused}
use Rattle.wasm_module.proofs.bodies.open_bodies.Goals as goal

pub returns-in-Err-clause-fault : goal.returns-in-Err-clause-fault
returns-in-Err-clause-fault c =
    subst (λ f. ModuleFunctionsFault c.in-Err.fault (reader_of f 0 c.args.bytes.now)) c.all-features.ensures c.in-Err.ensures.fault

pub returns-in-Err-read_count-clause-fault : goal.returns-in-Err-read_count-clause-fault
returns-in-Err-read_count-clause-fault c =
    let e = c.in-Err-read_count.e in
    let whole = reader_of c.all-features.result 0 c.args.bytes.now in
    subst (λ f. ModuleFunctionsFault (fault.Refused e) (reader_of f 0 c.args.bytes.now)) c.all-features.ensures
    (count_refused whole c.in-Ok.functions c.in-Ok-find_section.contents e c.in-Ok.ensures.ok c.in-Ok-find_section.ensures.ok
    c.in-Err-read_count.ensures.refused)

pub returns-then-bodies_count-functions_count-clause-fault : goal.returns-then-bodies_count-functions_count-clause-fault
returns-then-bodies_count-functions_count-clause-fault c =
    let b = c.args.bytes.now in
    let same = c.all-features.ensures in
    let third = c.in-Ok-find_section.contents in
    let tenth = c.in-Ok-find_section-2.contents in (
      (c.in-Ok.functions, subst (λ f. DescribesFunctions (reader_of f 0 b) c.in-Ok.functions) same c.in-Ok.ensures.ok),
      (
        c.in-Ok-read_count.found.0,
        c.in-Ok-read_count-2.found.0,
        c.in-Ok-read_count.found.1,
        c.in-Ok-read_count-2.found.1,
        (third, subst (λ f. IsSection (reader_of f 0 b) 3 third) same c.in-Ok-find_section.ensures.ok, c.in-Ok-read_count.ensures.declares),
        (tenth, subst (λ f. IsSection (reader_of f 0 b) 10 tenth) same c.in-Ok-find_section-2.ensures.ok, c.in-Ok-read_count-2.ensures.declares),
        c.if-bodies_count-functions_count.true,
      ),
    )

pub returns-clause-opens : goal.returns-clause-opens
returns-clause-opens c =
    let b = c.args.bytes.now in
    let same = c.all-features.ensures in
    let third = c.in-Ok-find_section.contents in
    let tenth = c.in-Ok-find_section-2.contents in
    let types : DeclaresIn b 3 c.in-Ok-read_count.found.0 c.in-Ok-read_count.found.1 =
    (third, subst (λ f. IsSection (reader_of f 0 b) 3 third) same c.in-Ok-find_section.ensures.ok, c.in-Ok-read_count.ensures.declares) in
    record {
      functions = c.in-Ok.functions;
      described = subst (λ f. DescribesFunctions (reader_of f 0 b) c.in-Ok.functions) same c.in-Ok.ensures.ok;
      types = subst (λ n. DeclaresIn b 3 n c.in-Ok-read_count.found.1) (sym c.if-bodies_count-functions_count.false) types;
      code = (tenth, subst (λ f. IsSection (reader_of f 0 b) 10 tenth) same c.in-Ok-find_section-2.ensures.ok, c.in-Ok-read_count-2.ensures.declares);
      imported = c.index.ensures;
      read = refl;
      reserved = refl;
    }
