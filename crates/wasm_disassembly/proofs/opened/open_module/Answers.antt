use Rattle.wasm_disassembly.proofs.opened.open_module.Goals as goal

pub returns-clause-refuses : goal.returns-clause-refuses
returns-clause-refuses c =
    let (sections, is_module, found) = c.in-Ok.ensures.ok.section_of_imports in
    absurd (c.in-Err-find_section.ensures.refused sections is_module)
