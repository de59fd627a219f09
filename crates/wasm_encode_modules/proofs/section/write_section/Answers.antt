use Rattle.std.proofs.Common.{◌∙◌}
use Rattle.wasm_write_grammars.proofs.Owing.{cut_back}
use Rattle.wasm_encode_modules.proofs.section.write_section.Goals as goal

pub returns-in-Err : goal.returns-in-Err
returns-in-Err c =
    let (extends, why) = c.in-Err.ensures in
    (cut_back c.len-start.result (c.len-start.ensures ∙ c.args.out.now.ok.0) extends c.truncate.ensures.items, why)
