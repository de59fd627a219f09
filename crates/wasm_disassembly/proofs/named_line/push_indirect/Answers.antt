use Rattle.std.proofs.Common.{◌++◌, ap, ◌∙◌, string_bytes}
use Rattle.wasm_disassembly.specs.Disassembly.{named_index}
use Rattle.wasm_disassembly.proofs.Calls.{five_texts}
use Rattle.wasm_disassembly.proofs.named_line.push_indirect.Goals as goal

pub returns : goal.returns
returns c = five_texts c.push_str-3.result (string_bytes c.args.out.now) (string_bytes c.push_str.new.self) (string_bytes c.push_index.new.out) (string_bytes c.push_str-2.new.self)
    (string_bytes c.push_index-2.new.out) (string_bytes c.push_str-3.new.self) _ _ _ _ _ c.in_ok-push_str.ensures.bytes
    (c.in_ok-push_index.ensures ∙ ap (λ n. string_bytes c.push_str.new.self ++ named_index c.args.table_index n) c.table.ensures) c.in_ok-push_str-2.ensures.bytes
    (c.in_ok-push_index-2.ensures ∙ ap (λ n. string_bytes c.push_str-2.new.self ++ named_index c.args.type_index n) c.ty.ensures) c.push_str-3.ensures.bytes
