use Rattle.std.proofs.Common.{◌≡◌, ◌++◌, OnOk, string_bytes, sym, subst, ap, ◌∙◌}
use Rattle.wasm_text.specs.Lines.{shown_name, change_in, depth_of}
use Rattle.wasm_text.specs.Operands.{text_of}
use Rattle.wasm_text.specs.Rows.{line_of}
use Rattle.wasm_disassembly.specs.Disassembly.{BodyNames}
use Rattle.wasm_disassembly.proofs.Calls.{named_other}
use Rattle.wasm_disassembly.proofs.named_line.write_named_line.Goals as goal

pub returns-in_default : goal.returns-in_default
returns-in_default c =
    let names : BodyNames = record { index = c.args.function; names = c.args.names.now } in
    let text = ap (λ n. text_of c.args.op.now ++ shown_name n) c.operator_name.ensures ∙ sym (named_other names c.args.op.now c.in_default.not-CallIndirect) in
    record {
      lines = subst (λ t. OnOk c.write_line.result (string_bytes c.write_line.new.out ≡ string_bytes c.args.out.now ++ line_of (depth_of (change_in c.args.bytes.now) c.args.depth) c.args.offset c.args.bytes.now t)) text c.write_line.ensures.lines;
      after = c.write_line.ensures.after;
    }
