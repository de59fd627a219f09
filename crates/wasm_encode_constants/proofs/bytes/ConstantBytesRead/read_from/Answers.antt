use Rattle.std.proofs.Common.{ap, ◌∙◌}
use Rattle.wasm_below.specs.Source.{rest}
use Rattle.wasm_encode_constants.proofs.BytesReads.{bytes_read, bytes_fail}
use Rattle.wasm_encode_constants.proofs.bytes.ConstantBytesRead.read_from.Goals as goal

pub returns-in-Ok : goal.returns-in-Ok
returns-in-Ok c = bytes_read c.in-Ok.expression c.in-Ok.ensures.reads (c.remaining_buffer.ensures ∙ ap rest c.get_binary_reader-contents.ensures)

pub returns-in-Err : goal.returns-in-Err
returns-in-Err c = bytes_fail c.in-Err.ensures.reads
