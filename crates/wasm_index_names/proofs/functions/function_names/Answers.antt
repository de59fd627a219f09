use Rattle.std.proofs.Common.{map, sym, ap, ◌∙◌}
use Rattle.std.specs.Prelude.{string_bytes}
use Rattle.wasm_below.specs.Source.{reader_of}
use Rattle.wasm_index_names.proofs.Unnamed.{none_known}
use Rattle.wasm_index_names.proofs.functions.function_names.Goals as goal

pub returns-else-is_memory : goal.returns-else-is_memory
returns-else-is_memory c =
    none_known (reader_of c.args.features 0 c.args.bytes.now) c.in-Err.fault (map string_bytes c.new-in-Err.result.items) c.in-Err.ensures.refused
    (sym c.is_memory.ensures ∙ c.if-is_memory.false) (ap (λ names. map string_bytes names) c.new-in-Err.ensures.items)
