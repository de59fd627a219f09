use Rattle.std.proofs.Common.{◌≡◌, ℕ, List, Option, Some, None, sym, ◌∙◌}
use Rattle.wasm_imm.specs.Immediate.{Kind}
use Rattle.wasm_decode_opcodes.specs.Entry.{free}
use Rattle.wasm_decode_opcodes.specs.Entries.{entry_at}
use Rattle.wasm_decode_opcodes.proofs.OperatorLemmas.{IsCode}
use Rattle.wasm_decode_groups.specs.Arms.{IsCodeAfter}

pub is_code : (p : Option ℕ) (code : ℕ) (ks : List Kind) → entry_at p code ≡ free ks → IsCodeAfter p code → IsCode p code
is_code None code ks e c = ((λ h. cc (sym e ∙ h)), c)
is_code (Some p) code ks e c = c
