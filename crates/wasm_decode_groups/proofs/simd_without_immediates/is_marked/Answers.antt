use Rattle.std.proofs.Common.{◌≤◌, ◌<◌, ap, sym, ◌∙◌, slice_index_or, arith, false}
use Rattle.std.proofs.Math.ListN.{get_or-eq_default}
use Rattle.std.proofs.lemmas.List.{get_or-map}
use Rattle.wasm_decode_opcodes.specs.Entry.{unknown}
use Rattle.wasm_decode_opcodes.specs.Entries.{simd_entries}
use Rattle.wasm_decode_groups.specs.WithoutImmediates.{is_without_immediates}
use Rattle.wasm_decode_groups.proofs.simd_without_immediates.is_marked.Goals as goal

pub returns-then-place-ge276 : goal.returns-then-place-ge276
returns-then-place-ge276 c =
    let long : 276 ≤ c.args.code = omega arith in
    ap is_without_immediates (sym (get_or-eq_default simd_entries unknown long))

pub returns : goal.returns
returns c =
    let within : c.args.code < 276 = omega arith in
    ap (λ l. slice_index_or l c.args.code false) c.requires ∙ get_or-map is_without_immediates simd_entries c.args.code unknown false within
