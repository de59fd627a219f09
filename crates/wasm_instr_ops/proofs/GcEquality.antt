-- Written by tools/lists.py from tools/operators.tsv.
use Rattle.wasm_below.specs.Equality.{IsExact}
use Rattle.std.proofs.lemmas.Bool.Decides.{Decides-eqb}
use Rattle.wasm_below.proofs.TypeEquality.{heap_exact, ref_exact}
use Rattle.wasm_below.proofs.EnumEquality.{enum_exact, ◌▸◌, none, one, two, three}
use Rattle.wasm_instr_ops.specs.contracts.gc.GcOperator as gc_type
use Rattle.wasm_instr_ops.specs.contracts.gc.GcOperatorPartialEq.TheImpl as gc_eq

pub gc_exact : IsExact gc_eq.ghosts.eq
gc_exact = enum_exact gc_type.enum _
    (one _ Decides-eqb ▸ one _ Decides-eqb ▸ two _ _ Decides-eqb Decides-eqb ▸ two _ _ Decides-eqb Decides-eqb ▸ two _ _ Decides-eqb Decides-eqb ▸
    two _ _ Decides-eqb Decides-eqb ▸ one _ Decides-eqb ▸ one _ Decides-eqb ▸ two _ _ Decides-eqb Decides-eqb ▸ two _ _ Decides-eqb Decides-eqb ▸
    two _ _ Decides-eqb Decides-eqb ▸ one _ Decides-eqb ▸ one _ Decides-eqb ▸ one _ Decides-eqb ▸ one _ Decides-eqb ▸ none ▸ one _ Decides-eqb ▸
    two _ _ Decides-eqb Decides-eqb ▸ two _ _ Decides-eqb Decides-eqb ▸ two _ _ Decides-eqb Decides-eqb ▸ one _ heap_exact ▸ one _ heap_exact ▸ one _ heap_exact ▸
    one _ heap_exact ▸ three _ _ _ Decides-eqb ref_exact ref_exact ▸ three _ _ _ Decides-eqb ref_exact ref_exact ▸ none ▸ none ▸ none ▸ none ▸ none ▸
    one _ Decides-eqb ▸ one _ Decides-eqb ▸ one _ Decides-eqb ▸ one _ heap_exact ▸ one _ heap_exact ▸ three _ _ _ Decides-eqb ref_exact ref_exact ▸
    three _ _ _ Decides-eqb ref_exact ref_exact ▸ tt)
