-- Written by tools/lists.py from tools/operators.tsv.
use Rattle.wasm_below.specs.Equality.{IsExact}
use Rattle.std.proofs.lemmas.Bool.Decides.{Decides-eqb}
use Rattle.wasm_below.proofs.EnumEquality.{enum_exact, ◌▸◌, none, one, two}
use Rattle.wasm_instr_ops.specs.contracts.misc.MiscOperator as misc_type
use Rattle.wasm_instr_ops.specs.contracts.misc.MiscOperatorPartialEq.TheImpl as misc_eq

pub misc_exact : IsExact misc_eq.ghosts.eq
misc_exact = enum_exact misc_type.enum _
    (none ▸ none ▸ none ▸ none ▸ none ▸ none ▸ none ▸ none ▸ two _ _ Decides-eqb Decides-eqb ▸ one _ Decides-eqb ▸ two _ _ Decides-eqb Decides-eqb ▸
    one _ Decides-eqb ▸ two _ _ Decides-eqb Decides-eqb ▸ one _ Decides-eqb ▸ two _ _ Decides-eqb Decides-eqb ▸ one _ Decides-eqb ▸ one _ Decides-eqb ▸
    one _ Decides-eqb ▸ one _ Decides-eqb ▸ none ▸ none ▸ none ▸ none ▸ tt)
