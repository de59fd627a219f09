-- Written by tools/lists.py from tools/operators.tsv.
use Rattle.std.proofs.Common.{◌==◌, ap}
use Rattle.std.proofs.lemmas.Bool.Decides.{Decides-and, Decides-like}
use Rattle.wasm_below.specs.Equality.{IsExact}
use Rattle.std.proofs.lemmas.Bool.Decides.{Decides-eqb}
use Rattle.wasm_imm.proofs.ImmediateEquality.{argument_exact, order_exact}
use Rattle.wasm_below.proofs.EnumEquality.{enum_exact, ◌▸◌, none, one, two, three}
use Rattle.wasm_instr_ops.specs.contracts.atomic.AtomicFields as atomic_fields_type
use Rattle.wasm_instr_ops.specs.contracts.atomic.AtomicFieldsPartialEq.TheImpl as atomic_fields_eq
use Rattle.wasm_instr_ops.specs.contracts.atomic.AtomicOperatorPartialEq.TheImpl as atomic_eq
use Rattle.wasm_instr_ops.specs.Atomic.{atomic_subopcode, atomic_fields}
use Rattle.wasm_instr_ops.proofs.AtomicByOpcode.{atomic_same}

pub fields_exact : IsExact atomic_fields_eq.ghosts.eq
fields_exact = enum_exact atomic_fields_type.enum _
    (one _ argument_exact ▸ one _ order_exact ▸ two _ _ order_exact Decides-eqb ▸ two _ _ order_exact Decides-eqb ▸
    three _ _ _ order_exact Decides-eqb Decides-eqb ▸ two _ _ order_exact Decides-eqb ▸ none ▸ tt)

pub atomic_exact : IsExact atomic_eq.ghosts.eq
atomic_exact a b =
    Decides-like (atomic_eq.ghosts.eq a b) (λ p. atomic_same a b p.0 p.1) (λ e. (ap atomic_subopcode e, ap atomic_fields e))
    (Decides-and (atomic_subopcode a == atomic_subopcode b) (atomic_fields_eq.ghosts.eq (atomic_fields a) (atomic_fields b)) (Decides-eqb (atomic_subopcode a) (atomic_subopcode b))
    (fields_exact (atomic_fields a) (atomic_fields b)))
