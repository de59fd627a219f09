-- The first byte of an operator, and what the operator does to the frames.
use Rattle.std.proofs.Common.{◌≡◌, ℕ, List, [], ◌∷◌, ◌++◌, Option, Some, None, refl, sym, ap, ◌∙◌}
use Rattle.wasm_below.specs.declared.features.WasmFeatures.{WasmFeatures}
use Rattle.wasm_below.specs.Source.{BeginsWith}
use Rattle.wasm_instr_ops.specs.Numeric.{numeric_opcode}
use Rattle.wasm_instr_ops.specs.declared.numeric.NumericOperator.{NumericOperator}
use Rattle.wasm_instr_ops.specs.declared.numeric.NumericOperator.TheVariants as numeric
use Rattle.wasm_grammar.specs.declared.frame_change.FrameChange.TheVariants as change
use Rattle.wasm_grammar.specs.Frames.{change_of}
use Rattle.wasm_instr.specs.declared.operator.Operator.{Operator}
use Rattle.wasm_instr.specs.declared.operator.Operator.TheVariants as operator
use Rattle.wasm_instr.specs.Encoding.{EncodesOpcode, EncodesOperator}
use Rattle.wasm_instr.specs.Roles.{role_of, change_at}
use Rattle.wasm_instr.specs.Row.{prefix_of, opcode_of}

abbrev pub first_byte : Option ℕ → ℕ → ℕ
first_byte None code = code
first_byte (Some prefix) code = prefix

first_of_opcode : (prefix : Option ℕ) (code : ℕ) (head : List ℕ) → EncodesOpcode prefix head code → BeginsWith (first_byte prefix code) head
first_of_opcode None code head h = ([], h)
first_of_opcode (Some prefix) code head h = (h.0, h.1)

pub begins_encoding : (f : WasmFeatures) (op : Operator) (text : List ℕ) → EncodesOperator f text op → BeginsWith (first_byte (prefix_of op)
    (opcode_of op)) text
begins_encoding f op text s =
    let h = first_of_opcode (prefix_of op) (opcode_of op) s.head s.code in
    (h.0 ++ s.after, s.parts ∙ ap (λ x. x ++ s.after) h.1)

numeric_stays : (op : NumericOperator) → change_at (numeric_opcode op) ≡ change.Stays
numeric_stays numeric.I32Eqz = refl
numeric_stays _ = refl

change_by_first : (op : Operator) → change_at (first_byte (prefix_of op) (opcode_of op)) ≡ change_of (role_of op)
change_by_first (operator.Numeric op) = numeric_stays op
change_by_first operator.Unreachable = refl
change_by_first _ = refl

pub changes_there : (f : WasmFeatures) (op : Operator) (text more left : List ℕ) (byte : ℕ) → EncodesOperator f text op → left ≡ text ++ more →
    BeginsWith byte left → change_at byte ≡ change_of (role_of op)
changes_there f op text more left byte s e (others, d) =
    let h = begins_encoding f op text s in
    let whole : byte ∷ others ≡ first_byte (prefix_of op) (opcode_of op) ∷ (h.0 ++ more) = sym d ∙ e ∙ ap (λ x. x ++ more) h.1 in
    let same : byte ≡ first_byte (prefix_of op) (opcode_of op) = cc whole in
    ap change_at same ∙ change_by_first op

pub changes_first : (f : WasmFeatures) (op : Operator) (text : List ℕ) (byte : ℕ) → EncodesOperator f text op → BeginsWith byte text →
    change_at byte ≡ change_of (role_of op)
changes_first f op text byte s (others, d) =
    let h = begins_encoding f op text s in
    let same : byte ≡ first_byte (prefix_of op) (opcode_of op) = cc (sym d ∙ h.1) in
    ap change_at same ∙ change_by_first op
