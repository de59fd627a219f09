-- The text of an indirect call, and of other operators.
use Rattle.std.proofs.Common.{◌≡◌, ℕ, List, ◌++◌, Result, Ok, Err, OnOk, is_ok, if◌then◌else◌, refl, sym, ap, ◌∙◌, append_assoc, codes}
use Rattle.wasm_operators.specs.instr.declared.operator.Operator.{Operator}
use Rattle.wasm_operators.specs.instr.declared.operator.Operator.TheVariants as operator
use Rattle.wasm_text.specs.Lines.{shown_name}
use Rattle.wasm_text.specs.Operands.{text_of}
use Rattle.wasm_disassembly.specs.Disassembly.{BodyNames, operator_name, named_text}

-- Five texts after one another.
pub five_texts : {E : Type 0} (r : Result (Unit {0}) E) (old a b c d new one two three four five : List ℕ) → a ≡ old ++ one → b ≡ a ++ two → c ≡ b ++ three → d ≡ c ++ four →
    new ≡ (if is_ok r then d ++ five else d) → OnOk r (new ≡ old ++ (one ++ (two ++ (three ++ (four ++ five)))))
five_texts (Err e) old a b c d new one two three four five p q r s t = tt
five_texts (Ok x) old a b c d new one two three four five p q r s t =
    t ∙ ap (λ l. l ++ five) (s ∙ ap (λ l. l ++ four) (r ∙ ap (λ l. l ++ three) (q ∙ ap (λ l. l ++ two) p))) ∙
    append_assoc (((old ++ one) ++ two) ++ three) four five ∙ append_assoc ((old ++ one) ++ two) three (four ++ five) ∙
    append_assoc (old ++ one) two (three ++ (four ++ five)) ∙ append_assoc old one (two ++ (three ++ (four ++ five)))

pub named_other : (n : BodyNames) (op : Operator) → ((ty table : ℕ) → op ≡ operator.CallIndirect ty table → ⊥) → named_text n op ≡ text_of op ++ shown_name (operator_name n op)
named_other n (operator.CallIndirect ty table) other = absurd (other ty table refl)
named_other n op other = refl
