use Rattle.std.proofs.Common.{◌≡◌, ℕ, List, ◌++◌, ap, ◌∙◌, append_assoc}

pub two_pieces : (old first new a b : List ℕ) → first ≡ old ++ a → new ≡ first ++ b → new ≡ old ++ (a ++ b)
two_pieces old first new a b p q = q ∙ ap (λ text. text ++ b) p ∙ append_assoc old a b

pub four_pieces : (old first second third new a b c d : List ℕ) → first ≡ old ++ a → second ≡ first ++ b → third ≡ second ++ c → new ≡ third ++ d →
    new ≡ old ++ (a ++ (b ++ (c ++ d)))
four_pieces old first second third new a b c d p q r s =
    two_pieces old first new a (b ++ (c ++ d)) p (two_pieces first second new b (c ++ d) q (two_pieces second third new c d r s))

pub five_pieces : (old first second third fourth new a b c d e : List ℕ) → first ≡ old ++ a → second ≡ first ++ b → third ≡ second ++ c →
    fourth ≡ third ++ d → new ≡ fourth ++ e → new ≡ old ++ (a ++ (b ++ (c ++ (d ++ e))))
five_pieces old first second third fourth new a b c d e p q r s t =
    two_pieces old first new a (b ++ (c ++ (d ++ e))) p (four_pieces first second third fourth new b c d e q r s t)
