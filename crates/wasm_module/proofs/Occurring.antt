use Rattle.std.proofs.Common.{◌≡◌, ℕ, ◌+◌, ◌<◌, Bool, true, false, List, [], ◌∷◌, ◌++◌, length, Option, Some, refl, subst, ap, ◌∙◌, length-append, arith, cond}
use Rattle.std.specs.Prelude.{◌==◌}
use Rattle.wasm_below.specs.Source.{Reader, rest, offset_of, end_of, HasRead}
use Rattle.wasm_module.specs.Module.{SectionParts, EncodesSection}
use Rattle.wasm_module.specs.Sections.{SectionsOccur, first_with, or_first}

pub one_more : (r : Reader) (ss : List SectionParts) (mid new : Reader) (s : SectionParts) → SectionsOccur r ss mid →
    HasRead (EncodesSection mid.features) s mid new → end_of s.contents ≡ offset_of new → SectionsOccur r (ss ++ s ∷ []) new
one_more r [] mid new s same reads placed =
    (new, subst (λ z. HasRead (EncodesSection z.features) s z new) same reads, placed, refl)
one_more r (t ∷ ts) mid new s (next, first, occurs, others) reads placed = (next, first, occurs, one_more next ts mid new s others reads placed)

pub shorter : (r new : Reader) (s : SectionParts) → HasRead (EncodesSection r.features) s r new → length (rest new) < length (rest r)
shorter r new s (text, (a, b, parts, is, after), takes) =
    let long : length text ≡ length a + length b = ap length parts ∙ length-append a b in
    let one : length a ≡ 1 = ap length is.0 in
    let left : length (rest r) ≡ length text + length (rest new) = ap length takes.parts ∙ length-append text (rest new) in
    omega (arith, long, one, left)

first_by : (b : Bool) (found next : Option Reader) (t s : SectionParts) (id : ℕ) → next ≡ or_first found s id →
    cond b (Some t.contents) next ≡ or_first (cond b (Some t.contents) found) s id
first_by true found next t s id is = refl
first_by false found next t s id is = is

pub first_more : (id : ℕ) (ss : List SectionParts) (s : SectionParts) → first_with id (ss ++ s ∷ []) ≡ or_first (first_with id ss) s id
first_more id [] s = refl
first_more id (t ∷ ts) s = first_by (t.id == id) (first_with id ts) (first_with id (ts ++ s ∷ [])) t s id (first_more id ts s)
