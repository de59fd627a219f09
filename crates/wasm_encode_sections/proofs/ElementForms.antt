-- Both forms of element segments have the same encodings.
use Rattle.std.proofs.Common.{◌≡◌, ℕ, ◌+◌, Bool, true, false, List, [], ◌++◌, length, refl, sym, subst, ap, ◌∙◌, arith}
use Rattle.std.proofs.lemmas.List.{append-nil}
use Rattle.wasm_below.specs.declared.features.WasmFeatures.{WasmFeatures}
use Rattle.wasm_below.specs.Source.{reader_of}
use Rattle.wasm_grammars.specs.Grammar.{Grammar, thing, pick, Encodes}
use Rattle.wasm_grammars.specs.Parts.{u32, more}
use Rattle.wasm_sections.specs.Items.{Counted, items as listed_by}
use Rattle.wasm_segments.specs.declared.element.Element.{Element}
use Rattle.wasm_segments.specs.declared.element.ElementItems.{ElementItems}
use Rattle.wasm_segments.specs.declared.element.ElementItems.TheVariants as unread
use Rattle.wasm_segments.specs.Elements.{element, functions, expressions}
use Rattle.wasm_segments.specs.Flags.{has_flag}
use Rattle.wasm_segments.specs.Items.{items}
use Rattle.wasm_encode_sections.specs.declared.elements.ListedElement.{ListedElement}
use Rattle.wasm_encode_sections.specs.declared.elements.ListedItems.{ListedItems}
use Rattle.wasm_encode_sections.specs.declared.elements.ListedItems.TheVariants as list
use Rattle.wasm_encode_sections.specs.ElementLists.{HasItems, HasListed, IsListed}
use Rattle.wasm_encode_sections.specs.ListedElements.{listed_functions, listed_expressions, listed_element}
use Rattle.wasm_encode_sections.proofs.ItemSteps.{to_more, of_more}
use Rattle.wasm_write_grammars.proofs.WrittenMembers.{more_parts}

-- ---- items

unread_items : {X : Type 0} (f : WasmFeatures) (g : Grammar X) (at : ℕ) (text : List ℕ) (xs : List X) → Encodes (listed_by g) at text xs →
    (found : Counted) × Encodes (items f g) at text found × HasItems g found xs
unread_items f g at text xs (first, after, n, e, p, q) =
    let place = at + length first in
    let found : Counted = record { count = n; reader = reader_of f place after } in
    let m = to_more n g [] place after xs q in
    let (tail, is, len) = more_parts n (thing g) [] place after xs m in
    let same : n ≡ length xs = sym len ∙ ap length (sym is) in
    let zero : place ≡ place + 0 = omega arith in
    let moved = subst (λ z. Encodes (more n (thing g) []) z after xs) zero m in (
      found,
      (first, after, n, e, p, ([], after, place, refl, (refl, refl), (after, [], (after, xs), sym (append-nil after), (refl, moved), (refl, refl)))),
      (same, subst (λ k. Encodes (more k (thing g) []) (place + 0) after xs) same moved),
    )

list_items : {X : Type 0} (f : WasmFeatures) (g : Grammar X) (at : ℕ) (text : List ℕ) (found : Counted) → Encodes (items f g) at text found →
    (xs : List X) × Encodes (listed_by g) at text xs × HasItems g found xs
list_items f g at text found (first, after, n, e, p, (nil, mid, place, e2, (is_nil, place_is), (span, end, v, e3, (span_is, m), (none, same)))) =
    let start = at + length first in
    let after_is : span ≡ after = sym (e2 ∙ ap (λ z. z ++ mid) is_nil ∙ e3 ∙ ap (λ z. span ++ z) none ∙ append-nil span) in
    let shift : start + length nil ≡ start + 0 = ap (λ z. start + length z) is_nil in
    let zero : start + 0 ≡ start = omega arith in
    let moved = subst (λ t. Encodes (more n (thing g) []) (start + 0) t v.1) after_is (subst (λ z. Encodes (more n (thing g) []) z span v.1) shift m) in
    let here = subst (λ z. Encodes (more n (thing g) []) z after v.1) zero moved in
    let (tail, is, len) = more_parts n (thing g) [] start after v.1 here in
    let count : n ≡ length v.1 = sym len ∙ ap length (sym is) in
    let reader : reader_of f start after ≡ found.reader =
    ap (λ z. reader_of f start z) (sym after_is ∙ sym span_is) ∙ ap (λ z. reader_of f z v.0) (sym place_is) ∙ sym (ap (λ (c : Counted). c.reader) same) in
    let whole : HasItems g (record { count = n; reader = reader_of f start after }) v.1 = (count, subst (λ k. Encodes (more k (thing g) []) (start + 0) after v.1) count moved) in (
      v.1,
      (first, after, n, e, p, of_more n g [] start after v.1 here),
      (ap (λ (c : Counted). c.count) same ∙ count, (subst (λ r. HasItems g (record { count = n; reader = r }) v.1) reader whole).1),
    )

-- ---- elements

module _ {C : Type 0} (f : WasmFeatures) (g : Grammar C) where
  unlisted : (b : Bool) (z at : ℕ) (text : List ℕ) (x : ListedItems C) → pick b (Encodes (listed_expressions g z) at text x) (Encodes (listed_functions z) at text x) →
      (u : ElementItems C) × pick b (Encodes (expressions f g z) at text u) (Encodes (functions f z) at text u) × HasListed g u x
  unlisted true z at text x (a, b, ty, e, p, (c, d, vs, h, q, (none, same))) =
      let (found, enc, has) = unread_items f g (at + length a) c vs q in
      (unread.Expressions ty found, (a, b, ty, e, p, (c, d, found, h, enc, (none, refl))), subst (HasListed g (unread.Expressions ty found)) (sym same) (refl, has))
  unlisted false z at text x (a, b, k, e, p, (c, d, xs, h, q, (none, same))) =
      let (found, enc, has) = unread_items f u32 (at + length a) c xs q in
      (unread.Functions found, (a, b, k, e, p, (c, d, found, h, enc, (none, refl))), subst (HasListed g (unread.Functions found)) (sym same) has)

  listed : (b : Bool) (z at : ℕ) (text : List ℕ) (u : ElementItems C) → pick b (Encodes (expressions f g z) at text u) (Encodes (functions f z) at text u) →
      (x : ListedItems C) × pick b (Encodes (listed_expressions g z) at text x) (Encodes (listed_functions z) at text x) × HasListed g u x
  listed true z at text u (a, b, ty, e, p, (c, d, found, h, q, (none, same))) =
      let (vs, enc, has) = list_items f g (at + length a) c found q in
      (list.Expressions ty vs, (a, b, ty, e, p, (c, d, vs, h, enc, (none, refl))), subst (λ k. HasListed g k (list.Expressions ty vs)) (sym same) (refl, has))
  listed false z at text u (a, b, k, e, p, (c, d, found, h, q, (none, same))) =
      let (xs, enc, has) = list_items f u32 (at + length a) c found q in
      (list.Functions xs, (a, b, k, e, p, (c, d, xs, h, enc, (none, refl))), subst (λ k. HasListed g k (list.Functions xs)) (sym same) has)

  pub to_element : (at : ℕ) (text : List ℕ) (x : ListedElement C) → Encodes (listed_element g) at text x → (e : Element C) × Encodes (element f g) at text e × IsListed g e x
  to_element at text x (a, b, z, e, number, (c, d, k, h, kind, (i, j, v, l, q, (none, same)))) =
      let (u, enc, has) = unlisted (has_flag z 4) z (at + length a + length c) i v q in (
        record { kind = k; items = u },
        (a, b, z, e, number, (c, d, k, h, kind, (i, j, u, l, enc, (none, refl)))),
        (sym (ap (λ (y : ListedElement C). y.kind) same), subst (HasListed g u) (sym (ap (λ (y : ListedElement C). y.items) same)) has),
      )

  pub of_element : (at : ℕ) (text : List ℕ) (x : Element C) → Encodes (element f g) at text x → (y : ListedElement C) × Encodes (listed_element g) at text y × IsListed g x y
  of_element at text x (a, b, z, e, number, (c, d, k, h, kind, (i, j, v, l, q, (none, same)))) =
      let (u, enc, has) = listed (has_flag z 4) z (at + length a + length c) i v q in (
        record { kind = k; items = u },
        (a, b, z, e, number, (c, d, k, h, kind, (i, j, u, l, enc, (none, refl)))),
        (ap (λ (y : Element C). y.kind) same, subst (λ w. HasListed g w u) (sym (ap (λ (y : Element C). y.items) same)) has),
      )
