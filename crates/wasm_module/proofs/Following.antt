use Rattle.std.proofs.Common.{◌≡◌, ℕ, ◌+◌, ◌<◌, List, [], ◌∷◌, ◌++◌, length, length-append, Some, None, refl, ap, subst, ◌∙◌, arith}
use Rattle.wasm_below.specs.FromReader.{EncodesReader}
use Rattle.wasm_below.specs.Number.{EncodesUnsigned}
use Rattle.wasm_below.specs.Source.{Reader, HasRead, rest, offset_of, end_of}
use Rattle.wasm_module.specs.Items.{ItemsOccur}
use Rattle.wasm_module.specs.ModuleFunctions.{ModuleFunctions}
use Rattle.wasm_module.specs.declared.bodies.Bodies.{Bodies}
use Rattle.wasm_module.specs.declared.next.Body.{Body}
use Rattle.wasm_module.specs.Bodies.{after_bytes, InSection, DeclaresIn, StartsItems, OpensBodies, TakesBody, BodiesOccur, IsAfter, IsBodyOf}
use Rattle.wasm_module.proofs.Places.{OneSection, same_place}

-- One more body after some.
one_body : (r mid end : Reader) (bodies : List Reader) (b : Reader) → BodiesOccur r bodies mid → HasRead (EncodesReader mid.features) b mid end →
    end_of b ≡ offset_of end → BodiesOccur r (bodies ++ b ∷ []) end
one_body r mid end [] b same reads place = subst (λ r. BodiesOccur r (b ∷ []) end) same (end, reads, place, refl)
one_body r mid end (first ∷ bodies) b (next, read, at, others) reads place = (next, read, at, one_body next mid end bodies b others reads place)

-- One more item after some.
one_item : {X : Type 0} (Encodes : List ℕ → X → Type 0) (r mid end : Reader) (items : List X) (x : X) → ItemsOccur Encodes r items mid →
    HasRead Encodes x mid end → ItemsOccur Encodes r (items ++ x ∷ []) end
one_item Encodes r mid end [] x same reads = subst (λ r. ItemsOccur Encodes r (x ∷ []) end) same (end, reads, refl)
one_item Encodes r mid end (first ∷ items) x (next, read, others) reads = (next, read, one_item Encodes next mid end items x others reads)

-- A section with items has a first one.
record Start (bytes : List ℕ) (id count n : ℕ) : Type 0 where
  first : Reader
  starts : StartsItems bytes id count first
  there : InSection bytes id n first

start_of : (bytes : List ℕ) (id count n : ℕ) → 0 < count → DeclaresIn bytes id count n → Start bytes id count n
start_of bytes id count n some (None, is, (none, at)) = absurd (omega (arith, some, none))
start_of bytes id count n some (Some contents, is, (text, encodes, takes)) =
    let sum = ap length takes.parts ∙ length-append text (rest (after_bytes contents n)) in
    let moved : contents.position + n ≡ contents.position + length text = ap (λ (r : Reader). r.position) takes.moved in
    record {
      first = after_bytes contents n;
      starts = (contents, is, (text, encodes, takes));
      there = record { contents = contents; is_section = is; within = omega (arith, sum, moved); is_there = refl };
    }

plus_none : (n : ℕ) → n ≡ 0 + n
plus_none n = omega arith

pub after_none : (bytes : List ℕ) (c : Bodies) (opens : OpensBodies bytes c) → 0 < c.left → IsAfter bytes opens.functions [] [] c
after_none bytes c opens some =
    let code = start_of bytes 10 c.left c.code some opens.code in
    let types = start_of bytes 3 c.left c.types some opens.types in
    record {
      described = opens.described;
      imported = opens.imported;
      first_body = code.first;
      starts_bodies = subst (λ n. StartsItems bytes 10 n code.first) (plus_none c.left) code.starts;
      next_body = code.first;
      at_body = code.there;
      bodies_occur = refl;
      first_type = types.first;
      starts_types = subst (λ n. StartsItems bytes 3 n types.first) (plus_none c.left) types.starts;
      next_type = types.first;
      at_type = types.there;
      types_occur = refl;
      as_many = refl;
      read = opens.read;
    }

pub after_next : OneSection → (bytes : List ℕ) (functions : ModuleFunctions) (bodies : List Reader) (types : List ℕ) (old new : Bodies) (body : Body) →
    IsAfter bytes functions bodies types old → TakesBody bytes old new body →
    (part : Reader) × IsAfter bytes functions (bodies ++ part ∷ []) (types ++ body.type_index ∷ []) new × IsBodyOf functions (length bodies) part body
after_next law bytes functions bodies types old new body a b =
    let taken = b.takes in
    let ty = b.type_index in
    let part = b.part in
    let here : a.next_body ≡ taken.before = same_place law bytes 10 old.code a.next_body taken.before a.at_body taken.is_before in
    let type_here : a.next_type ≡ ty.0 = same_place law bytes 3 old.types a.next_type ty.0 a.at_type ty.2 in
    let n = length-append bodies (part ∷ []) in
    let m = length-append types (body.type_index ∷ []) in
    let all : length bodies + old.left ≡ length (bodies ++ part ∷ []) + new.left = omega (arith, n, b.left) in (
      part,
      record {
        described = a.described;
        imported = b.imported ∙ a.imported;
        first_body = a.first_body;
        starts_bodies = subst (λ k. StartsItems bytes 10 k a.first_body) all a.starts_bodies;
        next_body = taken.after;
        at_body = taken.is_after;
        bodies_occur = one_body a.first_body taken.before taken.after bodies part (subst (BodiesOccur a.first_body bodies) here a.bodies_occur) taken.reads
            taken.place;
        first_type = a.first_type;
        starts_types = subst (λ k. StartsItems bytes 3 k a.first_type) all a.starts_types;
        next_type = ty.1;
        at_type = ty.3;
        types_occur = one_item (EncodesUnsigned 32) a.first_type ty.0 ty.1 types body.type_index
            (subst (ItemsOccur (EncodesUnsigned 32) a.first_type types) type_here a.types_occur) ty.4;
        as_many = omega (arith, n, m, a.as_many);
        read = omega (arith, b.read, a.read, n);
      },
      record { offset = b.offset; length = b.length; index = omega (arith, b.index, a.imported, a.read) },
    )
