use Rattle.std.proofs.Common.{◌≡◌, ℕ, ◌+◌, ◌-◌, ◌≤◌, List, length, length-append, length-drop, Option, Some, sym, ap, subst, ◌∙◌, arith, inl, inr}
use Rattle.wasm_below.specs.declared.error.Error.{Error}
use Rattle.wasm_below.specs.FromReader.{EncodesReader}
use Rattle.wasm_below.specs.Number.{EncodesUnsigned}
use Rattle.wasm_below.specs.Source.{Reader, HasRead, Takes, IsRefusal, rest, offset_of, end_of, at_position}
use Rattle.wasm_module.specs.Sections.{IsSection}
use Rattle.wasm_module.specs.declared.bodies.Bodies.{Bodies}
use Rattle.wasm_module.specs.Bodies.{module_of, after_bytes, InSection, HasType, TakesPart, IsPlace}
use Rattle.wasm_below.proofs.Blocks.{refused_now}

abbrev pub OneSection : Type 0
OneSection = (whole : Reader) → (id : ℕ) → (a b : Option Reader) → IsSection whole id a → IsSection whole id b → a ≡ b

the_contents : (a b : Reader) → Some a ≡ Some b → a ≡ b
the_contents a b same = cc same

-- The number of bytes before a place determines it.
pub same_place : OneSection → (bytes : List ℕ) (id n : ℕ) (one other : Reader) → InSection bytes id n one → InSection bytes id n other → one ≡ other
same_place law bytes id n one other a b =
    let same = the_contents a.contents b.contents (law (module_of bytes) id (Some a.contents) (Some b.contents) a.is_section b.is_section) in
    a.is_there ∙ ap (λ r. after_bytes r n) same ∙ sym b.is_there

pub not_beyond : OneSection → (bytes : List ℕ) (id n : ℕ) (contents there : Reader) → IsSection (module_of bytes) id (Some contents) →
    (n ≤ length (rest contents) → ⊥) → InSection bytes id n there → ⊥
not_beyond law bytes id n contents there is beyond a =
    let same = the_contents a.contents contents (law (module_of bytes) id (Some a.contents) (Some contents) a.is_section is) in
    beyond (subst (λ r. n ≤ length (rest r)) same a.within)

-- The place after more bytes were read.
pub further : (bytes : List ℕ) (id n : ℕ) (before after : Reader) (text : List ℕ) → InSection bytes id n before → Takes before after text →
    InSection bytes id (n + length text) after
further bytes id n before after text a takes =
    let c = a.contents in
    let p : before.position ≡ c.position + n = ap (λ (r : Reader). r.position) a.is_there in
    let buffer : before.buffer ≡ c.buffer = ap (λ (r : Reader). r.buffer) a.is_there in
    let base : at_position before (before.position + length text) ≡ at_position c (before.position + length text) =
    ap (λ (r : Reader). at_position r (before.position + length text)) a.is_there in
    let q : before.position + length text ≡ c.position + (n + length text) = omega (arith, p) in
    let sum : length (rest before) ≡ length text + length (rest after) = ap length takes.parts ∙ length-append text (rest after) in
    let all : length before.buffer ≡ length c.buffer = ap length buffer in
    record {
      contents = c;
      is_section = a.is_section;
      within = omega (arith, sum, length-drop before.position before.buffer, length-drop c.position c.buffer, all, p, a.within);
      is_there = takes.moved ∙ base ∙ ap (at_position c) q;
    }

-- How many bytes are read after a value.
bytes_read : (start old new : ℕ) (before after : Reader) (text : List ℕ) → before.position ≡ start + old → Takes before after text →
    new ≡ after.position - start → old + length text ≡ new
bytes_read start old new before after text at takes is =
    let p : after.position ≡ before.position + length text = ap (λ (r : Reader). r.position) takes.moved in
    omega (arith, p, at, is)

pub part_taken : (bytes : List ℕ) (start old new : ℕ) (before after part : Reader) → InSection bytes 10 old before → before.position ≡ start + old →
    HasRead (EncodesReader before.features) part before after → end_of part ≡ offset_of after → new ≡ after.position - start →
    TakesPart bytes old new part
part_taken bytes start old new before after part a at (text, encodes, takes) place is =
    let n = bytes_read start old new before after text at takes is in
    record {
      before = before;
      is_before = a;
      after = after;
      is_after = subst (λ k. InSection bytes 10 k after) n (further bytes 10 old before after text a takes);
      reads = (text, encodes, takes);
      place = place;
    }

-- If reading a type index fails, none is encoded.
pub no_type : OneSection → (bytes : List ℕ) (n : ℕ) (place : Reader) (e : Error) → InSection bytes 3 n place → IsRefusal (EncodesUnsigned 32) e place →
    HasType bytes n → ⊥
no_type law bytes n place e there refused (new, ty, (before, after, a, b, (text, encodes, takes))) =
    let same = same_place law bytes 3 n place before there a in
    refused_now (EncodesUnsigned 32) e place refused text (rest after) ty encodes (ap rest same ∙ takes.parts)

-- No place: no body is left, some bytes were read, and the code section has fewer.
pub no_end : (bytes : List ℕ) (c : Bodies) → c.left ≡ 0 → (c.code ≡ 0 → ⊥) → ((there : Reader) → InSection bytes 10 c.code there → ⊥) →
    IsPlace bytes c → ⊥
no_end bytes c none some nowhere (inl (zero, inl start)) = some start
no_end bytes c none some nowhere (inl (zero, inr (there, a))) = nowhere there a
no_end bytes c none some nowhere (inr (left, ty, code)) = absurd (omega (arith, left, none))

-- No place before a body: the code section has fewer bytes.
pub no_body_there : (bytes : List ℕ) (c : Bodies) → (c.left ≡ 0 → ⊥) → ((there : Reader) → InSection bytes 10 c.code there → ⊥) → IsPlace bytes c → ⊥
no_body_there bytes c some nowhere (inl (zero, h)) = some zero
no_body_there bytes c some nowhere (inr (left, ty, (there, a))) = nowhere there a
