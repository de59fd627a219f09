use Rattle.std.proofs.Common.{◌<◌, arith, rules, inr}
use Rattle.wasm_module.proofs.Places.{no_body_there, part_taken}
use Rattle.wasm_module.proofs.next.next_body.Goals as goal

pub returns-in_default-place_in-clause-stops : goal.returns-in_default-place_in-clause-stops
returns-in_default-place_in-clause-stops c =
    no_body_there c.args.bytes.now c.args.bodies.now c.if-bodies-eq0.false c.in_default-place_in.ensures.none

pub returns-in-Ok-clause-takes : goal.returns-in-Ok-clause-takes
returns-in-Ok-clause-takes c = record {
  left = omega (arith, c.if-bodies-eq0.false);
  type_index = c.in-Some.ensures.some;
  part = c.in-Ok.part;
  takes = part_taken c.args.bytes.now c.in-Some-place_in.start c.args.bodies.now.code _ c.in-Some-place_in.place c.read_reader.new.self c.in-Ok.part
      c.in-Some-place_in.ensures.some c.in-Some-place_in.ensures.start c.in-Ok.ensures.reads c.in-Ok.ensures.placed (search rules);
  offset = search rules;
  length = search rules;
  index = search rules;
  read = search rules;
  imported = search rules;
  reserved = search rules;
}

pub returns-in-Err-clause-stops : goal.returns-in-Err-clause-stops
returns-in-Err-clause-stops c =
    let some : 0 < c.args.bodies.now.left = omega (arith, c.if-bodies-eq0.false) in
    inr (
      some,
      (c.in-Some.types, c.in-Some.type_index, c.in-Some.ensures.some),
      (c.in-Some-place_in.place, c.in-Some-place_in.ensures.some, (c.in-Err.ensures.reads.1, c.in-Err.ensures.reads.2)),
    )
