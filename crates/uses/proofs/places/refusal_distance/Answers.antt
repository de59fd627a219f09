use Rattle.std.proofs.Common.{arith, length-drop}
use Rattle.uses.proofs.places.refusal_distance.Goals as goal

pub returns : goal.returns
returns c =
    let s = c.next_refusal.new.operators in
    let within = rw c.get_binary_reader.ensures at c.within.ensures in
    let ahead = c.refusals_ahead.ensures.read c.in-Some.error s c.in-Some.ensures.1 within in
    record {
      ahead = omega (arith, ahead.0, ahead.1, c.offset.ensures, c.original_position.ensures, length-drop s.reader.position s.reader.buffer);
      refused = (c.in-Some.error, c.in-Some.ensures, omega (arith, ahead.0, c.offset.ensures, c.original_position.ensures));
      read = tt;
    }
