use Rattle.wasm_c.proofs.Whole.{whole_body_read}
use Rattle.wasm_c.proofs.laws.whole_body.Goals as goal

pub returns : goal.returns
returns c = whole_body_read c.past_locals.ensures.body (record {
  fresh = c.fresh_readers.ensures;
  first = c.single_reads.ensures.first;
  next = c.single_reads.ensures.next;
  tree = c.read_to_the_end.ensures.tree;
})
