use Rattle.std.proofs.Common.{◌≡◌, ◌++◌, length, ap, sym, subst, arith}
use Rattle.wasm_operators.specs.Laws.{IsNoLonger}
use Rattle.wasm_c.specs.Reads.{FillsArray}
use Rattle.wasm_c.specs.declared.counter.Counter.{Counter}
use Rattle.wasm_c.proofs.Counted.{counted_on, array_whole}
use Rattle.wasm_c.proofs.Found.{ends_visited, ends_few, found_stopped, full_or_none}
use Rattle.wasm_c.proofs.body.read_operators.Goals as goal

pub returns-in-Ok : goal.returns-in-Ok
returns-in-Ok c =
    let opened = c.args.operators.now in
    let between = c.fill-filled.new.operators in
    let found = c.fill-filled.ensures.0 in
    let f =
    subst (λ r. FillsArray r opened between c.fill-filled.result.count c.args.out.now c.fill-filled.new.out found) c.in-Ok.is c.fill-filled.ensures.1 in
    let result = c.visit_all_simd-end.result in
    let end =
    ends_visited _ c.single_reads.ensures.joined c.read_to_the_end.ensures.tree c.read_to_the_end.ensures.beginning c.read_to_the_end.ensures.refused
    c.memory_asked.ensures.visits result opened between c.visit_all_simd-end.new.self found c.requires.read_so_far f.takes c.visit_all_simd-end.ensures.runs in
    let lengths : IsNoLonger opened.reader.features = subst IsNoLonger (sym c.requires.features) c.layouts.ensures.length in
    let few = ends_few result opened (found ++ end.0) lengths end.3 in
    let on : IsNoLonger between.reader.features = subst IsNoLonger (sym (ap (λ r. r.features) f.takes.takes.moved)) lengths in
    let full = full_or_none (length found ≡ length c.args.out.now) between c.visit_all_simd-end.new.self end.0 on f.ends end.2 in (
      found ++ end.0,
      record {
        ends = end.3;
        memory = end.4;
        counted = counted_on (λ (s : Counter). s.count) found end.0 _ c.visit_all_simd-end.new.v end.1 f.counted (omega (arith, few, c.requires.within));
        in_array = array_whole found end.0 c.args.out.now c.fill-filled.new.out f.fits full f.in_array;
      },
    )

pub returns-in-Err : goal.returns-in-Err
returns-in-Err c =
    let opened = c.args.operators.now in
    let found = c.fill-filled.ensures.0 in (
      found,
      found_stopped c.read_to_the_end.ensures.tree c.read_to_the_end.ensures.beginning c.read_to_the_end.ensures.refused c.memory_asked.ensures.visits
          c.in-Err.error opened c.fill-filled.new.operators c.fill-filled.result.count c.args.out.now c.fill-filled.new.out found c.requires.read_so_far
          (subst (λ r. FillsArray r opened c.fill-filled.new.operators c.fill-filled.result.count c.args.out.now c.fill-filled.new.out found) c.in-Err.is
          c.fill-filled.ensures.1),
    )
