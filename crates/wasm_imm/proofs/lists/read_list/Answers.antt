use Rattle.std.proofs.Common.{◌≡◌, ◌++◌, Err, refl, subst, ap}
use Rattle.std.specs.Prelude.{⊤}
use Rattle.wasm_below.specs.declared.features.WasmFeatures.{WasmFeatures}
use Rattle.wasm_below.specs.FromReader.{ReadsValue}
use Rattle.wasm_below.specs.Number.{EncodesSize}
use Rattle.wasm_below.specs.Source.{Reader, CountFault}
use Rattle.wasm_below.specs.Fault.{ManyFault}
use Rattle.wasm_below.proofs.TakesLemmas.{takes_then}
use Rattle.wasm_below.proofs.PrefixCode.{size_prefix_code}
use Rattle.wasm_imm.specs.ListFaults.{ListFault}
use Rattle.wasm_imm.specs.Lists.{EncodesMany, EncodesEach, EncodesList, HasCount}
use Rattle.wasm_imm.proofs.ListRefusals.{begun_refused, as_refused, some_read}
use Rattle.wasm_below.proofs.Steps.{unsigned_some, first_missing}
use Rattle.wasm_imm.proofs.lists.read_list.Goals as goal

pub returns-in-Err-read_members : goal.returns-in-Err-read_members
returns-in-Err-read_members g c =
    let f = c.args.reader.now.features in
    let mid = c.read_size.new.self in
    let s = c.in-Ok.ensures in
    let same : mid.features ≡ f = ap (λ (r : Reader). r.features) s.2.moved in
    let h = subst (λ (z : WasmFeatures). ReadsValue (EncodesMany (g.T.FromReader.encodes z) c.in-Ok.count)
    (ManyFault (g.T.FromReader.encodes z) g.T.FromReader.fault c.in-Ok.count) (λ r. ⊤) (Err c.in-Err-read_members.e) mid c.read_members.new.reader) same
    c.in-Err-read_members.ensures in
    begun_refused (EncodesSize c.args.limit) (EncodesMany (g.T.FromReader.encodes f)) (CountFault c.args.desc c.args.limit)
    (ManyFault (g.T.FromReader.encodes f) g.T.FromReader.fault) (λ r. ⊤) (HasCount c.args.limit) c.in-Err-read_members.e c.refuse_from.result
    c.args.reader.now mid c.read_members.new.reader c.refuse_from.new.reader c.in-Ok.count c.current_position-start.result (size_prefix_code c.args.limit)
    (λ text p. unsigned_some 32 text c.in-Ok.count p.0) s h (λ k. some_read (EncodesSize c.args.limit) c.args.reader.now mid c.in-Ok.count s)
    c.current_position-start.ensures c.refuse_from.ensures.back c.refuse_from.ensures.reported

pub returns-in-Ok-read_members : goal.returns-in-Ok-read_members
returns-in-Ok-read_members g c =
    let f = c.args.reader.now.features in
    let mid = c.read_size.new.self in
    let s = c.in-Ok.ensures in
    let m = c.in-Ok-read_members.ensures in
    let same : mid.features ≡ f = ap (λ (r : Reader). r.features) s.2.moved in
    let each = subst (λ (z : WasmFeatures). EncodesEach (g.T.FromReader.encodes z) m.0 c.in-Ok-read_members.members) same m.1.1 in
    (s.0 ++ m.0, (s.0, m.0, c.in-Ok.count, refl, s.1, (m.1.0, each)), takes_then c.args.reader.now mid c.read_members.new.reader s.0 m.0 s.2 m.2)

pub returns-in-Err : goal.returns-in-Err
returns-in-Err g c =
    let P = g.T.FromReader.encodes c.args.reader.now.features in
    let F = g.T.FromReader.fault in
    let limit = c.args.limit in
    let s = first_missing (EncodesSize limit) (EncodesMany P) (CountFault c.args.desc limit) (ManyFault P F) c.in-Err.e c.args.reader.now c.read_size.new.self
    c.in-Err.ensures in
    (s.0, as_refused (EncodesList limit P) (ListFault c.args.desc limit P F) (HasCount limit) c.in-Err.e c.args.reader.now s.1 s.2)
