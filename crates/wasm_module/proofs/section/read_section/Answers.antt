use Rattle.std.proofs.Common.{ap, subst, ◌∙◌}
use Rattle.wasm_below.specs.FromReader.{EncodesReader, ReaderFault}
use Rattle.wasm_below.specs.Source.{Reader, IsByte, EndFault, HasRead}
use Rattle.wasm_below.specs.Ahead.{Fails}
use Rattle.wasm_module.specs.Module.{SectionParts, EncodesSection, SectionFault}
use Rattle.wasm_below.proofs.Ahead.{stays, advances}
use Rattle.wasm_below.proofs.PrefixCode.{byte_prefix_code}
use Rattle.wasm_module.proofs.Sequences.{both_read, both_first, both_second}
use Rattle.wasm_module.proofs.section.read_section.Goals as goal

pub returns-in_err-id-clause-reads : goal.returns-in_err-id-clause-reads
returns-in_err-id-clause-reads c =
    let h = c.in_err-id.ensures in
    let f = c.args.reader.now.features in
    stays (EncodesSection f) SectionFault _ c.clone-ahead.ensures c.from_residual.ensures.1
    (both_first IsByte (EncodesReader f) EndFault (λ id. ReaderFault) (λ (s : SectionParts). (s.id, s.contents)) (h.1, h.2))

pub returns-in_err-contents-clause-reads : goal.returns-in_err-contents-clause-reads
returns-in_err-contents-clause-reads c =
    let h = c.in_err-contents.ensures.reads in
    let f = c.args.reader.now.features in
    let same = ap (λ (r : Reader). r.features) (c.in_ok-id.ensures.2.moved) ∙ ap (λ (r : Reader). r.features) c.clone-ahead.ensures in
    let mid = c.read_u8.new.self in
    let second = subst (λ g. Fails (EncodesReader g) ReaderFault c.in_err-contents.field-0.0 mid) same (h.1, h.2) in
    stays (EncodesSection f) SectionFault _ c.clone-ahead.ensures c.from_residual-in_err-contents.ensures.1
    (both_second IsByte (EncodesReader f) EndFault (λ id. ReaderFault) (λ (s : SectionParts). (s.id, s.contents)) byte_prefix_code c.in_ok-id.ensures second)

pub returns-clause-reads : goal.returns-clause-reads
returns-clause-reads c =
    let f = c.args.reader.now.features in
    let same = ap (λ (r : Reader). r.features) (c.in_ok-id.ensures.2.moved) ∙ ap (λ (r : Reader). r.features) c.clone-ahead.ensures in
    let mid = c.read_u8.new.self in
    let second = subst (λ g. HasRead (EncodesReader g) c.in_ok-contents.contents mid c.read_reader.new.self) same c.in_ok-contents.ensures.reads in
    advances (EncodesSection f) {z = record { id = c.in_ok-id.id; contents = c.in_ok-contents.contents }} c.clone-ahead.ensures
    (both_read IsByte (EncodesReader f) {y = c.in_ok-contents.contents} c.in_ok-id.ensures second)
