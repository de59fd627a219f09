use Rattle.std.proofs.Common.{ap, sym}
use Rattle.wasm_types.specs.declared.composites.CompositeType.{CompositeType}
use Rattle.wasm_types.specs.Types.{composite_type}
use Rattle.wasm_write_grammars.proofs.Owing.{owes, part_fails, thing_fails, given, extends_all, extends_then}
use Rattle.wasm_encode_sections.specs.TypeReasons.{CompositeReason}
use Rattle.wasm_encode_sections.proofs.CompositeSteps.{shared_starts, unshared_starts, only_shared, only_unshared, shared_written, unshared_written}
use Rattle.wasm_encode_sections.proofs.composites.CompositeTypeWrite.append_to.Goals as goal

pub returns-in_err-append_byte : goal.returns-in_err-append_byte
returns-in_err-append_byte c =
    let (extends, why) = c.in_err-append_byte.ensures in
    given CompositeReason _ c.from_residual.ensures.1 extends (λ known. absurd (why known).reason)

pub returns-in_err-append_to : goal.returns-in_err-append_to
returns-in_err-append_to c =
    let byte = shared_starts c.args.self.now c.args.out.now.items c.if-self.true c.in_ok-append_byte.ensures in
    thing_fails CompositeReason _ c.from_residual-in_err-append_to.ensures.1 byte c.args.self.now.inner (only_shared c.args.self.now) c.in_err-append_to.ensures (λ r. r)

pub returns-in_err-append_to-2 : goal.returns-in_err-append_to-2
returns-in_err-append_to-2 c =
    part_fails CompositeReason _ c.from_residual-in_err-append_to-2.ensures.1 (unshared_starts c.args.self.now c.args.out.now.items c.if-self.false) c.args.self.now.inner
    (only_unshared c.args.self.now) c.in_err-append_to-2.ensures (λ r. r)

pub returns-then-self : goal.returns-then-self
returns-then-self c =
    shared_written c.args.self.now c.args.out.now.items c.if-self.true c.in_ok-append_byte.ensures c.in_ok-append_to.ensures

pub returns : goal.returns
returns c = unshared_written c.args.self.now c.args.out.now.items c.if-self.false c.in_ok-append_to-2.ensures
