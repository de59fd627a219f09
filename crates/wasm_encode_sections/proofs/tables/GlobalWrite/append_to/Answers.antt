use Rattle.std.proofs.Common.{refl}
use Rattle.wasm_segments.specs.Globals.{global}
use Rattle.wasm_write_grammars.proofs.Owing.{owes, wrote, of_thing, thing_fails, paid}
use Rattle.wasm_encode_sections.specs.SegmentReasons.{GlobalReason}
use Rattle.wasm_encode_sections.proofs.TableSteps.{only_global_type, only_value}
use Rattle.wasm_encode_sections.proofs.tables.GlobalWrite.append_to.Goals as goal

pub returns-in_err-append_to : goal.returns-in_err-append_to
returns-in_err-append_to g c =
    let p = g.C.Write.grammar c.args.features in
    let x = c.args.self.now in
    thing_fails (GlobalReason (g.C.Write.reason c.args.features)) _ c.from_residual.ensures.1 (owes (global c.args.features p) x c.args.out.now.items) x.ty
    (only_global_type p x) c.in_err-append_to.ensures (λ r. absurd r)

pub returns-in_err-append_to-2 : goal.returns-in_err-append_to-2
returns-in_err-append_to-2 g c =
    let p = g.C.Write.grammar c.args.features in
    let x = c.args.self.now in
    let ty = wrote (owes (global c.args.features p) x c.args.out.now.items) x.ty (only_global_type p x) (of_thing c.in_ok-append_to.ensures) in
    thing_fails (GlobalReason (g.C.Write.reason c.args.features)) _ c.from_residual-in_err-append_to-2.ensures.1 ty x.init_expr (only_value p x x.ty)
    c.in_err-append_to-2.ensures (λ r. r)

pub returns : goal.returns
returns g c =
    let p = g.C.Write.grammar c.args.features in
    let x = c.args.self.now in
    let ty = wrote (owes (global c.args.features p) x c.args.out.now.items) x.ty (only_global_type p x) (of_thing c.in_ok-append_to.ensures) in
    paid (wrote ty x.init_expr (only_value p x x.ty) (of_thing c.in_ok-append_to-2.ensures)) refl
