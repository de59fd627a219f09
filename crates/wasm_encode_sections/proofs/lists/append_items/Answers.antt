use Rattle.std.proofs.Common.{length, inl, inr, refl, arith}
use Rattle.wasm_write_grammars.proofs.Owing.{part_fails, rest_fails, extends_all, owes}
use Rattle.wasm_encode_sections.specs.ItemReasons.{ItemsReason}
use Rattle.wasm_encode_sections.proofs.ItemSteps.{items_starts, items_lack, only_number}
use Rattle.wasm_sections.specs.Items.{items}
use Rattle.wasm_encode_sections.proofs.lists.append_items.Goals as goal

pub returns-then-members-gt4294967295 : goal.returns-then-members-gt4294967295
returns-then-members-gt4294967295 g c =
    let many = c.if-members-gt4294967295.true in
    (extends_all _, λ known. record { none = items_lack (g.T.Write.grammar c.args.features) c.args.members.now (omega (arith, many)); reason = inl (refl, omega (arith, many)) })

pub returns-in_err-append_u32 : goal.returns-in_err-append_u32
returns-in_err-append_u32 g c =
    part_fails (ItemsReason (g.T.Write.reason c.args.features)) _ c.from_residual.ensures.1
    (owes (items (g.T.Write.grammar c.args.features)) c.args.members.now c.args.out.now.items) (length c.args.members.now)
    (only_number (g.T.Write.grammar c.args.features) c.args.members.now) c.in_err-append_u32.ensures (λ r. absurd r)

pub returns-in_err-append_each : goal.returns-in_err-append_each
returns-in_err-append_each g c =
    rest_fails (ItemsReason (g.T.Write.reason c.args.features)) _ c.from_residual-in_err-append_each.ensures.1
    (items_starts (g.T.Write.grammar c.args.features) c.args.members.now c.args.out.now.items c.in_ok-append_u32.ensures) c.in_err-append_each.ensures (λ r. inr r)

pub returns : goal.returns
returns g c =
    (items_starts (g.T.Write.grammar c.args.features) c.args.members.now c.args.out.now.items c.in_ok-append_u32.ensures).pays _ c.in_ok-append_each.ensures
