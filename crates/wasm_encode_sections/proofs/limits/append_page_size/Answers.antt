use Rattle.std.proofs.Common.{arith}
use Rattle.wasm_write_grammars.proofs.Owing.{given, extends_all}
use Rattle.wasm_encode_sections.specs.ExternalReasons.{PageReason}
use Rattle.wasm_encode_sections.proofs.LimitSteps.{no_page, page_written, page_lacks}
use Rattle.wasm_encode_sections.proofs.limits.append_page_size.Goals as goal

pub returns-in-None : goal.returns-in-None
returns-in-None c = no_page c.args.flags c.in-None.is c.requires c.args.out.now.items

pub returns-then-number-gt-MAX_PAGE_SIZE_LOG2 : goal.returns-then-number-gt-MAX_PAGE_SIZE_LOG2
returns-then-number-gt-MAX_PAGE_SIZE_LOG2 c =
    let high = c.if-number-gt-MAX_PAGE_SIZE_LOG2.true in
    (extends_all _, λ known. page_lacks c.args.flags c.in-Some.number c.in-Some.is (omega (arith, high)))

pub returns-in_err-append_u32-in-Some : goal.returns-in_err-append_u32-in-Some
returns-in_err-append_u32-in-Some c =
    let (extends, why) = c.in_err-append_u32-in-Some.ensures in
    given PageReason _ c.from_residual.ensures.1 extends (λ known. absurd (why known).reason)

pub returns-in_ok-append_u32-in-Some : goal.returns-in_ok-append_u32-in-Some
returns-in_ok-append_u32-in-Some c =
    let low = c.if-number-gt-MAX_PAGE_SIZE_LOG2.false in
    page_written c.args.flags c.in-Some.number c.in-Some.is c.requires (omega (arith, low)) c.in_ok-append_u32-in-Some.ensures
