use Rattle.std.proofs.Common.{sym, subst, ap, ◌∙◌}
use Rattle.std.specs.Prelude.{Some, is_some}
use Rattle.wasm_externals.specs.Limits.{maximum}
use Rattle.wasm_write_grammars.specs.Writing.{AppendsBy}
use Rattle.wasm_write_grammars.proofs.Owing.{thing_fails}
use Rattle.wasm_encode_sections.specs.ExternalReasons.{MaximumReason}
use Rattle.wasm_encode_sections.proofs.LimitSteps.{no_maximum, maximum_starts, maximum_written, maximum_fails}
use Rattle.wasm_encode_sections.proofs.limits.append_maximum.Goals as goal

pub returns-in-None : goal.returns-in-None
returns-in-None c = no_maximum c.args.flags c.args.features c.in-None.is c.requires c.args.out.now.items

pub returns-in_err-append_address-in-Some : goal.returns-in_err-append_address-in-Some
returns-in_err-append_address-in-Some c =
    maximum_fails c.args.flags c.args.features c.in-Some.size c.in-Some.is c.requires _ c.from_residual.ensures.1 c.in_err-append_address-in-Some.ensures

pub returns-in_ok-append_address-in-Some : goal.returns-in_ok-append_address-in-Some
returns-in_ok-append_address-in-Some c =
    maximum_written c.args.flags c.args.features c.in-Some.size c.in-Some.is c.requires c.in_ok-append_address-in-Some.ensures
