use Rattle.wasm_typing.specs.Types.{value_type}
use Rattle.wasm_signatures.specs.Types.{value_of}
use Rattle.wasm_check_operators.specs.Forms.{address_value}
use Rattle.wasm_check_operators.proofs.Others.{given_next}
use Rattle.wasm_check_operators.proofs.signatures.give.Goals as goal

pub loop-i-preserved : goal.loop-i-preserved
loop-i-preserved c =
    given_next (λ t. value_type (value_of (address_value c.args.is_64) t)) c.args.types.now c.loop-i.i _ c.args.control.now c.loop-i.control _ _ c.loop-i-test.true
    c.loop-i.invariant c.operand.ensures c.in_ok-give.ensures
