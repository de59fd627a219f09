use Rattle.std.proofs.Common.{rules, ◌≡◌, [], length, IsTrue}
use Rattle.wasm_check_control.proofs.Labels.{outermost_there}
use Rattle.wasm_check_control.proofs.SetLists.{nil}
use Rattle.wasm_check_control.proofs.control.Control.is_outermost.Goals as goal

pub returns : goal.returns
returns c =
    let n : IsTrue c.is_empty.result → length c.self.inside.around.items ≡ 0 = search rules in
    let e : c.self.inside.around.items ≡ [] → IsTrue c.is_empty.result = search rules in
    let o = outermost_there c.self.inside.current c.self.inside.around.items c.self.inside.operands c.args.self.now c.self.invariant.0 c.self.invariant.1 c.self.view_is in
    (λ t. o.0 (nil c.self.inside.around.items (n t)), λ none. e (o.1 none))
