use Rattle.std.proofs.Common.{inr}
use Rattle.wasm_decode_opcodes.specs.Allowed.{EncodesAllowed}
use Rattle.wasm_operators.specs.Next.{NextMayAllocate}
use Rattle.wasm_operators.specs.Reading.{Anywhere}
use Rattle.wasm_operators.proofs.Bodies.{body_tree, body_beginning, expression_after_locals}
use Rattle.wasm_operators.proofs.body_laws.opened_bodies.Goals as goal

pub returns-clause-whole : goal.returns-clause-whole
returns-clause-whole c = body_tree

pub returns-clause-expression : goal.returns-clause-expression
returns-clause-expression c = expression_after_locals

pub returns-clause-stopped : goal.returns-clause-stopped
returns-clause-stopped c = λ e body opened new placed opens h. inr (body_beginning Anywhere e body opened new placed opens h)

pub returns-clause-stopped_visits : goal.returns-clause-stopped_visits
returns-clause-stopped_visits c = λ e body opened new placed opens h.
    inr (body_beginning (NextMayAllocate EncodesAllowed) e body opened new placed opens h)
