use Rattle.std.proofs.Common.{sym, ◌∙◌, inl, inr, append-nil}
use Rattle.wasm_encode_operators.proofs.Operators.{cut_off}
use Rattle.wasm_encode.proofs.shortened.write_shortened_body.Goals as goal

pub returns-in-Ok-write_shortened-clause-written : goal.returns-in-Ok-write_shortened-clause-written
returns-in-Ok-write_shortened-clause-written c =
    record { mid = c.write_locals.new.out.items; locals = c.in-Ok.ensures.written; expression = c.in-Ok-write_shortened.ensures.written }

pub returns-in-Err-write_shortened-clause-written : goal.returns-in-Err-write_shortened-clause-written
returns-in-Err-write_shortened-clause-written c = (
  c.truncate.ensures.items ∙ cut_off _ _ _ _ _ c.len-start.result (sym (c.len-start.ensures ∙ c.args.out.now.ok.0)) c.in-Ok.ensures.written.appended (c.in-Err-write_shortened.ensures.written.0 ∙ sym (append-nil c.write_locals.new.out.items)),
  λ some. inr (c.in-Err-write_shortened.ensures.written.1 some),
)

pub returns-in-Err-clause-written : goal.returns-in-Err-clause-written
returns-in-Err-clause-written c = (c.in-Err.ensures.written.0, λ some. inl (c.in-Err.ensures.written.1 some))
