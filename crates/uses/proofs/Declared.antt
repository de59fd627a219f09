use Rattle.std.proofs.Common.{Result, Ok, Err, IfOk, ◌++◌, ap, ◌∙◌}
use Rattle.wasm_operators.specs.below.declared.error.Error.{Error}
use Rattle.wasm_operators.specs.below.Source.{Reader, rest}
use Rattle.wasm_operators.specs.Locals.{Declaration, Locals, OpensLocals, ReadsDeclaration}
use Rattle.uses.specs.Bodies.{BeginsWithDeclaration}

pub begins_with : (result : Result Declaration Error) (body : Reader) (old new : Locals) → OpensLocals (Ok old) body → ReadsDeclaration result old new →
    IfOk result (λ d. BeginsWithDeclaration body d)
begins_with (Ok d) body old new (number, counts, after, none) ((text, declares, takes), count, total) = record {
  count = old.count;
  number = number;
  text = text;
  more = rest new.reader;
  parts = after.parts ∙ ap (λ bytes. number ++ bytes) takes.parts;
  counts = counts;
  declares = declares.0;
}
begins_with (Err e) body old new opens stopped = tt
