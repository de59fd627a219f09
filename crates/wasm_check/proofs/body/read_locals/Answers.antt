use Rattle.std.proofs.Common.{◌≡◌, ◌+◌, ◌-◌, ◌<◌, true, false, [], ◌∷◌, ◌++◌, length, replicate, inr, sym, ap, subst, ◌∙◌, arith}
use Rattle.wasm_operators.specs.Locals.{IsPastLocals}
use Rattle.wasm_operators.proofs.Steps.{stepped_past}
use Rattle.wasm_typing.specs.Types.{value_type}
use Rattle.wasm_check_operators.specs.Forms.{is_valid}
use Rattle.wasm_check.proofs.Driving.{ok_of}
use Rattle.wasm_check.proofs.Remaining.{remains, none_stops, is_next_valid, is_next_within, items_of, one_read, one_failed, no_count, said_locals, valid_more, locals_more, size_more}
use Rattle.wasm_check.proofs.body.read_locals.Goals as goal

pub returns-in-Err-clause-whole : goal.returns-in-Err-clause-whole
returns-in-Err-clause-whole g c = λ declarations placed encodes may. absurd (no_count declarations placed c.args.body.now c.in-Err.error encodes c.in-Err.ensures)

pub returns-in-Err-read-clause-whole : goal.returns-in-Err-read-clause-whole
returns-in-Err-read-clause-whole g c = λ declarations placed encodes may.
    let h = c.loop-declaration.invariant in
    let some : c.loop-declaration.declaration < c.in-Ok.reader.count = omega (arith, c.loop-declaration-test.true, c.get_count-declaration-end.ensures) in
    let old = items_of c.loop-declaration.reader c.in-Ok.reader.count c.loop-declaration.declaration in
    absurd (none_stops c.declarations.ensures.one declarations (g.M.ModuleContext.environment c.args.module.now).order c.args.params h.2.0 c.in-Err-read.error old (record { locals = c.read.new.self; left = 0 })
    (remains c.declarations.ensures.one declarations placed c.args.body.now h.2.0 old encodes h.2.1) may (h.4 ∙ ap length h.2.3)
    (one_failed c.loop-declaration.reader c.read.new.self c.in-Ok.reader.count c.loop-declaration.declaration c.in-Err-read.error some c.in-Err-read.ensures))

pub returns-in-Err-read-clause-error : goal.returns-in-Err-read-clause-error
returns-in-Err-read-clause-error g c =
    let h = c.loop-declaration.invariant in
    let some : c.loop-declaration.declaration < c.in-Ok.reader.count = omega (arith, c.loop-declaration-test.true, c.get_count-declaration-end.ensures) in
    said_locals (g.M.ModuleContext.environment c.args.module.now).order c.args.params c.args.body.now c.in-Err-read.error c.decoding-in-Err-read.result c.decoding-in-Err-read.ensures
    (inr (
      h.2.0,
      items_of c.loop-declaration.reader c.in-Ok.reader.count c.loop-declaration.declaration,
      record { locals = c.read.new.self; left = 0 },
      h.2.1,
      one_failed c.loop-declaration.reader c.read.new.self c.in-Ok.reader.count c.loop-declaration.declaration c.in-Err-read.error some c.in-Err-read.ensures,
    ))

pub returns-then-not-is_valid_local-clause-whole : goal.returns-then-not-is_valid_local-clause-whole
returns-then-not-is_valid_local-clause-whole g c = λ declarations placed encodes may.
    let h = c.loop-declaration.invariant in
    let O = (g.M.ModuleContext.environment c.args.module.now).order in
    let some : c.loop-declaration.declaration < c.in-Ok.reader.count = omega (arith, c.loop-declaration-test.true, c.get_count-declaration-end.ensures) in
    let old = items_of c.loop-declaration.reader c.in-Ok.reader.count c.loop-declaration.declaration in
    let new = items_of c.read.new.self c.in-Ok.reader.count (c.loop-declaration.declaration + 1) in
    let valid = is_next_valid c.declarations.ensures.one declarations O c.args.params h.2.0 c.in-Ok-read.read old new
    (remains c.declarations.ensures.one declarations placed c.args.body.now h.2.0 old encodes h.2.1) may
    (one_read c.loop-declaration.reader c.read.new.self c.in-Ok.reader.count c.loop-declaration.declaration c.in-Ok-read.read some c.in-Ok-read.ensures) in
    absurd (cc (c.is_valid_local.ensures, c.if-not-is_valid_local.true, valid))

pub returns-then-not-is_valid_local-clause-error : goal.returns-then-not-is_valid_local-clause-error
returns-then-not-is_valid_local-clause-error g c =
    let h = c.loop-declaration.invariant in
    let O = (g.M.ModuleContext.environment c.args.module.now).order in
    let some : c.loop-declaration.declaration < c.in-Ok.reader.count = omega (arith, c.loop-declaration-test.true, c.get_count-declaration-end.ensures) in
    let no : is_valid O (value_type c.in-Ok-read.read.1) ≡ false = cc (c.is_valid_local.ensures, c.if-not-is_valid_local.true) in
    record {
      before = h.2.0;
      count = c.in-Ok-read.read.0;
      declares = record {
        old = items_of c.loop-declaration.reader c.in-Ok.reader.count c.loop-declaration.declaration;
        new = items_of c.read.new.self c.in-Ok.reader.count (c.loop-declaration.declaration + 1);
        stepped = h.2.1;
        steps = one_read c.loop-declaration.reader c.read.new.self c.in-Ok.reader.count c.loop-declaration.declaration c.in-Ok-read.read some c.in-Ok-read.ensures;
        at = c.original_position-offset-in-loop-declaration.ensures;
      };
      valid = h.2.2;
      invalid = no;
    }

pub returns-then-count-left-clause-whole : goal.returns-then-count-left-clause-whole
returns-then-count-left-clause-whole g c = λ declarations placed encodes may.
    let h = c.loop-declaration.invariant in
    let O = (g.M.ModuleContext.environment c.args.module.now).order in
    let some : c.loop-declaration.declaration < c.in-Ok.reader.count = omega (arith, c.loop-declaration-test.true, c.get_count-declaration-end.ensures) in
    let old = items_of c.loop-declaration.reader c.in-Ok.reader.count c.loop-declaration.declaration in
    let new = items_of c.read.new.self c.in-Ok.reader.count (c.loop-declaration.declaration + 1) in
    let within = is_next_within c.declarations.ensures.one declarations O c.args.params h.2.0 c.in-Ok-read.read old new
    (remains c.declarations.ensures.one declarations placed c.args.body.now h.2.0 old encodes h.2.1) may
    (one_read c.loop-declaration.reader c.read.new.self c.in-Ok.reader.count c.loop-declaration.declaration c.in-Ok-read.read some c.in-Ok-read.ensures) in
    let size = ap length h.2.3 in
    let sum = h.3 in
    let beyond = c.if-count-left.true in
    absurd (omega (arith, within, size, sum, beyond))

pub returns-then-count-left-clause-error : goal.returns-then-count-left-clause-error
returns-then-count-left-clause-error g c =
    let h = c.loop-declaration.invariant in
    let some : c.loop-declaration.declaration < c.in-Ok.reader.count = omega (arith, c.loop-declaration-test.true, c.get_count-declaration-end.ensures) in
    let size = ap length h.2.3 in
    let sum = h.3 in
    let beyond = c.if-count-left.true in
    inr (record {
      before = h.2.0;
      declaration = c.in-Ok-read.read;
      declares = record {
        old = items_of c.loop-declaration.reader c.in-Ok.reader.count c.loop-declaration.declaration;
        new = items_of c.read.new.self c.in-Ok.reader.count (c.loop-declaration.declaration + 1);
        stepped = h.2.1;
        steps = one_read c.loop-declaration.reader c.read.new.self c.in-Ok.reader.count c.loop-declaration.declaration c.in-Ok-read.read some c.in-Ok-read.ensures;
        at = c.original_position-offset-in-loop-declaration.ensures;
      };
      within = omega (arith, size, sum);
      beyond = omega (arith, size, sum, beyond);
    })

pub loop-declaration-preserved : goal.loop-declaration-preserved
loop-declaration-preserved g c =
    let h = c.loop-declaration.invariant in
    let O = (g.M.ModuleContext.environment c.args.module.now).order in
    let d = c.in-Ok-read.read in
    let some : c.loop-declaration.declaration < c.in-Ok.reader.count = omega (arith, c.loop-declaration-test.true, c.get_count-declaration-end.ensures) in
    let step = one_read c.loop-declaration.reader c.read.new.self c.in-Ok.reader.count c.loop-declaration.declaration d some c.in-Ok-read.ensures in
    let yes : is_valid O (value_type d.1) ≡ true = cc (c.is_valid_local.ensures, c.if-not-is_valid_local.false) in
    let added : c.add.new.self ≡ c.loop-declaration.locals ++ replicate d.0 d.1 = ok_of c.add.result _ c.add.ensures.added (cc (c.is_err.ensures.value, c.if-is_err.false)) in
    let size : length c.add.new.self ≡ length c.loop-declaration.locals + d.0 = ap length added ∙ size_more c.loop-declaration.locals d in
    let sum = h.3 in
    let total = h.4 in
    let more = c.in-Ok-read.ensures.2 in
    let few = c.if-count-left.false in (
      omega (arith, some),
      c.in-Ok-read.ensures.1 ∙ h.1,
      (
        h.2.0 ++ d ∷ [],
        c.steps_of_locals.ensures.next h.2.0 d c.args.body.now (items_of c.loop-declaration.reader c.in-Ok.reader.count c.loop-declaration.declaration)
            (items_of c.read.new.self c.in-Ok.reader.count (c.loop-declaration.declaration + 1)) h.2.1 step,
        valid_more O h.2.0 d h.2.2 yes,
        added ∙ ap (λ locals. locals ++ replicate d.0 d.1) h.2.3 ∙ locals_more h.2.0 d,
      ),
      omega (arith, size, sum, few),
      omega (arith, size, total, more),
    )

pub returns-clause-read : goal.returns-clause-read
returns-clause-read g c =
    let h = c.loop-declaration.invariant in
    let none : c.in-Ok.reader.count - c.loop-declaration.declaration ≡ 0 = omega (arith, c.loop-declaration-test.false, c.get_count-declaration-end.ensures) in
    let size = ap length h.2.3 in
    let sum = h.3 in
    record {
      declarations = h.2.0;
      past = subst (IsPastLocals h.2.0 c.args.body.now) (sym c.get_binary_reader-2.ensures)
          (stepped_past c.args.body.now h.2.0 (items_of c.loop-declaration.reader c.in-Ok.reader.count c.loop-declaration.declaration) h.2.1 none);
      may_declare = (omega (arith, size, sum), h.2.2);
      are = h.2.3;
    }
