use Rattle.std.proofs.Common.{refl, ap, arith}
use Rattle.std.proofs.lemmas.Bool.{ne_eqb}
use Rattle.std.specs.Prelude.{◌==◌}
use Rattle.wasm_grammars.proofs.Steps.{begins_at, then, yes, no, fails_in, ends, failed, refused}
use Rattle.wasm_types.specs.Types.{inner_after}
use Rattle.wasm_types.proofs.composites.read_inner_after.Goals as goal

pub returns-in_err-read_from-in-96 : goal.returns-in_err-read_from-in-96
returns-in_err-read_from-in-96 c =
    let func = yes (begins_at (inner_after c.args.byte) refl c.requires.start) (ap (λ b. b == 0x60) c.in-96.is) in
    failed _ _ c.from_residual.ensures.1 (fails_in func c.in_err-read_from-in-96.ensures.1)

pub returns-in_err-read_from-in-94 : goal.returns-in_err-read_from-in-94
returns-in_err-read_from-in-94 c =
    let other = no (begins_at (inner_after c.args.byte) refl c.requires.start) (ap (λ b. b == 0x60) c.in-94.is) in
    let array = yes other (ap (λ b. b == 0x5e) c.in-94.is) in
    failed _ _ c.from_residual-in_err-read_from-in-94.ensures.1 (fails_in array c.in_err-read_from-in-94.ensures.1)

pub returns-in_ok-read_from-in-94 : goal.returns-in_ok-read_from-in-94
returns-in_ok-read_from-in-94 c =
    let other = no (begins_at (inner_after c.args.byte) refl c.requires.start) (ap (λ b. b == 0x60) c.in-94.is) in
    ends (then (yes other (ap (λ b. b == 0x5e) c.in-94.is)) c.in_ok-read_from-in-94.ensures)

pub returns-in_err-read_from-in-95 : goal.returns-in_err-read_from-in-95
returns-in_err-read_from-in-95 c =
    let other = no (no (begins_at (inner_after c.args.byte) refl c.requires.start) (ap (λ b. b == 0x60) c.in-95.is)) (ap (λ b. b == 0x5e) c.in-95.is) in
    let struct = yes other (ap (λ b. b == 0x5f) c.in-95.is) in
    failed _ _ c.from_residual-in_err-read_from-in-95.ensures.1 (fails_in struct c.in_err-read_from-in-95.ensures.1)

pub returns-in_err-read_from-in-93 : goal.returns-in_err-read_from-in-93
returns-in_err-read_from-in-93 c =
    let other = no (no (begins_at (inner_after c.args.byte) refl c.requires.start) (ap (λ b. b == 0x60) c.in-93.is)) (ap (λ b. b == 0x5e) c.in-93.is) in
    let cont = yes (no other (ap (λ b. b == 0x5f) c.in-93.is)) (ap (λ b. b == 0x5d) c.in-93.is) in
    failed _ _ c.from_residual-in_err-read_from-in-93.ensures.1 (fails_in cont c.in_err-read_from-in-93.ensures.1)

pub returns-in_default : goal.returns-in_default
returns-in_default c =
    let not_func = ne_eqb c.args.byte 0x60 (λ e. omega (arith, e)) in
    let not_array = ne_eqb c.args.byte 0x5e (λ e. omega (arith, e)) in
    let not_struct = ne_eqb c.args.byte 0x5f (λ e. omega (arith, e)) in
    let not_cont = ne_eqb c.args.byte 0x5d (λ e. omega (arith, e)) in
    let none = no (no (no (no (begins_at (inner_after c.args.byte) refl c.requires.start) not_func) not_array) not_struct) not_cont in
    refused none (λ e. absurd (cc e)) c.requires.within c.new.ensures.message c.new.ensures.offset
