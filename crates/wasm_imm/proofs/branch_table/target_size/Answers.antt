use Rattle.std.proofs.Common.{◌+◌, refl, arith}
use Rattle.wasm_imm.proofs.PassedTargets.{last_byte, short_byte, more_bytes, is_target}
use Rattle.wasm_imm.proofs.branch_table.target_size.Goals as goal

pub returns-then-bytes-position-lt128-clause-target : goal.returns-then-bytes-position-lt128-clause-target
returns-then-bytes-position-lt128-clause-target c =
    let p = c.args.position in
    is_target c.args.bytes.now p (p + 1) (p + 1) refl (short_byte 32 c.args.bytes.now p (omega arith) (omega arith) (omega arith))

pub returns-then-bytes-position-lt128-2-clause-target : goal.returns-then-bytes-position-lt128-2-clause-target
returns-then-bytes-position-lt128-2-clause-target c =
    let p = c.args.position in
    is_target c.args.bytes.now p (p + 1 + 1) (p + 2) (omega arith)
    (more_bytes 32 c.args.bytes.now p (p + 1) (p + 1 + 1) (omega arith) (omega arith) (omega arith) (omega arith) refl
    (short_byte 25 c.args.bytes.now (p + 1) (omega arith) (omega arith) (omega arith)))

pub returns-then-bytes-position-lt128-3-clause-target : goal.returns-then-bytes-position-lt128-3-clause-target
returns-then-bytes-position-lt128-3-clause-target c =
    let p = c.args.position in
    is_target c.args.bytes.now p (p + 2 + 1) (p + 3) (omega arith)
    (more_bytes 32 c.args.bytes.now p (p + 1) (p + 2 + 1) (omega arith) (omega arith) (omega arith) (omega arith) refl
    (more_bytes 25 c.args.bytes.now (p + 1) (p + 2) (p + 2 + 1) (omega arith) (omega arith) (omega arith) (omega arith) (omega arith)
    (short_byte 18 c.args.bytes.now (p + 2) (omega arith) (omega arith) (omega arith))))

pub returns-then-bytes-position-lt128-4-clause-target : goal.returns-then-bytes-position-lt128-4-clause-target
returns-then-bytes-position-lt128-4-clause-target c =
    let p = c.args.position in
    is_target c.args.bytes.now p (p + 3 + 1) (p + 4) (omega arith)
    (more_bytes 32 c.args.bytes.now p (p + 1) (p + 3 + 1) (omega arith) (omega arith) (omega arith) (omega arith) refl
    (more_bytes 25 c.args.bytes.now (p + 1) (p + 2) (p + 3 + 1) (omega arith) (omega arith) (omega arith) (omega arith) (omega arith)
    (more_bytes 18 c.args.bytes.now (p + 2) (p + 3) (p + 3 + 1) (omega arith) (omega arith) (omega arith) (omega arith) (omega arith)
    (short_byte 11 c.args.bytes.now (p + 3) (omega arith) (omega arith) (omega arith)))))

pub returns-clause-target : goal.returns-clause-target
returns-clause-target c =
    let p = c.args.position in
    is_target c.args.bytes.now p (p + 4 + 1) (p + 5) (omega arith)
    (more_bytes 32 c.args.bytes.now p (p + 1) (p + 4 + 1) (omega arith) (omega arith) (omega arith) (omega arith) refl
    (more_bytes 25 c.args.bytes.now (p + 1) (p + 2) (p + 4 + 1) (omega arith) (omega arith) (omega arith) (omega arith) (omega arith)
    (more_bytes 18 c.args.bytes.now (p + 2) (p + 3) (p + 4 + 1) (omega arith) (omega arith) (omega arith) (omega arith) (omega arith)
    (more_bytes 11 c.args.bytes.now (p + 3) (p + 4) (p + 4 + 1) (omega arith) (omega arith) (omega arith) (omega arith) (omega arith)
    (last_byte 4 c.args.bytes.now (p + 4) (omega arith) (omega arith) (omega arith))))))
