use Rattle.std.proofs.Common.{◌≡◌, ℕ, ◌+◌, ◌%◌, ◌∙◌, Bool, true, false, inl, inr, Err, sym, ap, subst, rules}
use Rattle.wasm_below.specs.declared.features.WasmFeatures.{WasmFeatures}
use Rattle.wasm_below.specs.declared.error.Error.{Error}
use Rattle.wasm_below.specs.Ahead.{Fails}
use Rattle.wasm_below.specs.Number.{EncodesUnsigned}
use Rattle.wasm_below.specs.Refusal.{IsReadFault}
use Rattle.wasm_below.specs.Source.{Reader, offset_of, at_position, IsRefusal, HasRead, Reads}
use Rattle.wasm_below.proofs.Ahead.{failed}
use Rattle.wasm_imm.specs.declared.memory_argument.MemArgKind.{MemArgKind}
use Rattle.wasm_imm.specs.MemoryArgument.{EncodesOffset, EncodesMemArg}
use Rattle.wasm_imm.specs.FlagsNumber.{NamesBoth, OrdersPlain, IsReserved}
use Rattle.wasm_imm.proofs.FlagsNumber.{both_ruled_out, plain_ruled_out, reserved_ruled_out, ruled_out, target_refused, ordering_refused, offset_refused, all_read, argument_of}
use Rattle.wasm_imm.specs.MemoryArgumentFaults.{OffsetFault, FlagsFault, MemArgFault}
use Rattle.wasm_imm.proofs.MemoryArgumentFaults.{target_fault, plain_fault, ordering_fault, reserved_fault, offset_fault}
use Rattle.wasm_imm.proofs.memory_argument.read_rest.Goals as goal

not_false : {b : Bool} → b ≡ true → b ≡ false → ⊥
not_false p q = cc (p, q)

under : (f g : WasmFeatures) (k : MemArgKind) (max flags : ℕ) (e : Error) (old mid : Reader) → f ≡ g → HasRead (EncodesUnsigned 32) flags old mid →
    IsRefusal (EncodesMemArg f k max) e old → FlagsFault f k flags (offset_of old) e.message mid e.offset → Fails (EncodesMemArg g k max) (MemArgFault g k) e old
under f g k max flags e old mid same flagged h fault = subst (λ z. Fails (EncodesMemArg z k max) (MemArgFault z k) e old) same (h, inr (flags, mid, flagged, fault))

pub returns-then-names_both : goal.returns-then-names_both
returns-then-names_both c =
    let mid = c.args.reader.now in
    let old = at_position mid c.args.start in
    let f = c.features-features.result in
    let both : NamesBoth f c.args.flags = search rules in
    let fault : IsReadFault c.refuse.result.message = subst IsReadFault (sym c.refuse.ensures.message) tt in
    let flagged = c.requires.flagged in
    under f mid.features c.args.kind c.args.max_align c.args.flags c.refuse.result old mid c.features-features.ensures flagged
    (ruled_out f c.args.kind c.args.max_align c.args.flags old mid flagged c.refuse.result c.refuse.ensures.offset fault
    (both_ruled_out f c.args.kind c.args.max_align c.args.flags both)) (inl (both, c.refuse.ensures.message, c.refuse.ensures.offset))

pub returns-in_err-target : goal.returns-in_err-target
returns-in_err-target c =
    let mid = c.args.reader.now in
    let old = at_position mid c.args.start in
    let f = c.features-features.result in
    let e = c.in_err-target.field-0.0 in
    let h = c.in_err-target.ensures in
    let one = λ (h : NamesBoth f c.args.flags). not_false (c.names_both.ensures.1 h) c.if-names_both.false in
    failed (EncodesMemArg mid.features c.args.kind c.args.max_align) (MemArgFault mid.features c.args.kind) _ _ c.from_residual.ensures.1
    (under f mid.features c.args.kind c.args.max_align c.args.flags e old mid c.features-features.ensures c.requires.flagged
    (target_refused f c.args.kind c.args.max_align c.args.flags old mid c.requires.flagged e h.1)
    (target_fault f c.args.kind c.args.flags (offset_of old) mid one e h.1 h.2))

pub returns-then-orders_plain : goal.returns-then-orders_plain
returns-then-orders_plain c =
    let mid = c.args.reader.now in
    let old = at_position mid c.args.start in
    let f = c.features-features.result in
    let r = c.refuse-then-orders_plain in
    let plain : OrdersPlain f c.args.kind c.args.flags = search rules in
    let fault : IsReadFault r.result.message = subst IsReadFault (sym r.ensures.message) tt in
    let flagged = c.requires.flagged in
    let t = c.in_ok-target.ensures in
    let now = c.read_target.new.reader in
    let starts : now.start ≡ mid.start = ap (λ (r : Reader). r.start) t.2.moved in
    let here : r.result.offset ≡ offset_of old = r.ensures.offset ∙ ap (λ n. n + c.args.start) starts in
    let one = λ (h : NamesBoth f c.args.flags). not_false (c.names_both.ensures.1 h) c.if-names_both.false in
    under f mid.features c.args.kind c.args.max_align c.args.flags r.result old mid c.features-features.ensures flagged
    (ruled_out f c.args.kind c.args.max_align c.args.flags old mid flagged r.result here fault
    (plain_ruled_out f c.args.kind c.args.max_align c.args.flags plain))
    (plain_fault f c.args.kind c.args.flags (offset_of old) mid one c.in_ok-target.target now t r.result.message r.result.offset plain r.ensures.message here)

pub returns-in_err-ordering : goal.returns-in_err-ordering
returns-in_err-ordering c =
    let mid = c.args.reader.now in
    let old = at_position mid c.args.start in
    let f = c.features-features.result in
    let e = c.in_err-ordering.field-0.0 in
    let h = c.in_err-ordering.ensures in
    let t = c.in_ok-target.ensures in
    let now = c.read_target.new.reader in
    let one = λ (h : NamesBoth f c.args.flags). not_false (c.names_both.ensures.1 h) c.if-names_both.false in
    let may = λ (h : OrdersPlain f c.args.kind c.args.flags). not_false (c.orders_plain.ensures.1 h) c.if-orders_plain.false in
    failed (EncodesMemArg mid.features c.args.kind c.args.max_align) (MemArgFault mid.features c.args.kind) _ _ c.from_residual-in_err-ordering.ensures.1
    (under f mid.features c.args.kind c.args.max_align c.args.flags e old mid c.features-features.ensures c.requires.flagged
    (ordering_refused f c.args.kind c.args.max_align c.args.flags old mid c.requires.flagged e now c.in_ok-target.target t h.1)
    (ordering_fault f c.args.kind c.args.flags (offset_of old) mid one c.in_ok-target.target now t may e h.1 h.2))

pub returns-then-is_reserved : goal.returns-then-is_reserved
returns-then-is_reserved c =
    let mid = c.args.reader.now in
    let old = at_position mid c.args.start in
    let f = c.features-features.result in
    let r = c.refuse-then-is_reserved in
    let reserved : IsReserved f c.args.flags = c.is_reserved.ensures.0 c.if-is_reserved.true in
    let fault : IsReadFault r.result.message = subst IsReadFault (sym r.ensures.message) tt in
    let flagged = c.requires.flagged in
    let t = c.in_ok-target.ensures in
    let o = c.in_ok-ordering.ensures in
    let now = c.read_target.new.reader in
    let last = c.read_ordering.new.reader in
    let starts : last.start ≡ mid.start = ap (λ (r : Reader). r.start) o.2.moved ∙ ap (λ (r : Reader). r.start) t.2.moved in
    let here : r.result.offset ≡ offset_of old = r.ensures.offset ∙ ap (λ n. n + c.args.start) starts in
    let one = λ (h : NamesBoth f c.args.flags). not_false (c.names_both.ensures.1 h) c.if-names_both.false in
    let may = λ (h : OrdersPlain f c.args.kind c.args.flags). not_false (c.orders_plain.ensures.1 h) c.if-orders_plain.false in
    under f mid.features c.args.kind c.args.max_align c.args.flags r.result old mid c.features-features.ensures flagged
    (ruled_out f c.args.kind c.args.max_align c.args.flags old mid flagged r.result here fault
    (reserved_ruled_out f c.args.kind c.args.max_align c.args.flags reserved))
    (reserved_fault f c.args.kind c.args.flags (offset_of old) mid one c.in_ok-target.target now t may c.in_ok-ordering.ordering last o r.result.message
    r.result.offset reserved r.ensures.message here)

pub returns-in_err-offset : goal.returns-in_err-offset
returns-in_err-offset c =
    let mid = c.args.reader.now in
    let old = at_position mid c.args.start in
    let f = c.features-features.result in
    let t = c.in_ok-target.ensures in
    let o = c.in_ok-ordering.ensures in
    let last = c.read_ordering.new.reader in
    let same : last.features ≡ f = ap (λ (r : Reader). r.features) o.2.moved ∙ ap (λ (r : Reader). r.features) t.2.moved ∙ sym c.features-features.ensures in
    let e = c.in_err-offset.field-0.0 in
    let h = subst (λ (z : WasmFeatures). Reads (EncodesOffset z) (OffsetFault z) (Err e) last c.read_offset.new.reader) same c.in_err-offset.ensures in
    let one = λ (h : NamesBoth f c.args.flags). not_false (c.names_both.ensures.1 h) c.if-names_both.false in
    let may = λ (h : OrdersPlain f c.args.kind c.args.flags). not_false (c.orders_plain.ensures.1 h) c.if-orders_plain.false in
    let whole = λ (h : IsReserved f c.args.flags). not_false (c.is_reserved.ensures.1 h) c.if-is_reserved.false in
    failed (EncodesMemArg mid.features c.args.kind c.args.max_align) (MemArgFault mid.features c.args.kind) _ _ c.from_residual-in_err-offset.ensures.1
    (under f mid.features c.args.kind c.args.max_align c.args.flags e old mid c.features-features.ensures c.requires.flagged
    (offset_refused f c.args.kind c.args.max_align c.args.flags old mid c.requires.flagged e c.read_target.new.reader last c.in_ok-target.target
    c.in_ok-ordering.ordering t o h.1)
    (offset_fault f c.args.kind c.args.flags (offset_of old) mid one c.in_ok-target.target c.read_target.new.reader t may c.in_ok-ordering.ordering last o
    e.message e.offset whole h.2))

pub returns : goal.returns
returns c =
    let mid = c.args.reader.now in
    let old = at_position mid c.args.start in
    let f = c.features-features.result in
    let t = c.in_ok-target.ensures in
    let o = c.in_ok-ordering.ensures in
    let last = c.read_ordering.new.reader in
    let new = c.read_offset.new.reader in
    let offset = c.in_ok-offset.offset in
    let m = argument_of (c.args.flags % 16) c.args.max_align offset c.in_ok-target.target c.in_ok-ordering.ordering in
    let same : last.features ≡ f = ap (λ (r : Reader). r.features) o.2.moved ∙ ap (λ (r : Reader). r.features) t.2.moved ∙ sym c.features-features.ensures in
    let b = subst (λ (z : WasmFeatures). HasRead (EncodesOffset z) offset last new) same c.in_ok-offset.ensures in
    let whole : ¬ IsReserved f c.args.flags = λ h. not_false (c.is_reserved.ensures.1 h) c.if-is_reserved.false in
    let one : ¬ NamesBoth f c.args.flags = λ h. not_false (c.names_both.ensures.1 h) c.if-names_both.false in
    subst (λ (z : WasmFeatures). HasRead (EncodesMemArg z c.args.kind c.args.max_align) m old new) c.features-features.ensures
    (all_read f c.args.kind c.args.max_align c.args.flags old mid c.requires.flagged c.read_target.new.reader last new c.in_ok-target.target
    c.in_ok-ordering.ordering offset t o b whole one)
