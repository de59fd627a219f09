use Rattle.wasm_externals.specs.declared.external.TypeRef.TheVariants as ty
use Rattle.wasm_write_grammars.specs.Writing.{NoReason}
use Rattle.wasm_write_grammars.proofs.Owing.{of_thing, given}
use Rattle.wasm_encode_sections.specs.ExternalReasons.{RefReason, TableReason, MemoryReason}
use Rattle.wasm_encode_sections.proofs.ImportSteps.{ref_starts, ref_written, ref_fails, thing_unwritable}
use Rattle.wasm_encode_sections.proofs.imports.TypeRefWrite.append_to.Goals as goal

pub returns-in_err-append_kind-in-Func : goal.returns-in_err-append_kind-in-Func
returns-in_err-append_kind-in-Func c =
    let (extends, why) = c.in_err-append_kind-in-Func.ensures in
    given (RefReason c.args.features) _ c.from_residual.ensures.1 extends (λ known. absurd (why known).reason)

pub returns-in_err-append_u32-in-Func : goal.returns-in_err-append_u32-in-Func
returns-in_err-append_u32-in-Func c =
    ref_fails c.args.features ty.Func (λ y z e. cc e) c.in-Func.index c.in-Func.is (ref_starts c.args.features (ty.Func c.in-Func.index) c.args.out.now.items c.in_ok-append_kind-in-Func.ensures)
    _ c.from_residual-in_err-append_u32-in-Func.ensures.1 NoReason c.in_err-append_u32-in-Func.ensures (λ r. absurd r)

pub returns-in_ok-append_u32-in-Func : goal.returns-in_ok-append_u32-in-Func
returns-in_ok-append_u32-in-Func c =
    ref_written c.args.features ty.Func (λ y z e. cc e) c.in-Func.index c.in-Func.is (ref_starts c.args.features (ty.Func c.in-Func.index) c.args.out.now.items c.in_ok-append_kind-in-Func.ensures)
    c.in_ok-append_u32-in-Func.ensures

pub returns-in_err-append_kind-in-Table : goal.returns-in_err-append_kind-in-Table
returns-in_err-append_kind-in-Table c =
    let (extends, why) = c.in_err-append_kind-in-Table.ensures in
    given (RefReason c.args.features) _ c.from_residual-in_err-append_kind-in-Table.ensures.1 extends (λ known. absurd (why known).reason)

pub returns-in_err-append_to-in-Table : goal.returns-in_err-append_to-in-Table
returns-in_err-append_to-in-Table c =
    ref_fails c.args.features ty.Table (λ y z e. cc e) c.in-Table.ty c.in-Table.is (ref_starts c.args.features (ty.Table c.in-Table.ty) c.args.out.now.items c.in_ok-append_kind-in-Table.ensures)
    _ c.from_residual-in_err-append_to-in-Table.ensures.1 (TableReason c.args.features) (thing_unwritable c.in_err-append_to-in-Table.ensures) (λ r. r)

pub returns-in_ok-append_to-in-Table : goal.returns-in_ok-append_to-in-Table
returns-in_ok-append_to-in-Table c =
    ref_written c.args.features ty.Table (λ y z e. cc e) c.in-Table.ty c.in-Table.is (ref_starts c.args.features (ty.Table c.in-Table.ty) c.args.out.now.items c.in_ok-append_kind-in-Table.ensures)
    (of_thing c.in_ok-append_to-in-Table.ensures)

pub returns-in_err-append_kind-in-Memory : goal.returns-in_err-append_kind-in-Memory
returns-in_err-append_kind-in-Memory c =
    let (extends, why) = c.in_err-append_kind-in-Memory.ensures in
    given (RefReason c.args.features) _ c.from_residual-in_err-append_kind-in-Memory.ensures.1 extends (λ known. absurd (why known).reason)

pub returns-in_err-append_to-in-Memory : goal.returns-in_err-append_to-in-Memory
returns-in_err-append_to-in-Memory c =
    ref_fails c.args.features ty.Memory (λ y z e. cc e) c.in-Memory.ty c.in-Memory.is (ref_starts c.args.features (ty.Memory c.in-Memory.ty) c.args.out.now.items c.in_ok-append_kind-in-Memory.ensures)
    _ c.from_residual-in_err-append_to-in-Memory.ensures.1 (MemoryReason c.args.features) (thing_unwritable c.in_err-append_to-in-Memory.ensures) (λ r. r)

pub returns-in_ok-append_to-in-Memory : goal.returns-in_ok-append_to-in-Memory
returns-in_ok-append_to-in-Memory c =
    ref_written c.args.features ty.Memory (λ y z e. cc e) c.in-Memory.ty c.in-Memory.is (ref_starts c.args.features (ty.Memory c.in-Memory.ty) c.args.out.now.items c.in_ok-append_kind-in-Memory.ensures)
    (of_thing c.in_ok-append_to-in-Memory.ensures)

pub returns-in_err-append_kind-in-Global : goal.returns-in_err-append_kind-in-Global
returns-in_err-append_kind-in-Global c =
    let (extends, why) = c.in_err-append_kind-in-Global.ensures in
    given (RefReason c.args.features) _ c.from_residual-in_err-append_kind-in-Global.ensures.1 extends (λ known. absurd (why known).reason)

pub returns-in_err-append_to-in-Global : goal.returns-in_err-append_to-in-Global
returns-in_err-append_to-in-Global c =
    ref_fails c.args.features ty.Global (λ y z e. cc e) c.in-Global.ty c.in-Global.is (ref_starts c.args.features (ty.Global c.in-Global.ty) c.args.out.now.items c.in_ok-append_kind-in-Global.ensures)
    _ c.from_residual-in_err-append_to-in-Global.ensures.1 NoReason (thing_unwritable c.in_err-append_to-in-Global.ensures) (λ r. absurd r)

pub returns-in_ok-append_to-in-Global : goal.returns-in_ok-append_to-in-Global
returns-in_ok-append_to-in-Global c =
    ref_written c.args.features ty.Global (λ y z e. cc e) c.in-Global.ty c.in-Global.is (ref_starts c.args.features (ty.Global c.in-Global.ty) c.args.out.now.items c.in_ok-append_kind-in-Global.ensures)
    (of_thing c.in_ok-append_to-in-Global.ensures)

pub returns-in_err-append_kind-in-Tag : goal.returns-in_err-append_kind-in-Tag
returns-in_err-append_kind-in-Tag c =
    let (extends, why) = c.in_err-append_kind-in-Tag.ensures in
    given (RefReason c.args.features) _ c.from_residual-in_err-append_kind-in-Tag.ensures.1 extends (λ known. absurd (why known).reason)

pub returns-in_err-append_to-in-Tag : goal.returns-in_err-append_to-in-Tag
returns-in_err-append_to-in-Tag c =
    ref_fails c.args.features ty.Tag (λ y z e. cc e) c.in-Tag.ty c.in-Tag.is (ref_starts c.args.features (ty.Tag c.in-Tag.ty) c.args.out.now.items c.in_ok-append_kind-in-Tag.ensures)
    _ c.from_residual-in_err-append_to-in-Tag.ensures.1 NoReason (thing_unwritable c.in_err-append_to-in-Tag.ensures) (λ r. absurd r)

pub returns-in_ok-append_to-in-Tag : goal.returns-in_ok-append_to-in-Tag
returns-in_ok-append_to-in-Tag c =
    ref_written c.args.features ty.Tag (λ y z e. cc e) c.in-Tag.ty c.in-Tag.is (ref_starts c.args.features (ty.Tag c.in-Tag.ty) c.args.out.now.items c.in_ok-append_kind-in-Tag.ensures)
    (of_thing c.in_ok-append_to-in-Tag.ensures)
