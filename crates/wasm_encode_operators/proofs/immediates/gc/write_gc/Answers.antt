-- Written by tools/lists.py from tools/operators.tsv.
use Rattle.std.proofs.Common.{◌≡◌, [], ◌∷◌, ap, inl, inr}
use Rattle.wasm_imm.specs.Immediate.{heap_type, cast}
use Rattle.wasm_instr_ops.specs.Gc.{gc_immediates}
use Rattle.wasm_encode_operators.proofs.Arms.{listed_as}
use Rattle.wasm_encode_operators.proofs.immediates.gc.write_gc.Goals as goal

pub returns-in-RefTestNonNull : goal.returns-in-RefTestNonNull
returns-in-RefTestNonNull c =
    let e : gc_immediates c.args.op ≡ heap_type c.in-RefTestNonNull.a ∷ [] = elim c.in-RefTestNonNull.is [ inl h ↦ ap gc_immediates h | inr m ↦ elim m [ inl h ↦ ap gc_immediates h | inr m ↦ elim m [ inl h ↦ ap gc_immediates h | inr m ↦ elim m [ inl h ↦ ap gc_immediates h | inr m ↦ elim m [ inl h ↦ ap gc_immediates h | inr m ↦ ap gc_immediates m ] ] ] ] ] in
    listed_as c.args.features (gc_immediates c.args.op) (heap_type c.in-RefTestNonNull.a ∷ []) c.write-in-RefTestNonNull.result c.args.out.now c.write-in-RefTestNonNull.new.out e c.write-in-RefTestNonNull.ensures.written

pub returns-in-BrOnCast : goal.returns-in-BrOnCast
returns-in-BrOnCast c =
    let e : gc_immediates c.args.op ≡ cast (record { relative_depth = c.in-BrOnCast.a; from = c.in-BrOnCast.b; to = c.in-BrOnCast.c }) ∷ [] = elim c.in-BrOnCast.is [ inl h ↦ ap gc_immediates h | inr m ↦ elim m [ inl h ↦ ap gc_immediates h | inr m ↦ elim m [ inl h ↦ ap gc_immediates h | inr m ↦ ap gc_immediates m ] ] ] in
    listed_as c.args.features (gc_immediates c.args.op) (cast (record { relative_depth = c.in-BrOnCast.a; from = c.in-BrOnCast.b; to = c.in-BrOnCast.c }) ∷ []) c.write.result c.args.out.now c.write.new.out e c.write.ensures.written
