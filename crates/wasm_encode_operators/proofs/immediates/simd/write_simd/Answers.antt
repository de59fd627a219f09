-- Written by tools/lists.py from tools/operators.tsv.
use Rattle.std.proofs.Common.{◌≡◌, [], ◌∷◌, ap, inl, inr}
use Rattle.wasm_imm.specs.declared.memory_argument.MemArgKind.TheVariants as kind
use Rattle.wasm_imm.specs.Immediate.{one_lane, memory_argument}
use Rattle.wasm_instr_simd.specs.Simd.{simd_immediates}
use Rattle.wasm_encode_operators.proofs.Arms.{listed_as, nothing_written}
use Rattle.wasm_encode_operators.proofs.immediates.simd.write_simd.Goals as goal

pub returns-in-V128Load : goal.returns-in-V128Load
returns-in-V128Load c =
    let e : simd_immediates c.args.op ≡ memory_argument kind.Plain 4 c.in-V128Load.a ∷ [] = elim c.in-V128Load.is [ inl h ↦ ap simd_immediates h | inr m ↦ ap simd_immediates m ] in
    listed_as c.args.features (simd_immediates c.args.op) (memory_argument kind.Plain 4 c.in-V128Load.a ∷ []) c.write-in-V128Load.result c.args.out.now c.write-in-V128Load.new.out e c.write-in-V128Load.ensures.written

pub returns-in-V128Load8x8S : goal.returns-in-V128Load8x8S
returns-in-V128Load8x8S c =
    let e : simd_immediates c.args.op ≡ memory_argument kind.Plain 3 c.in-V128Load8x8S.a ∷ [] = elim c.in-V128Load8x8S.is [ inl h ↦ ap simd_immediates h | inr m ↦ elim m [ inl h ↦ ap simd_immediates h | inr m ↦ elim m [ inl h ↦ ap simd_immediates h | inr m ↦ elim m [ inl h ↦ ap simd_immediates h | inr m ↦ elim m [ inl h ↦ ap simd_immediates h | inr m ↦ elim m [ inl h ↦ ap simd_immediates h | inr m ↦ elim m [ inl h ↦ ap simd_immediates h | inr m ↦ ap simd_immediates m ] ] ] ] ] ] ] in
    listed_as c.args.features (simd_immediates c.args.op) (memory_argument kind.Plain 3 c.in-V128Load8x8S.a ∷ []) c.write-in-V128Load8x8S.result c.args.out.now c.write-in-V128Load8x8S.new.out e c.write-in-V128Load8x8S.ensures.written

pub returns-in-V128Load8Splat : goal.returns-in-V128Load8Splat
returns-in-V128Load8Splat c =
    let e : simd_immediates c.args.op ≡ memory_argument kind.Plain 0 c.in-V128Load8Splat.a ∷ [] = ap simd_immediates c.in-V128Load8Splat.is in
    listed_as c.args.features (simd_immediates c.args.op) (memory_argument kind.Plain 0 c.in-V128Load8Splat.a ∷ []) c.write.result c.args.out.now c.write.new.out e c.write.ensures.written

pub returns-in-V128Load16Splat : goal.returns-in-V128Load16Splat
returns-in-V128Load16Splat c =
    let e : simd_immediates c.args.op ≡ memory_argument kind.Plain 1 c.in-V128Load16Splat.a ∷ [] = ap simd_immediates c.in-V128Load16Splat.is in
    listed_as c.args.features (simd_immediates c.args.op) (memory_argument kind.Plain 1 c.in-V128Load16Splat.a ∷ []) c.write-in-V128Load16Splat.result c.args.out.now c.write-in-V128Load16Splat.new.out e c.write-in-V128Load16Splat.ensures.written

pub returns-in-V128Load32Splat : goal.returns-in-V128Load32Splat
returns-in-V128Load32Splat c =
    let e : simd_immediates c.args.op ≡ memory_argument kind.Plain 2 c.in-V128Load32Splat.a ∷ [] = elim c.in-V128Load32Splat.is [ inl h ↦ ap simd_immediates h | inr m ↦ ap simd_immediates m ] in
    listed_as c.args.features (simd_immediates c.args.op) (memory_argument kind.Plain 2 c.in-V128Load32Splat.a ∷ []) c.write-in-V128Load32Splat.result c.args.out.now c.write-in-V128Load32Splat.new.out e c.write-in-V128Load32Splat.ensures.written

pub returns-in-V128Load8Lane : goal.returns-in-V128Load8Lane
returns-in-V128Load8Lane c =
    let e : simd_immediates c.args.op ≡ memory_argument kind.Plain 0 c.in-V128Load8Lane.a ∷ one_lane c.in-V128Load8Lane.b ∷ [] = elim c.in-V128Load8Lane.is [ inl h ↦ ap simd_immediates h | inr m ↦ ap simd_immediates m ] in
    listed_as c.args.features (simd_immediates c.args.op) (memory_argument kind.Plain 0 c.in-V128Load8Lane.a ∷ one_lane c.in-V128Load8Lane.b ∷ []) c.write-in-V128Load8Lane.result c.args.out.now c.write-in-V128Load8Lane.new.out e c.write-in-V128Load8Lane.ensures.written

pub returns-in-V128Load16Lane : goal.returns-in-V128Load16Lane
returns-in-V128Load16Lane c =
    let e : simd_immediates c.args.op ≡ memory_argument kind.Plain 1 c.in-V128Load16Lane.a ∷ one_lane c.in-V128Load16Lane.b ∷ [] = elim c.in-V128Load16Lane.is [ inl h ↦ ap simd_immediates h | inr m ↦ ap simd_immediates m ] in
    listed_as c.args.features (simd_immediates c.args.op) (memory_argument kind.Plain 1 c.in-V128Load16Lane.a ∷ one_lane c.in-V128Load16Lane.b ∷ []) c.write-in-V128Load16Lane.result c.args.out.now c.write-in-V128Load16Lane.new.out e c.write-in-V128Load16Lane.ensures.written

pub returns-in-V128Load32Lane : goal.returns-in-V128Load32Lane
returns-in-V128Load32Lane c =
    let e : simd_immediates c.args.op ≡ memory_argument kind.Plain 2 c.in-V128Load32Lane.a ∷ one_lane c.in-V128Load32Lane.b ∷ [] = elim c.in-V128Load32Lane.is [ inl h ↦ ap simd_immediates h | inr m ↦ ap simd_immediates m ] in
    listed_as c.args.features (simd_immediates c.args.op) (memory_argument kind.Plain 2 c.in-V128Load32Lane.a ∷ one_lane c.in-V128Load32Lane.b ∷ []) c.write-in-V128Load32Lane.result c.args.out.now c.write-in-V128Load32Lane.new.out e c.write-in-V128Load32Lane.ensures.written

pub returns-in-V128Load64Lane : goal.returns-in-V128Load64Lane
returns-in-V128Load64Lane c =
    let e : simd_immediates c.args.op ≡ memory_argument kind.Plain 3 c.in-V128Load64Lane.a ∷ one_lane c.in-V128Load64Lane.b ∷ [] = elim c.in-V128Load64Lane.is [ inl h ↦ ap simd_immediates h | inr m ↦ ap simd_immediates m ] in
    listed_as c.args.features (simd_immediates c.args.op) (memory_argument kind.Plain 3 c.in-V128Load64Lane.a ∷ one_lane c.in-V128Load64Lane.b ∷ []) c.write-in-V128Load64Lane.result c.args.out.now c.write-in-V128Load64Lane.new.out e c.write-in-V128Load64Lane.ensures.written

pub returns-in-I8x16Swizzle : goal.returns-in-I8x16Swizzle
returns-in-I8x16Swizzle c =
    let e : simd_immediates c.args.op ≡ [] = elim c.in-I8x16Swizzle.is [ inl h ↦ ap simd_immediates h | inr m ↦ elim m [ inl h ↦ ap simd_immediates h | inr m ↦ elim m [ inl h ↦ ap simd_immediates h | inr m ↦ elim m [ inl h ↦ ap simd_immediates h | inr m ↦ elim m [ inl h ↦ ap simd_immediates h | inr m ↦ elim m [ inl h ↦ ap simd_immediates h | inr m ↦ elim m [ inl h ↦ ap simd_immediates h | inr m ↦ elim m [ inl h ↦ ap simd_immediates h | inr m ↦ elim m [ inl h ↦ ap simd_immediates h | inr m ↦ elim m [ inl h ↦ ap simd_immediates h | inr m ↦ elim m [ inl h ↦ ap simd_immediates h | inr m ↦ elim m [ inl h ↦ ap simd_immediates h | inr m ↦ elim m [ inl h ↦ ap simd_immediates h | inr m ↦ elim m [ inl h ↦ ap simd_immediates h | inr m ↦ elim m [ inl h ↦ ap simd_immediates h | inr m ↦ elim m [ inl h ↦ ap simd_immediates h | inr m ↦ elim m [ inl h ↦ ap simd_immediates h | inr m ↦ elim m [ inl h ↦ ap simd_immediates h | inr m ↦ elim m [ inl h ↦ ap simd_immediates h | inr m ↦ elim m [ inl h ↦ ap simd_immediates h | inr m ↦ elim m [ inl h ↦ ap simd_immediates h | inr m ↦ elim m [ inl h ↦ ap simd_immediates h | inr m ↦ elim m [ inl h ↦ ap simd_immediates h | inr m ↦ elim m [ inl h ↦ ap simd_immediates h | inr m ↦ elim m [ inl h ↦ ap simd_immediates h | inr m ↦ elim m [ inl h ↦ ap simd_immediates h | inr m ↦ elim m [ inl h ↦ ap simd_immediates h | inr m ↦ elim m [ inl h ↦ ap simd_immediates h | inr m ↦ elim m [ inl h ↦ ap simd_immediates h | inr m ↦ elim m [ inl h ↦ ap simd_immediates h | inr m ↦ elim m [ inl h ↦ ap simd_immediates h | inr m ↦ elim m [ inl h ↦ ap simd_immediates h | inr m ↦ elim m [ inl h ↦ ap simd_immediates h | inr m ↦ elim m [ inl h ↦ ap simd_immediates h | inr m ↦ elim m [ inl h ↦ ap simd_immediates h | inr m ↦ elim m [ inl h ↦ ap simd_immediates h | inr m ↦ elim m [ inl h ↦ ap simd_immediates h | inr m ↦ elim m [ inl h ↦ ap simd_immediates h | inr m ↦ elim m [ inl h ↦ ap simd_immediates h | inr m ↦ elim m [ inl h ↦ ap simd_immediates h | inr m ↦ elim m [ inl h ↦ ap simd_immediates h | inr m ↦ elim m [ inl h ↦ ap simd_immediates h | inr m ↦ elim m [ inl h ↦ ap simd_immediates h | inr m ↦ elim m [ inl h ↦ ap simd_immediates h | inr m ↦ elim m [ inl h ↦ ap simd_immediates h | inr m ↦ elim m [ inl h ↦ ap simd_immediates h | inr m ↦ elim m [ inl h ↦ ap simd_immediates h | inr m ↦ elim m [ inl h ↦ ap simd_immediates h | inr m ↦ elim m [ inl h ↦ ap simd_immediates h | inr m ↦ elim m [ inl h ↦ ap simd_immediates h | inr m ↦ elim m [ inl h ↦ ap simd_immediates h | inr m ↦ elim m [ inl h ↦ ap simd_immediates h | inr m ↦ elim m [ inl h ↦ ap simd_immediates h | inr m ↦ elim m [ inl h ↦ ap simd_immediates h | inr m ↦ elim m [ inl h ↦ ap simd_immediates h | inr m ↦ elim m [ inl h ↦ ap simd_immediates h | inr m ↦ elim m [ inl h ↦ ap simd_immediates h | inr m ↦ elim m [ inl h ↦ ap simd_immediates h | inr m ↦ elim m [ inl h ↦ ap simd_immediates h | inr m ↦ elim m [ inl h ↦ ap simd_immediates h | inr m ↦ elim m [ inl h ↦ ap simd_immediates h | inr m ↦ elim m [ inl h ↦ ap simd_immediates h | inr m ↦ elim m [ inl h ↦ ap simd_immediates h | inr m ↦ elim m [ inl h ↦ ap simd_immediates h | inr m ↦ elim m [ inl h ↦ ap simd_immediates h | inr m ↦ elim m [ inl h ↦ ap simd_immediates h | inr m ↦ elim m [ inl h ↦ ap simd_immediates h | inr m ↦ elim m [ inl h ↦ ap simd_immediates h | inr m ↦ elim m [ inl h ↦ ap simd_immediates h | inr m ↦ elim m [ inl h ↦ ap simd_immediates h | inr m ↦ elim m [ inl h ↦ ap simd_immediates h | inr m ↦ elim m [ inl h ↦ ap simd_immediates h | inr m ↦ elim m [ inl h ↦ ap simd_immediates h | inr m ↦ elim m [ inl h ↦ ap simd_immediates h | inr m ↦ elim m [ inl h ↦ ap simd_immediates h | inr m ↦ elim m [ inl h ↦ ap simd_immediates h | inr m ↦ elim m [ inl h ↦ ap simd_immediates h | inr m ↦ elim m [ inl h ↦ ap simd_immediates h | inr m ↦ elim m [ inl h ↦ ap simd_immediates h | inr m ↦ elim m [ inl h ↦ ap simd_immediates h | inr m ↦ elim m [ inl h ↦ ap simd_immediates h | inr m ↦ elim m [ inl h ↦ ap simd_immediates h | inr m ↦ elim m [ inl h ↦ ap simd_immediates h | inr m ↦ elim m [ inl h ↦ ap simd_immediates h | inr m ↦ elim m [ inl h ↦ ap simd_immediates h | inr m ↦ elim m [ inl h ↦ ap simd_immediates h | inr m ↦ elim m [ inl h ↦ ap simd_immediates h | inr m ↦ elim m [ inl h ↦ ap simd_immediates h | inr m ↦ elim m [ inl h ↦ ap simd_immediates h | inr m ↦ elim m [ inl h ↦ ap simd_immediates h | inr m ↦ elim m [ inl h ↦ ap simd_immediates h | inr m ↦ elim m [ inl h ↦ ap simd_immediates h | inr m ↦ elim m [ inl h ↦ ap simd_immediates h | inr m ↦ elim m [ inl h ↦ ap simd_immediates h | inr m ↦ elim m [ inl h ↦ ap simd_immediates h | inr m ↦ elim m [ inl h ↦ ap simd_immediates h | inr m ↦ elim m [ inl h ↦ ap simd_immediates h | inr m ↦ elim m [ inl h ↦ ap simd_immediates h | inr m ↦ elim m [ inl h ↦ ap simd_immediates h | inr m ↦ elim m [ inl h ↦ ap simd_immediates h | inr m ↦ elim m [ inl h ↦ ap simd_immediates h | inr m ↦ elim m [ inl h ↦ ap simd_immediates h | inr m ↦ elim m [ inl h ↦ ap simd_immediates h | inr m ↦ elim m [ inl h ↦ ap simd_immediates h | inr m ↦ elim m [ inl h ↦ ap simd_immediates h | inr m ↦ elim m [ inl h ↦ ap simd_immediates h | inr m ↦ elim m [ inl h ↦ ap simd_immediates h | inr m ↦ elim m [ inl h ↦ ap simd_immediates h | inr m ↦ elim m [ inl h ↦ ap simd_immediates h | inr m ↦ elim m [ inl h ↦ ap simd_immediates h | inr m ↦ elim m [ inl h ↦ ap simd_immediates h | inr m ↦ elim m [ inl h ↦ ap simd_immediates h | inr m ↦ elim m [ inl h ↦ ap simd_immediates h | inr m ↦ elim m [ inl h ↦ ap simd_immediates h | inr m ↦ elim m [ inl h ↦ ap simd_immediates h | inr m ↦ elim m [ inl h ↦ ap simd_immediates h | inr m ↦ elim m [ inl h ↦ ap simd_immediates h | inr m ↦ elim m [ inl h ↦ ap simd_immediates h | inr m ↦ elim m [ inl h ↦ ap simd_immediates h | inr m ↦ elim m [ inl h ↦ ap simd_immediates h | inr m ↦ elim m [ inl h ↦ ap simd_immediates h | inr m ↦ elim m [ inl h ↦ ap simd_immediates h | inr m ↦ elim m [ inl h ↦ ap simd_immediates h | inr m ↦ elim m [ inl h ↦ ap simd_immediates h | inr m ↦ elim m [ inl h ↦ ap simd_immediates h | inr m ↦ elim m [ inl h ↦ ap simd_immediates h | inr m ↦ elim m [ inl h ↦ ap simd_immediates h | inr m ↦ elim m [ inl h ↦ ap simd_immediates h | inr m ↦ elim m [ inl h ↦ ap simd_immediates h | inr m ↦ elim m [ inl h ↦ ap simd_immediates h | inr m ↦ elim m [ inl h ↦ ap simd_immediates h | inr m ↦ elim m [ inl h ↦ ap simd_immediates h | inr m ↦ elim m [ inl h ↦ ap simd_immediates h | inr m ↦ elim m [ inl h ↦ ap simd_immediates h | inr m ↦ elim m [ inl h ↦ ap simd_immediates h | inr m ↦ elim m [ inl h ↦ ap simd_immediates h | inr m ↦ elim m [ inl h ↦ ap simd_immediates h | inr m ↦ elim m [ inl h ↦ ap simd_immediates h | inr m ↦ elim m [ inl h ↦ ap simd_immediates h | inr m ↦ elim m [ inl h ↦ ap simd_immediates h | inr m ↦ elim m [ inl h ↦ ap simd_immediates h | inr m ↦ elim m [ inl h ↦ ap simd_immediates h | inr m ↦ elim m [ inl h ↦ ap simd_immediates h | inr m ↦ elim m [ inl h ↦ ap simd_immediates h | inr m ↦ elim m [ inl h ↦ ap simd_immediates h | inr m ↦ elim m [ inl h ↦ ap simd_immediates h | inr m ↦ elim m [ inl h ↦ ap simd_immediates h | inr m ↦ elim m [ inl h ↦ ap simd_immediates h | inr m ↦ elim m [ inl h ↦ ap simd_immediates h | inr m ↦ elim m [ inl h ↦ ap simd_immediates h | inr m ↦ elim m [ inl h ↦ ap simd_immediates h | inr m ↦ elim m [ inl h ↦ ap simd_immediates h | inr m ↦ elim m [ inl h ↦ ap simd_immediates h | inr m ↦ elim m [ inl h ↦ ap simd_immediates h | inr m ↦ elim m [ inl h ↦ ap simd_immediates h | inr m ↦ elim m [ inl h ↦ ap simd_immediates h | inr m ↦ elim m [ inl h ↦ ap simd_immediates h | inr m ↦ elim m [ inl h ↦ ap simd_immediates h | inr m ↦ elim m [ inl h ↦ ap simd_immediates h | inr m ↦ elim m [ inl h ↦ ap simd_immediates h | inr m ↦ elim m [ inl h ↦ ap simd_immediates h | inr m ↦ elim m [ inl h ↦ ap simd_immediates h | inr m ↦ elim m [ inl h ↦ ap simd_immediates h | inr m ↦ elim m [ inl h ↦ ap simd_immediates h | inr m ↦ elim m [ inl h ↦ ap simd_immediates h | inr m ↦ elim m [ inl h ↦ ap simd_immediates h | inr m ↦ elim m [ inl h ↦ ap simd_immediates h | inr m ↦ elim m [ inl h ↦ ap simd_immediates h | inr m ↦ elim m [ inl h ↦ ap simd_immediates h | inr m ↦ elim m [ inl h ↦ ap simd_immediates h | inr m ↦ elim m [ inl h ↦ ap simd_immediates h | inr m ↦ elim m [ inl h ↦ ap simd_immediates h | inr m ↦ elim m [ inl h ↦ ap simd_immediates h | inr m ↦ elim m [ inl h ↦ ap simd_immediates h | inr m ↦ elim m [ inl h ↦ ap simd_immediates h | inr m ↦ elim m [ inl h ↦ ap simd_immediates h | inr m ↦ elim m [ inl h ↦ ap simd_immediates h | inr m ↦ elim m [ inl h ↦ ap simd_immediates h | inr m ↦ elim m [ inl h ↦ ap simd_immediates h | inr m ↦ elim m [ inl h ↦ ap simd_immediates h | inr m ↦ elim m [ inl h ↦ ap simd_immediates h | inr m ↦ elim m [ inl h ↦ ap simd_immediates h | inr m ↦ elim m [ inl h ↦ ap simd_immediates h | inr m ↦ elim m [ inl h ↦ ap simd_immediates h | inr m ↦ elim m [ inl h ↦ ap simd_immediates h | inr m ↦ elim m [ inl h ↦ ap simd_immediates h | inr m ↦ elim m [ inl h ↦ ap simd_immediates h | inr m ↦ elim m [ inl h ↦ ap simd_immediates h | inr m ↦ elim m [ inl h ↦ ap simd_immediates h | inr m ↦ elim m [ inl h ↦ ap simd_immediates h | inr m ↦ elim m [ inl h ↦ ap simd_immediates h | inr m ↦ elim m [ inl h ↦ ap simd_immediates h | inr m ↦ elim m [ inl h ↦ ap simd_immediates h | inr m ↦ elim m [ inl h ↦ ap simd_immediates h | inr m ↦ elim m [ inl h ↦ ap simd_immediates h | inr m ↦ elim m [ inl h ↦ ap simd_immediates h | inr m ↦ elim m [ inl h ↦ ap simd_immediates h | inr m ↦ elim m [ inl h ↦ ap simd_immediates h | inr m ↦ elim m [ inl h ↦ ap simd_immediates h | inr m ↦ elim m [ inl h ↦ ap simd_immediates h | inr m ↦ elim m [ inl h ↦ ap simd_immediates h | inr m ↦ elim m [ inl h ↦ ap simd_immediates h | inr m ↦ elim m [ inl h ↦ ap simd_immediates h | inr m ↦ elim m [ inl h ↦ ap simd_immediates h | inr m ↦ elim m [ inl h ↦ ap simd_immediates h | inr m ↦ elim m [ inl h ↦ ap simd_immediates h | inr m ↦ elim m [ inl h ↦ ap simd_immediates h | inr m ↦ elim m [ inl h ↦ ap simd_immediates h | inr m ↦ elim m [ inl h ↦ ap simd_immediates h | inr m ↦ elim m [ inl h ↦ ap simd_immediates h | inr m ↦ elim m [ inl h ↦ ap simd_immediates h | inr m ↦ elim m [ inl h ↦ ap simd_immediates h | inr m ↦ elim m [ inl h ↦ ap simd_immediates h | inr m ↦ elim m [ inl h ↦ ap simd_immediates h | inr m ↦ elim m [ inl h ↦ ap simd_immediates h | inr m ↦ elim m [ inl h ↦ ap simd_immediates h | inr m ↦ elim m [ inl h ↦ ap simd_immediates h | inr m ↦ ap simd_immediates m ] ] ] ] ] ] ] ] ] ] ] ] ] ] ] ] ] ] ] ] ] ] ] ] ] ] ] ] ] ] ] ] ] ] ] ] ] ] ] ] ] ] ] ] ] ] ] ] ] ] ] ] ] ] ] ] ] ] ] ] ] ] ] ] ] ] ] ] ] ] ] ] ] ] ] ] ] ] ] ] ] ] ] ] ] ] ] ] ] ] ] ] ] ] ] ] ] ] ] ] ] ] ] ] ] ] ] ] ] ] ] ] ] ] ] ] ] ] ] ] ] ] ] ] ] ] ] ] ] ] ] ] ] ] ] ] ] ] ] ] ] ] ] ] ] ] ] ] ] ] ] ] ] ] ] ] ] ] ] ] ] ] ] ] ] ] ] ] ] ] ] ] ] ] ] ] ] ] ] ] ] ] ] ] ] ] ] ] ] ] ] ] ] ] ] ] ] ] ] ] ] ] ] ] ] ] ] ] ] ] ] ] ] ] ] ] ] in
    nothing_written c.args.features (simd_immediates c.args.op) c.args.out.now e
