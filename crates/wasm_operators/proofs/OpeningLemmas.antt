-- Operators open at most one frame for two bytes.
use Rattle.std.proofs.Common.{◌≡◌, ℕ, ◌+◌, ◌*◌, ◌<◌, ◌≤◌, List, [], ◌∷◌, ◌++◌, length, Some, refl, sym, subst, ap, ◌∙◌, length-append, arith}
use Rattle.wasm_below.specs.declared.features.WasmFeatures.{WasmFeatures}
use Rattle.wasm_below.specs.Source.{BeginsWith}
use Rattle.wasm_grammar.specs.declared.frame_kind.FrameKind.{FrameKind}
use Rattle.wasm_grammar.specs.declared.frame_change.FrameChange.{FrameChange}
use Rattle.wasm_grammar.specs.declared.frame_change.FrameChange.TheVariants as change
use Rattle.wasm_grammar.specs.Role.{Role}
use Rattle.wasm_grammar.specs.Frames.{change_of, frames_after, frames_along, frames_changed, opened, OpensFrame, without_innermost_in}
use Rattle.wasm_grammar.proofs.Innermost.{frames_follow}
use Rattle.wasm_grammar.proofs.Runs.{bound, IsSome_of}
use Rattle.wasm_imm.specs.declared.block_type.BlockType.{BlockType}
use Rattle.wasm_imm.specs.declared.block_type.BlockType.TheVariants as block_type
use Rattle.wasm_imm.specs.BlockTypes.{EncodesBlockType}
use Rattle.wasm_imm.proofs.BlockTypes.{block_prefix_code}
use Rattle.wasm_instr.specs.declared.operator.Operator.{Operator}
use Rattle.wasm_instr.specs.declared.operator.Operator.TheVariants as operator
use Rattle.wasm_instr.specs.Encoding.{EncodesOperator}
use Rattle.wasm_instr.specs.Roles.{role_of, roles_of, change_at}
use Rattle.wasm_instr.specs.Row.{prefix_of, opcode_of}
use Rattle.wasm_instr.proofs.FirstBytes.{first_byte, begins_encoding, changes_first}
use Rattle.wasm_operators.specs.Expression.{Placed, operators, LaidOut}
use Rattle.wasm_operators.specs.Openings.{opened_by, opened_along}
use Rattle.wasm_grammar.proofs.Paths.{some_is}

block_some : (text : List ℕ) (ty : BlockType) → EncodesBlockType text ty → 1 ≤ length text
block_some [] ty h = let p = block_prefix_code [] (0x40 ∷ []) (0x40 ∷ []) [] ty block_type.Empty h refl refl in absurd (cc p.0)
block_some (b ∷ text) ty h = omega arith

two_bytes : (code : ℕ) (text head after first more : List ℕ) → text ≡ head ++ after → head ≡ code ∷ [] → after ≡ first ++ more →
    1 ≤ length first → 2 * 1 ≤ length text
two_bytes code text head after first more e h b some =
    let n : length text ≡ length head + length after = ap length e ∙ length-append head after in
    let m : length head ≡ 1 = ap length h in
    let k : length after ≡ length first + length more = ap length b ∙ length-append first more in
    omega (arith, n, m, k, some)

none_opened : (n : ℕ) → 2 * 0 ≤ n
none_opened n = omega arith

pub twice_opened : (f : WasmFeatures) (op : Operator) (text : List ℕ) → EncodesOperator f text op → 2 * opened_by op ≤ length text
twice_opened f (operator.Block ty) text s =
    two_bytes 0x02 text s.head s.after s.immediates.0 s.immediates.1 s.parts s.code s.immediates.2 (block_some s.immediates.0 ty s.immediates.3)
twice_opened f (operator.Loop ty) text s =
    two_bytes 0x03 text s.head s.after s.immediates.0 s.immediates.1 s.parts s.code s.immediates.2 (block_some s.immediates.0 ty s.immediates.3)
twice_opened f (operator.If ty) text s =
    two_bytes 0x04 text s.head s.after s.immediates.0 s.immediates.1 s.parts s.code s.immediates.2 (block_some s.immediates.0 ty s.immediates.3)
twice_opened f (operator.Try ty) text s =
    two_bytes 0x06 text s.head s.after s.immediates.0 s.immediates.1 s.parts s.code s.immediates.2 (block_some s.immediates.0 ty s.immediates.3)
twice_opened f (operator.TryTable t) text s =
    let table = s.immediates.3 in
    let some : 1 ≤ length table.0 = block_some table.0 t.ty table.3 in
    let n : length s.immediates.0 ≡ length table.0 + length table.1 = ap length table.2 ∙ length-append table.0 table.1 in
    two_bytes 0x1f text s.head s.after s.immediates.0 s.immediates.1 s.parts s.code s.immediates.2 (omega (arith, n, some))
twice_opened f _ text s = none_opened (length text)

pub twice_opened_along : (f : WasmFeatures) (offset : ℕ) (ps : Placed) (text : List ℕ) → LaidOut f offset text ps → 2 * opened_along ps ≤ length text
twice_opened_along f offset [] text l = omega arith
twice_opened_along f offset (p ∷ ps) text (eo, first, more, e, s, l) =
    let n : length text ≡ length first + length more = ap length e ∙ length-append first more in
    let a = twice_opened f p.0 first s in
    let b = twice_opened_along f (offset + length first) ps more l in
    omega (arith, n, a, b)

pub opened_along-append : (ps qs : Placed) → opened_along (ps ++ qs) ≡ opened_along ps + opened_along qs
opened_along-append [] qs = omega arith
opened_along-append (p ∷ ps) qs = let h = opened_along-append ps qs in omega (arith, h)

without_length : (kind : FrameKind) (inside : List FrameKind) → length (without_innermost_in kind inside) ≡ length inside
without_length kind [] = refl
without_length kind (next ∷ inside) = let n = without_length next inside in omega (arith, n)

changed_length : (kind : FrameKind) (inside : List FrameKind) (c : FrameChange) →
    length (frames_changed (kind ∷ inside) c) ≤ length (kind ∷ inside) + opened c
changed_length kind inside change.Stays = omega arith
changed_length kind inside (change.Opens inner) = let n = length-append (kind ∷ inside) (inner ∷ []) in omega (arith, n)
changed_length kind inside (change.Turns other) =
    let n = length-append (without_innermost_in kind inside) (other ∷ []) in
    let m = without_length kind inside in
    omega (arith, n, m)
changed_length kind inside change.Closes = let m = without_length kind inside in omega (arith, m)

pub after_length : {A : Type 0} (frames : List FrameKind) (role : Role A) (next : List FrameKind) → frames_after frames role ≡ Some next →
    length next ≤ length frames + opened (change_of role)
after_length [] role next e = absurd (cc e)
after_length (kind ∷ inside) role next e =
    let same : next ≡ frames_changed (kind ∷ inside) (change_of role) =
    some_is (sym e ∙ frames_follow (kind ∷ inside) role (IsSome_of (frames_after (kind ∷ inside) role) next e)) in
    let n : length next ≡ length (frames_changed (kind ∷ inside) (change_of role)) = ap length same in
    let h = changed_length kind inside (change_of role) in
    omega (arith, n, h)

pub along_length : (ps : Placed) (frames next : List FrameKind) → frames_along frames (roles_of (operators ps)) ≡ Some next →
    length next ≤ length frames + opened_along ps
along_length [] frames next e = let n : length next ≡ length frames = ap length (sym (some_is e)) in omega (arith, n)
along_length (p ∷ ps) frames next e =
    let b = bound (λ between. frames_along between (roles_of (operators ps))) (frames_after frames (role_of p.0)) next e in
    let first = after_length frames (role_of p.0) b.0 b.1 in
    let others = along_length ps b.0 next b.2 in
    omega (arith, first, others)

opened_one : (c : FrameChange) → OpensFrame c → opened c ≡ 1
opened_one (change.Opens kind) h = refl
opened_one change.Stays h = absurd h
opened_one (change.Turns kind) h = absurd h
opened_one change.Closes h = absurd h

opened_some : (c : FrameChange) → 0 < opened c → OpensFrame c
opened_some (change.Opens kind) h = tt
opened_some change.Stays h = absurd (omega (arith, h))
opened_some (change.Turns kind) h = absurd (omega (arith, h))
opened_some change.Closes h = absurd (omega (arith, h))

pub opener_leads : (f : WasmFeatures) (op : Operator) (text : List ℕ) → EncodesOperator f text op → 0 < opened_by op →
    (byte : ℕ) × BeginsWith byte text × OpensFrame (change_at byte)
opener_leads f op text s some =
    let byte = first_byte (prefix_of op) (opcode_of op) in
    let begins = begins_encoding f op text s in
    (byte, begins, subst OpensFrame (sym (changes_first f op text byte s begins)) (opened_some (change_of (role_of op)) some))

pub leads_opener : (f : WasmFeatures) (op : Operator) (text : List ℕ) (byte : ℕ) → EncodesOperator f text op → BeginsWith byte text →
    OpensFrame (change_at byte) → opened_by op ≡ 1
leads_opener f op text byte s begins opens = opened_one (change_of (role_of op)) (subst OpensFrame (changes_first f op text byte s begins) opens)
