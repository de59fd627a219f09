-- The memory of the frames stays within the bound, in one read and in several.
use Rattle.std.proofs.Common.{◌≡◌, ℕ, ◌+◌, ◌*◌, ◌<◌, ◌≤◌, List, [], ◌∷◌, ◌++◌, length, Option, Some, None, inl, inr, refl, subst, sym, ap, ◌∙◌, arith}
use Rattle.std.specs.Option.{option_and_then}
use Rattle.wasm_below.specs.declared.features.WasmFeatures.{WasmFeatures}
use Rattle.wasm_grammar.specs.declared.frame_kind.FrameKind.{FrameKind}
use Rattle.wasm_grammar.specs.Frames.{frames_after, frames_along, innermost}
use Rattle.wasm_grammar.proofs.Innermost.{innermost_not_empty}
use Rattle.wasm_instr.specs.Roles.{role_of, roles_of}
use Rattle.wasm_operators.specs.Reading.{State, KeepsMemory, FrameMayAllocate, GrowsForFrame, GrowsForFrames}
use Rattle.wasm_operators.specs.Stack.{IsLittleMemory, frame_memory}
use Rattle.wasm_operators.specs.Expression.{Placed, operators, LaidOut}
use Rattle.wasm_operators.specs.Openings.{opened_along, most_open}
use Rattle.wasm_operators.proofs.OpeningLemmas.{twice_opened_along, along_length, after_length}

pub memory_stays : (m frames more : ℕ) → IsLittleMemory m frames more m
memory_stays m frames more = omega arith

pub as_little : (m frames more now next : ℕ) → IsLittleMemory m frames more now → next ≡ now → IsLittleMemory m frames more next
as_little m frames more now next little same = subst (λ n. IsLittleMemory m frames more n) (sym same) little

pub little_both : (m frames bytes mid inside more now : ℕ) → IsLittleMemory m frames (bytes + 10) mid → 2 * inside ≤ 2 * frames + bytes →
    IsLittleMemory mid inside (more + 10) now → IsLittleMemory m frames ((bytes + more) + 10) now
little_both m frames bytes mid inside more now first few next = omega (arith, first, next, few)

pub little_longer : (m frames bytes now : ℕ) → IsLittleMemory m frames 10 now → IsLittleMemory m frames (bytes + 10) now
little_longer m frames bytes now h = omega (arith, h)

pub little_more : (m frames bytes mid inside more now : ℕ) → IsLittleMemory m frames (bytes + 10) mid → IsLittleMemory mid inside 10 now →
    2 * inside ≤ 2 * frames + bytes → IsLittleMemory m frames ((bytes + more) + 10) now
little_more m frames bytes mid inside more now first next few = omega (arith, first, next, few)

pub few_frames : (f : WasmFeatures) (offset : ℕ) (placed : Placed) (text : List ℕ) (frames next : List FrameKind) → LaidOut f offset text placed →
    frames_along frames (roles_of (operators placed)) ≡ Some next → 2 * length next ≤ 2 * length frames + length text
few_frames f offset placed text frames next laid along =
    let opened = along_length placed frames next along in
    let twice = twice_opened_along f offset placed text laid in
    omega (arith, opened, twice)

pub most_least : (frames : List FrameKind) (placed : Placed) → length frames ≤ most_open (Some frames) placed
most_least frames [] = omega arith
most_least frames (p ∷ ps) = omega arith

-- Space for two lists is space for the joined list.
pub most_both : (q : Option (List FrameKind)) (first second : Placed) (mid : List FrameKind) (n : ℕ) →
    option_and_then (λ frames. frames_along frames (roles_of (operators first))) q ≡ Some mid → most_open q first ≤ n → most_open (Some mid) second ≤ n →
    most_open q (first ++ second) ≤ n
most_both None first second mid n along few more = absurd (cc along)
most_both (Some frames) [] second mid n along few more =
    let same : mid ≡ frames = cc along in
    subst (λ (x : List FrameKind). most_open (Some x) second ≤ n) same more
most_both (Some frames) (p ∷ ps) second mid n along few more =
    let others = most_both (frames_after frames (role_of p.0)) ps second mid n along (omega (arith, few)) more in
    omega (arith, few, others)

most_after : (frames : List FrameKind) (placed : Placed) (q : Option (List FrameKind)) (more : ℕ) →
    ((next : List FrameKind) → q ≡ Some next → length next ≤ length frames + more) → most_open q placed ≤ length frames + (more + opened_along placed)
most_after frames placed None more few = omega arith
most_after frames [] (Some next) more few = let n = few next refl in omega (arith, n)
most_after frames (p ∷ ps) (Some next) more few =
    let n = few next refl in
    let others = most_after next ps (frames_after next (role_of p.0)) _ (λ after e. after_length next (role_of p.0) after e) in
    omega (arith, n, others)

pub twice_most_open : (f : WasmFeatures) (offset : ℕ) (placed : Placed) (text : List ℕ) (frames : List FrameKind) → LaidOut f offset text placed →
    2 * most_open (Some frames) placed ≤ 2 * length frames + length text
twice_most_open f offset placed text frames laid =
    let most = most_after frames placed (Some frames) 0 (λ next e. let same : next ≡ frames = cc e in let n = ap length same in omega (arith, n)) in
    let twice = twice_opened_along f offset placed text laid in
    omega (arith, most, twice)

most_first : (q : Option (List FrameKind)) (first second : Placed) → most_open q first ≤ most_open q (first ++ second)
most_first None first second = omega arith
most_first (Some frames) [] second = most_least frames second
most_first (Some frames) (p ∷ ps) second = let others = most_first (frames_after frames (role_of p.0)) ps second in omega (arith, others)

most_second : (q : Option (List FrameKind)) (first second : Placed) (mid : List FrameKind) →
    option_and_then (λ frames. frames_along frames (roles_of (operators first))) q ≡ Some mid → most_open (Some mid) second ≤ most_open q (first ++ second)
most_second None first second mid along = absurd (cc along)
most_second (Some frames) [] second mid along =
    let same : mid ≡ frames = cc along in
    subst (λ (x : List FrameKind). most_open (Some x) second ≤ most_open (Some frames) second) (sym same) (omega arith)
most_second (Some frames) (p ∷ ps) second mid along =
    let others = most_second (frames_after frames (role_of p.0)) ps second mid along in
    omega (arith, others)

some_open : (frames : List FrameKind) (kind : FrameKind) → innermost frames ≡ Some kind → 0 < length frames
some_open [] kind open_frame = absurd (innermost_not_empty [] kind open_frame refl)
some_open (f ∷ fs) kind open_frame = omega arith

-- the memory that a frame needs is used up
memory_full : (s : State) (placed : Placed) → FrameMayAllocate s → frame_memory s.frames s.room < most_open (Some s.frames) placed
memory_full s placed (kind, open_frame, byte, begins, opens, none) =
    let some = some_open s.frames kind open_frame in
    let least = most_least s.frames placed in
    omega (arith, none, some, least)

pub grown_along : (old new : State) (placed : Placed) → GrowsForFrame old new → GrowsForFrames old placed new
grown_along old new placed (inl same) = inl same
grown_along old new placed (inr (may, twice)) = inr (memory_full old placed may, twice)

pub grown_both : (old mid new : State) (first second : Placed) → frames_along old.frames (roles_of (operators first)) ≡ Some mid.frames →
    GrowsForFrames old first mid → GrowsForFrames mid second new → KeepsMemory mid new → GrowsForFrames old (first ++ second) new
grown_both old mid new first second along (inl same) (inl still) kept = inl (still ∙ same)
grown_both old mid new first second along (inl same) (inr (full, twice)) kept =
    let most = most_second (Some old.frames) first second mid.frames along in
    inr (omega (arith, same, full, most), omega (arith, same, twice))
grown_both old mid new first second along (inr (full, twice)) more kept =
    let most = most_first (Some old.frames) first second in
    inr (omega (arith, full, most), omega (arith, twice, kept))

-- the same memory later
pub as_grown : (old mid new : State) → GrowsForFrame old mid → frame_memory new.frames new.room ≡ frame_memory mid.frames mid.room → GrowsForFrame old new
as_grown old mid new (inl same) still = inl (still ∙ same)
as_grown old mid new (inr (may, twice)) still = inr (may, omega (arith, twice, still))
