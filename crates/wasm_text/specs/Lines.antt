-- In the form of wabt's `wasm-objdump -d`. Specification: Binary Format, Control
-- Instructions. Proposal legacy exception handling.
use Rattle.std.specs.Prelude.{◌==◌, ℕ, ◌+◌, ◌-◌, List, [], ◌∷◌, ◌++◌, take, drop, slice_index, codes, decimal, if◌then◌else◌}
use Rattle.wasm_grammar.specs.declared.frame_change.FrameChange.{FrameChange}
use Rattle.wasm_grammar.specs.declared.frame_change.FrameChange.TheVariants as change
use Rattle.wasm_instr.specs.Roles.{change_at}
use Rattle.wasm_text.specs.Rows.{offset_text, line_of}

-- A name in angle brackets; nothing if it is empty.
abbrev pub shown_name : List ℕ → List ℕ
shown_name [] = []
shown_name name = codes " <" ++ (name ++ codes ">")

-- The offset of a function's body, its index and its name.
abbrev pub header_of : ℕ → ℕ → List ℕ → List ℕ
header_of offset index name = offset_text offset ++ ((codes " func[" ++ (decimal index ++ codes "]")) ++ (shown_name name ++ 58 ∷ 10 ∷ []))

-- The indices of `number` locals: the first, and the last unless `number` is 1.
abbrev pub shown_indices : ℕ → ℕ → List ℕ
shown_indices first number =
    if number == 1
    then codes "local[" ++ (decimal first ++ codes "] type=")
    else codes "local[" ++ (decimal first ++ (codes ".." ++ (decimal (first + number - 1) ++ codes "] type=")))

-- What the operator with these bytes does to the frames.
abbrev pub change_in : List ℕ → FrameChange
change_in bytes = change_at (slice_index bytes 0)

-- How many levels a line is indented, if `depth` constructs are open before it. A line that turns or
-- closes a construct is indented like its opener.
abbrev pub depth_of : FrameChange → ℕ → ℕ
depth_of (change.Turns kind) depth = depth - 1
depth_of change.Closes depth = depth - 1
depth_of _ depth = depth

-- How many constructs are open after an operator, if `depth` are open before it.
abbrev pub depth_after : FrameChange → ℕ → ℕ
depth_after (change.Opens kind) depth = depth + 1
depth_after change.Closes depth = depth - 1
depth_after _ depth = depth

-- The bytes from one offset to another; the first byte is at `start`.
abbrev pub between : ℕ → List ℕ → ℕ → ℕ → List ℕ
between start bytes from to = take (to - from) (drop (from - start) bytes)

-- The offset of the next operator, or `end` after the last one.
abbrev pub next_offset : {Op : Type 0} → ℕ → List (Op × ℕ) → ℕ
next_offset end [] = end
next_offset end (p ∷ ps) = p.1

-- The lines of operators. Each has the bytes up to the next operator, or up to `end`. The bytes
-- start at `start`, and `depth` constructs are open.
abbrev pub lines_from : {Op : Type 0} → (Op → List ℕ) → ℕ → List ℕ → ℕ → ℕ → List (Op × ℕ) → List ℕ
lines_from text start bytes end depth [] = []
lines_from text start bytes end depth (p ∷ ps) =
    let shown = between start bytes p.1 (next_offset end ps) in
    line_of (depth_of (change_in shown) depth) p.1 shown (text p.0) ++ lines_from text start bytes end (depth_after (change_in shown) depth) ps

abbrev pub lines_of : {Op : Type 0} → (Op → List ℕ) → ℕ → List ℕ → ℕ → List (Op × ℕ) → List ℕ
lines_of text start bytes end placed = lines_from text start bytes end 0 placed
