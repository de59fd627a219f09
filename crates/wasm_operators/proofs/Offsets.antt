use Rattle.std.proofs.Common.{◌≡◌, ℕ, ◌+◌, ◌-◌, ◌≤◌, List, length, Err, inl, inr, sym, ap, ◌∙◌, length-append, length-drop, arith}
use Rattle.wasm_below.specs.declared.error.Error.{Error}
use Rattle.wasm_below.specs.Source.{Reader, rest, offset_of, end_of, Takes, IsAhead}
use Rattle.wasm_operators.specs.Reading.{State, Finishes, StopsRead, StopsRun, Decoder}

here : (r : Reader) (offset : ℕ) → offset_of r ≤ end_of r → offset ≡ offset_of r → IsAhead r offset
here r offset within at = (omega (arith, at), omega (arith, at, within))

pub read_ahead : (decoder : Decoder) (e : Error) (s : State) → StopsRead decoder e s →
    offset_of s.reader ≤ end_of s.reader → IsAhead s.reader e.offset
read_ahead decoder e s (inl none) within = here s.reader e.offset within none.2
read_ahead decoder e s (inr (inl there)) within = there.ahead
read_ahead decoder e s (inr (inr memory)) within = here s.reader e.offset within memory.1

pub finish_ahead : (e : Error) (s : State) → Finishes {X = Unit {0}} (Err e) s → offset_of s.reader ≤ end_of s.reader → IsAhead s.reader e.offset
finish_ahead e s (at, stops) within = here s.reader e.offset within at

pub run_ahead : (decoder : Decoder) (e : Error) (s : State) → StopsRun decoder e s →
    offset_of s.reader ≤ end_of s.reader → IsAhead s.reader e.offset
run_ahead decoder e s (inl left) within = here s.reader e.offset within left.3
run_ahead decoder e s (inr (some, stops)) within = read_ahead decoder e s stops within

pub took_within : (old new : Reader) (text : List ℕ) → Takes old new text → offset_of old ≤ end_of old →
    (offset_of old ≤ offset_of new) × (offset_of new ≤ end_of new) × (end_of new ≡ end_of old)
took_within old new text takes within =
    let there : offset_of new ≡ offset_of old + length text = ap offset_of takes.moved ∙ omega arith in
    let end : end_of new ≡ end_of old = ap end_of takes.moved in
    let left : length old.buffer - old.position ≡ length text + length (rest new) =
    sym (length-drop old.position old.buffer) ∙ ap length takes.parts ∙ length-append text (rest new) in
    let inside : old.start + old.position ≤ old.start + length old.buffer = within in
    let few : offset_of old + length text ≤ end_of old = omega (arith, left, inside) in
    (omega (arith, there), omega (arith, there, end, few), end)
