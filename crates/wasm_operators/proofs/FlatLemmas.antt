-- Prefixes by trees and prefixes by frames alone are the same.
use Rattle.std.proofs.Common.{List, [], ◌∷◌, ◌++◌, sym, subst}
use Rattle.std.specs.Prelude.{◌↔◌}
use Rattle.wasm_below.specs.Source.{Source}
use Rattle.wasm_grammar.specs.declared.frame_kind.FrameKind.{FrameKind}
use Rattle.wasm_grammar.specs.declared.frame_kind.FrameKind.TheVariants as frame
use Rattle.wasm_grammar.specs.Beginning.{BeginsWalk}
use Rattle.wasm_grammar.specs.Frames.{frames_along}
use Rattle.wasm_grammar.specs.OpenPath.{OpenPath}
use Rattle.wasm_grammar.proofs.Runs.{some_of, IsSome_of, path_run, path_runs_on}
use Rattle.wasm_grammar.proofs.Steps.{path_start}
use Rattle.wasm_instr.specs.declared.operator.Operator.{Operator}
use Rattle.wasm_instr.specs.Roles.{roles_of}
use Rattle.wasm_operators.specs.Expression.{Placed, OfPlaced, IsAny, operators, AreEncoded, IsPrefixAfter, Longest, IsLongestBeginning}
use Rattle.wasm_operators.specs.Flat.{IsAllowedFrom, IsFlatBeginning}
use Rattle.wasm_operators.proofs.LayoutLemmas.{roles_of-append, laid_encoded, both_encoded, path_begins, begins_walk}

pub allowed_begins : (before : List Operator) (frames : List FrameKind) (s : Source) (placed : Placed) → AreEncoded s.features before →
    OpenPath (roles_of before) frames → IsAllowedFrom frames s placed → IsPrefixAfter before s placed
allowed_begins before frames s placed encodes path h =
    let along = some_of (frames_along frames (roles_of (operators placed))) h.allowed in
    let on = path_run (roles_of (operators placed)) frames (roles_of before) along.0 path along.1 in
    record {
      beginning = h.beginning;
      more = h.more;
      parts = h.parts;
      laid = h.laid;
      begins = path_begins s.features (before ++ operators placed) along.0
          (subst (λ roles. OpenPath roles along.0) (sym (roles_of-append before (operators placed))) on)
          (both_encoded s.features before (operators placed) encodes (laid_encoded s.features s.offset placed h.beginning h.laid));
    }

pub begins_allowed : (before : List Operator) (frames : List FrameKind) (s : Source) (placed : Placed) → OpenPath (roles_of before) frames →
    IsPrefixAfter before s placed → IsAllowedFrom frames s placed
begins_allowed before frames s placed path h =
    let walk = subst BeginsWalk (roles_of-append before (operators placed)) (begins_walk s.features (before ++ operators placed) h.begins) in
    let on = path_runs_on frames (roles_of before) (roles_of (operators placed)) path walk in
    record {
      beginning = h.beginning;
      more = h.more;
      parts = h.parts;
      laid = h.laid;
      allowed = IsSome_of (frames_along frames (roles_of (operators placed))) on.0 on.1;
    }

pub flat_longest : (Kept : OfPlaced) (before : List Operator) (frames : List FrameKind) (s : Source) (placed : Placed) → AreEncoded s.features before →
    OpenPath (roles_of before) frames → Longest (IsAllowedFrom frames s) Kept placed → Longest (IsPrefixAfter before s) Kept placed
flat_longest Kept before frames s placed encodes path h =
    record {
      beginning = allowed_begins before frames s placed encodes path h.beginning;
      kept = h.kept;
      longest = λ others other. h.longest others (begins_allowed before frames s others path other);
    }

pub longest_flat : (Kept : OfPlaced) (before : List Operator) (frames : List FrameKind) (s : Source) (placed : Placed) → AreEncoded s.features before →
    OpenPath (roles_of before) frames → Longest (IsPrefixAfter before s) Kept placed → Longest (IsAllowedFrom frames s) Kept placed
longest_flat Kept before frames s placed encodes path h =
    record {
      beginning = begins_allowed before frames s placed path h.beginning;
      kept = h.kept;
      longest = λ others other. h.longest others (allowed_begins before frames s others encodes path other);
    }

pub flat_is_longest : (s : Source) (placed : Placed) → IsFlatBeginning s placed ↔ IsLongestBeginning s placed
flat_is_longest s placed =
    (flat_longest IsAny [] (frame.Block ∷ []) s placed tt path_start, longest_flat IsAny [] (frame.Block ∷ []) s placed tt path_start)
