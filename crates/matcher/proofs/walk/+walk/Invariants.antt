use Rattle.std.proofs.Common.{ℕ, List, map, drop}
use Rattle.ere.specs.Tree.{form, trees_of}
use Rattle.spans.specs.Spans.{Spans, SpansEach, SpansSome, Steps}
use Rattle.matcher.specs.Private.Moves.{absent, Moves, MovesIf, MovesPast}
use Rattle.matcher.proofs.Walks.{IsWidenedBy}
use Rattle.matcher.specs.Private.Rounds.{IsRounded, KeepsRounds}
use Rattle.matcher.proofs.Rounds.{IsWidening}
use Rattle.matcher.proofs.walk.+walk.Given as goal

-- If the members that are left move the positions to `to`, all members move those of the start to `to`.
abbrev pub invariant-advance_each-loop-member : goal.invariant-advance_each-loop-member
invariant-advance_each-loop-member g l =
    (to : List ℕ) → Moves (SpansEach l.line (trees_of (map form (drop l.member-index l.members)))) (g.S.PositionSet.words l.at) to
    → Moves (SpansEach l.line (trees_of (map form l.members))) (g.S.PositionSet.words l.initial.at) to

abbrev pub invariant-advance_some-loop-i : goal.invariant-advance_some-loop-i
invariant-advance_some-loop-i g l =
    Moves (SpansSome l.line (trees_of (map form (drop l.i l.members)))) (g.S.PositionSet.words l.at) (g.S.PositionSet.words l.found)

abbrev pub invariant-advance_exactly-loop-word : goal.invariant-advance_exactly-loop-word
invariant-advance_exactly-loop-word g l = Moves (Steps (Spans l.line (form l.body)) l._word) (g.S.PositionSet.words l.initial.at) (g.S.PositionSet.words l.at)

abbrev pub invariant-advance_at_most-loop-round : goal.invariant-advance_at_most-loop-round
invariant-advance_at_most-loop-round g l =
    IsWidenedBy (Spans l.line (form l.body)) l._round (g.S.PositionSet.words l.initial.at) (g.S.PositionSet.words l.found)
    (g.S.PositionSet.words l.at)

-- The same past `done`, where the members that are left are at the front only if `leads`.
abbrev pub invariant-each_past-loop-member : goal.invariant-each_past-loop-member
invariant-each_past-loop-member g l =
    (to : List ℕ)
    → MovesIf l.leads (SpansEach l.line (trees_of (map form (drop l.member-index l.members)))) (g.S.PositionSet.words l.done)
    (g.S.PositionSet.words l.at) to
    → MovesPast (SpansEach l.line (trees_of (map form l.members))) (g.S.PositionSet.words l.done) (g.S.PositionSet.words l.initial.at)
    to

abbrev pub invariant-some_past-loop-place : goal.invariant-some_past-loop-place
invariant-some_past-loop-place g l =
    MovesPast (SpansSome l.line (trees_of (map form (drop l.place l.members)))) (g.S.PositionSet.words l.done) (g.S.PositionSet.words l.at)
    (g.S.PositionSet.words l.found)

abbrev pub invariant-rounds_past-loop-grown : goal.invariant-rounds_past-loop-grown
invariant-rounds_past-loop-grown g l =
    (start : List ℕ)
    → IsRounded (Spans l.line (form l.body)) (g.S.PositionSet.words l.done) start (g.S.PositionSet.words l.initial.found)
    (g.S.PositionSet.words l.done) (g.S.PositionSet.words l.initial.known) (g.S.PositionSet.words l.initial.at)
    → IsRounded (Spans l.line (form l.body)) (g.S.PositionSet.words l.done) start (g.S.PositionSet.words l.found)
    (g.S.PositionSet.words l.over) (g.S.PositionSet.words l.known) (g.S.PositionSet.words l.at)

abbrev pub decreases-rounds_past-loop-grown : goal.decreases-rounds_past-loop-grown
decreases-rounds_past-loop-grown g l = absent (g.S.PositionSet.words l.known)

abbrev pub invariant-window_by_window-loop-window : goal.invariant-window_by_window-loop-window
invariant-window_by_window-loop-window g l =
    KeepsRounds (Spans l.line (form l.body)) (g.S.PositionSet.words l.initial.found) (g.S.PositionSet.words l.initial.known)
    (g.S.PositionSet.words l.initial.at) (g.S.PositionSet.words l.found) (g.S.PositionSet.words l.known) (g.S.PositionSet.words l.at)

abbrev pub invariant-widen-loop-round : goal.invariant-widen-loop-round
invariant-widen-loop-round g l =
    IsWidening (Spans l.line (form l.body)) (g.S.PositionSet.words l.initial.here) (g.S.PositionSet.words l.initial.known)
    (g.S.PositionSet.words l.here) (g.S.PositionSet.words l.known) (g.S.PositionSet.words l.next)

abbrev pub invariant-advance_while_new-loop-word : goal.invariant-advance_while_new-loop-word
invariant-advance_while_new-loop-word g l =
    Moves (Steps (Spans l.line (form l.body)) l._word) (g.S.PositionSet.words l.initial.at) (g.S.PositionSet.words l.at)
