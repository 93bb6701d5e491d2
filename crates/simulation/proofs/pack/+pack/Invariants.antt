use Rattle.std.proofs.Common.{map, drop, take, min, Some}
use Rattle.ere.specs.Tree.{form, repeat, trees_of}
use Rattle.spans.specs.Spans.{Spans, SpansEach}
use Rattle.simulation.specs.Packing.{IsSomeNode}
use Rattle.simulation.specs.Private.Sequences.{GoesOn}
use Rattle.simulation.proofs.pack.+pack.Given as goal

abbrev pub invariant-then_each-loop-i : goal.invariant-then_each-loop-i
invariant-then_each-loop-i l = GoesOn (λ line. SpansEach line (trees_of (map form (take l.i l.members)))) l.fn.sequence l.longer l.copies

abbrev pub invariant-then_turns-loop-turn : goal.invariant-then_turns-loop-turn
invariant-then_turns-loop-turn l = GoesOn (λ line. Spans line (repeat (form l.body) (min l.least l.turn) (Some l.turn))) l.fn.sequence l.longer l.copies

abbrev pub invariant-pack_some-loop-i : goal.invariant-pack_some-loop-i
invariant-pack_some-loop-i l = IsSomeNode (trees_of (map form (drop l.i l.members))) l.rest l.copies
