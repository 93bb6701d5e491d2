use Rattle.std.proofs.Common.{◌≡◌, ◌-◌, ◌≤◌, ◌++◌, List, length, drop}
use Rattle.names.specs.Private.Entries.{Entry, laid_over}
use Rattle.names.proofs.builder.Builder.add_over.Given as goal

abbrev pub invariant-loop-at : goal.invariant-loop-at
invariant-loop-at l = record {
  inside : l.at ≤ length l.chunk;
  done : (later : List Entry) → l.self ++ laid_over (drop l.at l.chunk ++ later) l.rest ≡ l.fn.self ++ laid_over (l.chunk ++ later) l.fn.rest;
}

abbrev pub decreases-loop-at : goal.decreases-loop-at
decreases-loop-at l = length l.chunk - l.at
