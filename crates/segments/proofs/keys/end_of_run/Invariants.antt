use Rattle.std.proofs.Common.{length, ◌-◌, ◌≡◌, ◌<◌, ◌≤◌, ℕ}
use Rattle.std.specs.Prelude.{slice_index}
use Rattle.segments.specs.Private.Keys.{trigram_in}
use Rattle.segments.proofs.keys.end_of_run.Given as goal

abbrev pub invariant-loop-end : goal.invariant-loop-end
invariant-loop-end l = record {
  nonempty : l.start < l.end;
  within : l.end ≤ length l.keys;
  same : (i : ℕ) → l.start ≤ i → i < l.end → trigram_in (slice_index l.keys i) ≡ trigram_in (slice_index l.keys l.start);
}

abbrev pub decreases-loop-end : goal.decreases-loop-end
decreases-loop-end l = length l.keys - l.end
