use Rattle.std.proofs.Common.{◌≤◌, take, length}
use Rattle.std.specs.Prelude.{◌≢◌, All}
use Rattle.service.proofs.service.place_in.Given as goal

abbrev pub invariant-loop-place : goal.invariant-loop-place
invariant-loop-place l = record {
  before : All (λ search. search.number ≢ l.number) (take l.place l.awaited);
  place : l.place ≤ length l.awaited;
}
