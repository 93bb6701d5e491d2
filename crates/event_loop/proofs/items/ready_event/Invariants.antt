use Rattle.std.proofs.Common.{◌≡◌}
use Rattle.event_loop.proofs.items.ready_event.Given as goal

abbrev pub invariant-loop : goal.invariant-loop
invariant-loop g l = record {
  iterator : (goal.iterator-loop g).can_next l.iterator' × (goal.iterator-loop g).is_finite l.iterator';
  service : l.service ≡ l.fn.service;
}
