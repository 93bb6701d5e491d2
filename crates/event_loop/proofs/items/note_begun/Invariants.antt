use Rattle.service.specs.Service.{SetsAside}
use Rattle.event_loop.proofs.items.note_begun.Given as goal

abbrev pub invariant-loop : goal.invariant-loop
invariant-loop g l = record {
  iterator : (goal.iterator-loop g).can_next l.iterator' × (goal.iterator-loop g).is_finite l.iterator';
  aside : SetsAside l.fn.service l.service;
}
