use Rattle.std.proofs.Common.{◌≤◌}
use Rattle.service.specs.Service.{SetsAside}
use Rattle.event_loop.proofs.items.await_answer.Given as goal

abbrev pub invariant-loop : goal.invariant-loop
invariant-loop g l = record {
  iterator : (goal.iterator-loop g).can_next l.iterator' × (goal.iterator-loop g).is_finite l.iterator';
  aside : SetsAside l.fn.service l.service;
  few : l.ahead ≤ 7;
  begun : g.W.Sink.Sink.begun l.ahead l.fn.sink l.fn.out l.sink l.out;
}
