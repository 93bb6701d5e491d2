use Rattle.std.proofs.Common.{◌≤◌, ℕ, List}
use Rattle.event_loop.specs.Running.{now, start_at}
use Rattle.event_loop.specs.Serving.{IsServing}
use Rattle.event_loop.proofs.items.carry_out_all.Given as goal

abbrev pub invariant-loop : goal.invariant-loop
invariant-loop g l = record {
  iterator : (goal.iterator-loop g).can_next l.iterator' × (goal.iterator-loop g).is_finite l.iterator';
  serving : IsServing g.W.Sink.Sink.does (g.W.Source.Source.holds l.fn.source) l.plan.readers g.W.Items.Naming.input
      (start_at l.fn.service.limits (g.W.Source.Source.failed l.fn.source) l.fn.sink l.fn.out) l.inbox (now l.service (g.W.Source.Source.failed l.source) l.sink l.out);
  held : (path body : List ℕ)
      → (g.W.Source.Source.holds l.source path body → g.W.Source.Source.holds l.fn.source path body)
      × (g.W.Source.Source.holds l.fn.source path body → g.W.Source.Source.holds l.source path body);
  counted : g.W.Source.Source.failed l.fn.source ≤ g.W.Source.Source.failed l.source;
}
