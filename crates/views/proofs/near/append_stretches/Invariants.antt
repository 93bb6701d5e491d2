use Rattle.std.proofs.Common.{◌≤◌, ◌+◌, ◌*◌, length}
use Rattle.views.specs.Private.Near.{Leads}
use Rattle.views.proofs.NearLemmas.{Walk}
use Rattle.views.proofs.near.append_stretches.Given as goal

abbrev pub invariant-loop-rest : goal.invariant-loop-rest
invariant-loop-rest g l = record {
  walk : Walk l.zero l.most l.hits l.document.name l.document.held l.initial.out.items l.out.items l.rows l.line l.next l.rest;
  leads : Leads l.most l.hits l.line l.far l.ahead;
  room : l.line + length l.rest ≤ 67108865;
  few : l.rows + 2 ≤ 2 * l.line;
}

abbrev pub decreases-loop-rest : goal.decreases-loop-rest
decreases-loop-rest g l = length l.rest
