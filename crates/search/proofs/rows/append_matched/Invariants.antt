use Rattle.std.specs.List.{All}
use Rattle.prepare.specs.Prepared.{request_of}
use Rattle.views.specs.Rows.{shown_tree}
use Rattle.search.specs.Private.Rows.{IsMatchRow}
use Rattle.search.specs.Private.Seekers.{IsOneLine, Seeks}
use Rattle.search.proofs.RowLemmas.{RowsOfSoFar}
use Rattle.search.proofs.rows.append_matched.Given as goal

abbrev pub invariant-loop-found : goal.invariant-loop-found
invariant-loop-found g l = record {
  so_far : RowsOfSoFar l.prepared.zero (IsMatchRow l.spans (request_of l.prepared)) l.found-iterator l.initial.found-iterator l.initial.out.items l.out.items;
  lines : All (λ h. IsOneLine h.text) l.found-iterator;
  seeks : Seeks (shown_tree (request_of l.prepared)) l.seeker;
}
