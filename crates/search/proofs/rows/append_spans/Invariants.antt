use Rattle.std.proofs.Common.{◌-◌, length}
use Rattle.prepare.specs.Prepared.{request_of}
use Rattle.views.specs.Rows.{shown_tree}
use Rattle.search.specs.Private.Seekers.{Seeks}
use Rattle.search.proofs.RowLemmas.{SpansSoFar}
use Rattle.search.proofs.rows.append_spans.Given as goal

abbrev pub invariant-loop-span : goal.invariant-loop-span
invariant-loop-span g l = record {
  so_far : SpansSoFar l.line (shown_tree (request_of l.prepared)) l.whole_words l.from l.initial.out.items l.out.items l.before;
  seeks : Seeks (shown_tree (request_of l.prepared)) l.seeker;
}

abbrev pub decreases-loop-span : goal.decreases-loop-span
decreases-loop-span g l = length l.line - l.from
