use Rattle.std.proofs.Common.{◌≡◌, ◌≤◌, length}
use Rattle.documents.specs.Text.{has_line_over}
use Rattle.documents.proofs.body.has_line_over.Given as goal

abbrev pub invariant-loop-rest : goal.invariant-loop-rest
invariant-loop-rest l = record {
  same : has_line_over l.fn.most l.fn.bytes ≡ has_line_over l.fn.most l.rest;
  shorter : length l.rest ≤ length l.fn.bytes;
}

abbrev pub decreases-loop-rest : goal.decreases-loop-rest
decreases-loop-rest l = length l.rest
