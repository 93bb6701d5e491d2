use Rattle.std.proofs.Common.{◌≡◌, ◌+◌, ◌≤◌, take, length}
use Rattle.search.specs.Private.Ways.{byte_limit, bytes_in}
use Rattle.search.proofs.matching.few_documents.Given as goal

abbrev pub invariant-loop-at : goal.invariant-loop-at
invariant-loop-at l = record {
  left : l.left + bytes_in (take l.at l.documents) ≡ byte_limit;
  at : l.at ≤ length l.documents;
}
