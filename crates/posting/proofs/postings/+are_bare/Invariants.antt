use Rattle.std.proofs.Common.{length}
use Rattle.posting.proofs.postings.+are_bare.Given as goal

abbrev pub decreases-are_bare : goal.decreases-are_bare
decreases-are_bare l = length l.parts.now
