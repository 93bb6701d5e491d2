use Rattle.std.proofs.Common.{◌+◌, length}
use Rattle.posting.proofs.Moves.{Moves}
use Rattle.posting.proofs.postings.Postings.move_until.Given as goal

abbrev pub invariant-loop-next : goal.invariant-loop-next
invariant-loop-next l = Moves l.old l.new l.from l.number l.initial.self l.self l.olds l.news

abbrev pub decreases-loop-next : goal.decreases-loop-next
decreases-loop-next l = length l.olds + length l.news
