use Rattle.views.proofs.TextLemmas.{WritesSoFar}
use Rattle.views.proofs.text.append_lines.Given as goal

abbrev pub invariant-loop-hit : goal.invariant-loop-hit
invariant-loop-hit l = WritesSoFar l.zero l.initial.out.items l.initial.hit-iterator l.hit-iterator l.out.items
