use Rattle.std.proofs.Common.{◌++◌, length}
use Rattle.views.specs.Text.{text_of_hits}
use Rattle.transcript.proofs.WriteLemmas.{IsDoneTo}
use Rattle.transcript.proofs.output.write_lines.Given as goal

abbrev pub invariant-loop-rest : goal.invariant-loop-rest
invariant-loop-rest g l =
    IsDoneTo (g.W.Write.contents l.initial.out) (g.W.Write.contents l.out) (l.initial.text.items ++ text_of_hits l.fn.zero l.fn.lines)
    (l.formed.items ++ text_of_hits l.fn.zero l.rest) l.text.items

abbrev pub decreases-loop-rest : goal.decreases-loop-rest
decreases-loop-rest g l = length l.rest
