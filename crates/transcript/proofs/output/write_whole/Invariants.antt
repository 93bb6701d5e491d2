use Rattle.transcript.specs.Written.{AppendsAllBut}
use Rattle.transcript.proofs.output.write_whole.Given as goal

abbrev pub invariant-loop : goal.invariant-loop
invariant-loop g l = AppendsAllBut (g.W.Write.contents l.initial.out) (g.W.Write.contents l.out) l.fn.bytes l.rest
