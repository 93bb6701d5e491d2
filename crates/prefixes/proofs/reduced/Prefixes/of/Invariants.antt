use Rattle.prefixes.specs.Private.Apart.{bytes_of}
use Rattle.prefixes.proofs.ReducedLemmas.{Keeps}
use Rattle.prefixes.proofs.reduced.Prefixes.of.Given as goal

abbrev pub invariant-loop-text : goal.invariant-loop-text
invariant-loop-text l = Keeps l.text-items l.text-index (bytes_of l.kept.items)
