use Rattle.std.proofs.Common.{map, drop}
use Rattle.ere.specs.Tree.{form, trees_of}
use Rattle.ere.specs.Tree as tree
use Rattle.trigram.specs.Analysis.{analysis_of, both_all, either_all}
use Rattle.trigram.proofs.AnalysisLemmas.{IsAnalysedSoFar}
use Rattle.trigram.proofs.analysis.+analysis.Given as goal

abbrev pub invariant-analysis_of_neighbours-loop-i : goal.invariant-analysis_of_neighbours-loop-i
invariant-analysis_of_neighbours-loop-i l =
    IsAnalysedSoFar both_all (trees_of (map form (drop l.i l.members))) (analysis_of (tree.cat (trees_of (map form l.members)))) l.whole

abbrev pub invariant-analysis_of_alternatives-loop-i : goal.invariant-analysis_of_alternatives-loop-i
invariant-analysis_of_alternatives-loop-i l =
    IsAnalysedSoFar either_all (trees_of (map form (drop l.i l.members))) (analysis_of (tree.alt (trees_of (map form l.members)))) l.whole
