use Rattle.std.proofs.Common.{drop}
use Rattle.query.specs.Trigrams.{has_all_trigrams}
use Rattle.query.specs.Query.{formula_of}
use Rattle.query.proofs.TextLemmas.{IsQuerySoFar}
use Rattle.query.proofs.texts.query_of_text.Given as goal

abbrev pub invariant-loop-i : goal.invariant-loop-i
invariant-loop-i l = IsQuerySoFar (has_all_trigrams (drop l.i l.text)) (has_all_trigrams l.text) (formula_of l.query)
