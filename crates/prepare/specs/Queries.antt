-- The query of a test of lines.
use Rattle.std.specs.Prelude.{◌≡◌, Bool, ◌||◌}
use Rattle.query.specs.declared.query.Query.{Query}
use Rattle.query.specs.Trigrams.{TrigramSet}
use Rattle.query.specs.Query.{formula_of, is_met}
use Rattle.trigram.specs.Analysis.{condition}
use Rattle.prepare.specs.Pattern.{Test}

-- whether a document with these trigrams can have a line that passes the test: always, if lines without a match are asked for
abbrev pub can_have : Test → TrigramSet → Bool
can_have test set = test.inverted || condition test.tree set

-- The query is met exactly by the sets of trigrams with which a document can have a line that passes the test.
abbrev pub IsQueryOf : Test → Query → Type 0
IsQueryOf test query = (set : TrigramSet) → is_met (formula_of query) set ≡ can_have test set
