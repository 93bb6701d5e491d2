-- There is at most one proof that two tests of sets of trigrams are the same at every set.
use Rattle.std.specs.Prelude.{◌≡◌, Bool}
use mathlib.Core.Bool.{Bool-set}
use Rattle.query.specs.Trigrams.{TrigramSet}

pub same-prop : (one other : TrigramSet → Bool) → IsProp ((set : TrigramSet) → one set ≡ other set)
same-prop one other = hlevel (Bool-set)
