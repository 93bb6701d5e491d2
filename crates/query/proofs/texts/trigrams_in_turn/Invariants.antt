use Rattle.std.proofs.Common.{◌≡◌, ◌&&◌, drop}
use Rattle.std.specs.List.{list_all}
use Rattle.query.specs.Trigrams.{TrigramSet, has_all_trigrams}
use Rattle.query.proofs.texts.trigrams_in_turn.Given as goal

abbrev pub invariant-loop-i : goal.invariant-loop-i
invariant-loop-i l =
    (set : TrigramSet) → (list_all set l.trigrams.items && has_all_trigrams (drop l.i l.text) set) ≡ has_all_trigrams l.text set
