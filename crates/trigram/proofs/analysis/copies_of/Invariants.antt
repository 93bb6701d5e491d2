use Rattle.trigram.specs.Analysis.{copies_of}
use Rattle.trigram.specs.Private.Values.{shown_analysis, without_condition, StandFor}
use Rattle.trigram.proofs.analysis.copies_of.Given as goal

abbrev pub invariant-loop-made : goal.invariant-loop-made
invariant-loop-made l =
    StandFor (copies_of (shown_analysis l.fn.one) l._made) l.whole × StandFor (without_condition (shown_analysis l.fn.one)) l.copy
