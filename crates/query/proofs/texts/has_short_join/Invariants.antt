use Rattle.query.proofs.texts.has_short_join.Given as goal

abbrev pub invariant-loop-prefix : goal.invariant-loop-prefix
invariant-loop-prefix l = Unit {0}
