use Rattle.query.proofs.texts.is_short_before_one.Given as goal

abbrev pub invariant-loop-suffix : goal.invariant-loop-suffix
invariant-loop-suffix l = Unit {0}
