use Rattle.std.proofs.Common.{refl, sym, ◌∙◌}
use Rattle.names.proofs.numbers.between.Goals as goal

pub returns-then-are_above-clause-same : goal.returns-then-are_above-clause-same
returns-then-are_above-clause-same c = λ n low high. sym (sym (c.not_below-rest.ensures.same n low) ∙ c.if-are_above.ensures refl n high)

pub returns-clause-same : goal.returns-clause-same
returns-clause-same c = λ n low high. c.not_above.ensures.same n high ∙ c.not_below-rest.ensures.same n low
