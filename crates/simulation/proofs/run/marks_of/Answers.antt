use Rattle.std.proofs.Common.{◌∙◌}
use Rattle.simulation.proofs.Masks as masks
use Rattle.simulation.proofs.run.marks_of.Goals as goal

pub returns-clause-low : goal.returns-clause-low
returns-clause-low c = λ b inside.
    masks.marks_low c.has_mark.result c.word_if.result c.lowest_bits.result c.args.copies b c.requires.1 inside (c.word_if.ensures b) (c.lowest_bits.ensures.low b inside)
    ∙ c.has_mark.ensures
