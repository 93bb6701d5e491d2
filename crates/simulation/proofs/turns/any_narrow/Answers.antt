use Rattle.simulation.proofs.Folding as folding
use Rattle.simulation.proofs.turns.any_narrow.Goals as goal

pub returns : goal.returns
returns c = λ k low.
    folding.parts_are_turns c.args.counts c.args.lowest c.args.read.now c.any_word-word.result c.folded.result k c.requires.stride c.requires.all low
    c.any_word-word.ensures (c.folded.ensures k low)
